pub mod BelowLaws
pub mod RecordLaws
pub mod SoundLaws
pub mod ShutLaws
