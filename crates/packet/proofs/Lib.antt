pub mod CommandLaws
pub mod SealedLaws
