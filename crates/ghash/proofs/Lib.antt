pub mod FieldLaws
pub mod ShiftLaws
pub mod TurnLaws
pub mod WordLaws
pub mod GhashLaws
pub mod Padding
pub mod HashLaws
