pub mod Counted
pub mod View
pub mod Right
pub mod Phases
