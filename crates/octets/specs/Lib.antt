pub mod Little
pub mod Room
pub mod Same
pub mod Range
pub mod Checks
