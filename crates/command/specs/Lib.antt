pub mod Command
pub mod Blocks
pub mod Heard
