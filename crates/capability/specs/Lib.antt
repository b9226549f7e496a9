pub mod Enciphered
pub mod Chain
pub mod Rights
pub mod Bytes
pub mod Calls
