pub mod State
pub mod Field
pub mod Sbox
pub mod KeyExpansion
pub mod Cipher
pub mod Prepared
pub mod Words
