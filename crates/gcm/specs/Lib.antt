pub mod Gctr
pub mod Gcm
pub mod Answers
