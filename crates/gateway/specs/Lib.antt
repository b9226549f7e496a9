pub mod Common
pub mod Close
pub mod Revoke
pub mod Request
pub mod Proof
pub mod Command
pub mod Reply
