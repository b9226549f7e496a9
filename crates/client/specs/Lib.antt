pub mod Seal
pub mod OpenReply
