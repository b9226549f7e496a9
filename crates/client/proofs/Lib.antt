pub mod SealLaws
pub mod ReplyLaws
pub mod OpenLaws
