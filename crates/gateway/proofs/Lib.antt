pub mod HandedLaws
pub mod CloseLaws
pub mod RevokeLaws
pub mod RequestLaws
pub mod ProofLaws
pub mod CommandLaws
pub mod ReplyLaws
