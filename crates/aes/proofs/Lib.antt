mod WordLaws
mod ListLaws
mod KeyLaws
pub mod PreparedLaws
pub mod CipherLaws
pub mod SboxRule
pub mod Vectors
