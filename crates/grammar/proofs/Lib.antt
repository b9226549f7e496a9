pub mod TestLaws
pub mod TwinLaws
pub mod FaultLaws
pub mod LetterLaws
pub mod HostLaws
pub mod GoodLaws
pub mod Samples
