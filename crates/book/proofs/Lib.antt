pub mod FillLaws
pub mod RowLaws
pub mod Good
pub mod ContentLaws
pub mod LoadLaws
