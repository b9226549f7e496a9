pub mod NumberLaws
pub mod CountedLaws
