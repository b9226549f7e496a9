pub mod CountedLaws
pub mod ViewLaws
pub mod PhaseLaws
