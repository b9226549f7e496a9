pub mod PieceLaws
pub mod DecimalLaws
pub mod PageLaws
pub mod LineLaws
pub mod RenderLaws
pub mod Samples
