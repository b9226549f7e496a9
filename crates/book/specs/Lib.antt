pub mod Contents
pub mod States
pub mod Columns
