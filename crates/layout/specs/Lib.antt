pub mod Layout
pub mod Kinds
