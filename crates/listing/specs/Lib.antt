pub mod Decimal
pub mod Lines
pub mod Wrote
pub mod Page
