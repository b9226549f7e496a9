pub mod LittleLaws
pub mod RoomLaws
pub mod WidthLaws
pub mod PlacedLaws
pub mod SameLaws
pub mod RangeLaws
pub mod CheckLaws
pub mod XorLaws
