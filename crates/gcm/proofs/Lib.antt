pub mod XorsLaws
pub mod GctrLaws
pub mod RoomLaws
pub mod GcmLaws
pub mod AnswerLaws
pub mod RoundTrip
