pub mod ChainLaws
pub mod RightsLaws
pub mod BytesLaws
pub mod WordsLaws
