pub mod NumberLaws
pub mod PartLaws
