pub mod RefusalLaws
pub mod RowLaws
pub mod StageLaws
pub mod Certified
pub mod ViewLaws
