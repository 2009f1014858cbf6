pub mod RefusalLaws
pub mod InputLaws
pub mod RangeLaws
pub mod EachLaws
pub mod AgreedLaws
