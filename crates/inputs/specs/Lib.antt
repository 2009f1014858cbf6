pub mod Refusals
pub mod Agreed
