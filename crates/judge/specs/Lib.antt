pub mod Refusals
pub mod Items
pub mod Rows
pub mod Stages
pub mod Reply
pub mod Claims
