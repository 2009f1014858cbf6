pub mod View
pub mod Ran
pub mod ReadOn
