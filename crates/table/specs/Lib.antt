pub mod Reply
pub mod Starts
pub mod Layout
pub mod Stages
pub mod Loaded
pub mod Examples
pub mod Entries
