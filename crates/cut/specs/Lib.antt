pub mod CutMask
pub mod Heights
pub mod Scan
pub mod Reply
pub mod Search
pub mod Examples
