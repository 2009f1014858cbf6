pub mod Passes
pub mod Scaled
pub mod Sole
