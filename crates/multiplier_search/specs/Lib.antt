pub mod Lifted
pub mod Sums
pub mod Examples
