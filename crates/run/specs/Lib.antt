pub mod Reply
pub mod Slices
pub mod Started
pub mod Sums
pub mod Admitted
pub mod Ending
