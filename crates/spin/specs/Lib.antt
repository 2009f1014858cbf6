pub mod Every
pub mod Spin
pub mod Totals
pub mod Examples
