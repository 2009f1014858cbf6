pub mod ViewLaws
pub mod WriterLaws
pub mod Accepted
