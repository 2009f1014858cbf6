pub mod SpinLaws
pub mod EveryLaws
pub mod TotalsLaws
pub mod DividedParts
