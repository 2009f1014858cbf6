pub mod LiftedLaws
pub mod PackedLaws
pub mod StartLaws
pub mod SumsLaws
pub mod WidestLaws
pub mod ClimbLaws
pub mod Narrow
