pub mod ClearLaws
pub mod StartLaws
pub mod BoundsLaws
pub mod SumsLaws
pub mod AdmitLaws
pub mod ViewLaws
pub mod EndingLaws
