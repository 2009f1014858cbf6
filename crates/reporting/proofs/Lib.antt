pub mod ViewLaws
pub mod CodeLaws
pub mod LineLaws
