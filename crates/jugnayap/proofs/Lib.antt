pub mod AnswerLaws
pub mod StatusLaws
pub mod RunLaws
pub mod RefusedRun
