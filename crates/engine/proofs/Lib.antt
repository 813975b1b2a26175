-- Laws of the step rule and of runs.
pub mod EffectLaws
pub mod Holds
pub mod Answers
pub mod Plain
pub mod InPlace
pub mod TakingLaws
pub mod RunLaws
