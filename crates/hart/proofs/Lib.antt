-- Laws of the definitions.
pub mod Numbered
pub mod StepLaws
pub mod LeftLaws
pub mod SavedLaws
