-- The laws that the proofs and the crates above cite.
pub mod Back
pub mod SliceLaws
pub mod Held
