-- The laws that the proofs and the crates above cite.
pub mod Digits
pub mod Back
pub mod Reading
