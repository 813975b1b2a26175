-- The laws that the proofs and the crates above cite.
pub mod Reading
pub mod Back
pub mod Numbers
