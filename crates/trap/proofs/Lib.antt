-- The laws that the proofs and the crates above cite.
pub mod First
pub mod Takeable
pub mod Status
pub mod Holdable
pub mod Quiet
pub mod Answers
