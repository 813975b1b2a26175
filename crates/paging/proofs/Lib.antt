-- The laws that the proofs and the crates above cite.
pub mod SatpLaws
pub mod WalkLaws
pub mod AccessLaws
pub mod Answered
pub mod Worked
