-- The laws that the proofs and the crates above cite.
pub mod PlaceLaws
