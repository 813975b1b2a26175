-- The laws that the proofs and the crates above cite.
pub mod Bytes
pub mod Packing
pub mod Held
pub mod HeldWords
pub mod WriteKept
pub mod SameLaws
