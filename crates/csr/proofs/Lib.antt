-- The laws that the proofs and the crates above cite.
pub mod StatusKept
pub mod TrapKept
pub mod RegistersKept
mod TableLaws
mod OperateLaws
