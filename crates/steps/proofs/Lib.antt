-- The laws that the proofs and the crates above cite.
pub mod NumberLaws
pub mod AnswerLaws
pub mod AccessLaws
