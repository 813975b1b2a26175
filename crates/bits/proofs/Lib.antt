-- The laws that the proofs and the crates above cite.
pub mod Conjunction
pub mod BitLaws
pub mod TestLaws
pub mod BitSolve
pub mod Within
pub mod SameLaws
pub mod ListLaws
pub mod FoldLaws
