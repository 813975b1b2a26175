-- The laws that the proofs and the crates above cite.
pub mod WordLaws
pub mod NumberedLaws
pub mod RuleLaws
pub mod GivenLaws
pub mod PostingLaws
