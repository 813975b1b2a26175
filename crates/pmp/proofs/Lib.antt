-- Laws of the definitions, which the functions' proofs and other crates cite.
pub mod SearchLaws
pub mod FoundLaws
pub mod EntryLaws
pub mod GrainLaws
pub mod GrainBits
pub mod WholeGrains
pub mod RuleLaws
pub mod Owner
pub mod Answered
