-- The laws that the proofs and the crates above cite.
pub mod Form
pub mod WordLists
pub mod Laws
