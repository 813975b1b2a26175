-- The definitions that the contracts cite.
pub mod Steps
pub mod Runs
pub mod Queries
pub mod Saved
