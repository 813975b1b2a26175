-- The definitions that the contracts cite.
pub mod Effects
pub mod Taking
pub mod Runs
