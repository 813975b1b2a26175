-- The definitions that the contracts cite.
pub mod Lines
pub mod Places
pub mod Fields
