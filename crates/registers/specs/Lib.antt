-- The definitions that the contracts cite.
pub mod Masks
pub mod Update
pub mod Status
pub mod Hold
pub mod Effective
