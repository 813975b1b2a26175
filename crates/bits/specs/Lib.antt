-- The definitions that the contracts cite.
pub mod Mask
pub mod Same
pub mod Lists
pub mod Fold
