-- The definitions that the contracts cite.
pub mod Hold
pub mod Words
pub mod Slices
pub mod Texts
