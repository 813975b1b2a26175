-- The definitions that the contracts cite.
pub mod Text
pub mod Template
