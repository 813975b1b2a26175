-- The definitions that the contracts cite.
pub mod Number
pub mod Search
pub mod Entry
pub mod Rule
pub mod Found
