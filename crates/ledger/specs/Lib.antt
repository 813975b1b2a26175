-- The definitions that the contracts cite.
pub mod Rules
pub mod Words
pub mod Numbers
pub mod Given
