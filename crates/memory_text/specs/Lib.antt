-- The definitions that the contracts cite.
pub mod MemoryText
pub mod RoundTrip
