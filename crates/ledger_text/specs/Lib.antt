-- The definitions that the contracts cite.
pub mod LedgerText
pub mod RoundTrip
