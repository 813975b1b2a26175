-- The definitions that the contracts cite.
pub mod Lookup
pub mod Ranges
pub mod Boundaries
pub mod Painting
pub mod Compiled
pub mod Query
pub mod MapWords
pub mod Reading
pub mod Sweep
