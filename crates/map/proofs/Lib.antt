-- Laws of the definitions, which the functions' proofs and other crates cite.
pub mod Lawful
pub mod LookupLaws
pub mod Painting
pub mod MapLaws
pub mod Boundaries
pub mod QueryLaws
pub mod MapWords
pub mod ReadingLaws
pub mod RangeFromLaws
pub mod SweepLaws
