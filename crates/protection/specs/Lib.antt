-- The definitions that the contracts cite.
pub mod Arrays
pub mod Configs
pub mod Hold
pub mod Spans
pub mod Read
pub mod Write
pub mod Same
