-- The definitions that the contracts cite.
pub mod Refusal
pub mod Enter
pub mod Interrupt
pub mod Return
pub mod Time
pub mod Events
