-- The definitions that the contracts cite.
pub mod Satp
pub mod Memory
pub mod Entry
pub mod Walk
pub mod Access
pub mod Worked
