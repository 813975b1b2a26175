-- The definitions that the contracts cite.
pub mod Permit
pub mod Table
pub mod Show
pub mod Replace
pub mod Store
pub mod Operate
