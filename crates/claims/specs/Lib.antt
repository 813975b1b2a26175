-- What is claimed of the whole hart: demands 2 and 3, the table of refusals, the worked settings.
pub mod Numbers
pub mod Refusals
pub mod Keeps
pub mod Texts
pub mod Faithful
pub mod AfterRun
pub mod Worked
pub mod InterruptOrder
pub mod SavedLines
pub mod Grain
pub mod Consequences
