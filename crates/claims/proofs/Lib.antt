-- The claims, proved.
pub mod NumberLaws
pub mod RefusalLaws
pub mod StepKeeping
pub mod Texts
pub mod Faithfulness
pub mod AfterRun
pub mod Worked
pub mod OneValue
pub mod Counting
pub mod InterruptOrder
pub mod OneAccess
pub mod NoAccess
pub mod Deciding
pub mod Querying
pub mod Grain
pub mod Consequences
