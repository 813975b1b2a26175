-- The definitions that the contracts cite.
pub mod Buffers
pub mod Answers
pub mod WorkedLines
pub mod Replies
pub mod Widths
pub mod Reading
pub mod Batches
pub mod Feeding
pub mod Parts
pub mod SavedTexts
pub mod TextOutput
pub mod Endings
pub mod Sessions
pub mod InPieces
pub mod CutAnywhere
pub mod Taking
pub mod RefusalEight
