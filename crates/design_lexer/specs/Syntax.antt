-- Read Classes and Words first: classes of tokens, and the words that a grammar is put together from. Reading has
-- readers that are put together in the same way.
pub mod Classes
pub mod ClassLaws
pub mod FaultLaws
pub mod Faults
pub mod FewLaws
pub mod FillerLaws
pub mod Fillers
pub mod Gives
pub mod GivesLaws
pub mod LoopLaws
pub mod PartLaws
pub mod Parts
pub mod PlacedLaws
pub mod Reading
pub mod RepeatLaws
pub mod Repeats
pub mod Spelled
pub mod StatementLaws
pub mod Statements
pub mod Whole
pub mod WholeLaws
pub mod Words
