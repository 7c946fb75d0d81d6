pub mod CallWords
pub mod EntriesOf
pub mod Joined
pub mod LinesOf
pub mod Outcomes
pub mod Parts
pub mod Passing
pub mod Digits
