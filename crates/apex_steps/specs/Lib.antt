-- A session: commands, a line each, and the answer to each of them.
pub mod Terms
pub mod Commands
pub mod Sessions
pub mod Kept
pub mod Answers
pub mod Texts
pub mod Conversations
pub mod Faults
pub mod Endings
