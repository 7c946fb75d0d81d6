-- Proofs of the canonical form of a paced situation and its words.
pub mod BufferWords
pub mod Counting
pub mod Forming
pub mod Lengths
pub mod Puts
pub mod Ranking
