pub mod SearchEndings
pub mod SearchLemmas
