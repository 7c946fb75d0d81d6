pub mod ItemRuns
pub mod CommandLemmas
