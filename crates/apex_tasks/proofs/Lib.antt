pub mod CommandLemmas
pub mod NameLists
