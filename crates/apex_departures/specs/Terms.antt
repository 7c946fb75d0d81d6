-- The terms in which the definitions and proofs of this crate speak: the values of a partition.
pub use Rattle.apex_types.specs.declared.entries.Entry.{Entry}
pub use Rattle.apex_types.specs.declared.entries.Event.{Event}
