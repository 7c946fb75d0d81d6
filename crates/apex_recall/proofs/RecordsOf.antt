-- A record by its parts.
use Rattle.std.proofs.Common.{◌≡◌, ◌==◌, ℕ, ℤ, List, slice_index, drop, pos, w64, Option, None}
use Rattle.std.specs.Int.{to_le_bytes}
use Rattle.apex_recall.specs.Values.{instant_in, suspender_in, wait_of}
use Rattle.apex_recall.specs.Records.{owned_in, record_from}
use Rattle.apex_recall.specs.Terms.{Attributes, Holding, Record, Suspender, Wait}

-- the record of these parts
abbrev pub record_of : Attributes → List ℕ → List ℕ → ℕ → Option Suspender → Option Wait → ℤ
    → Option ℕ → Option ℕ → List Holding → Record
record_of attributes bytes words core suspended wait since due deadline owned = record {
  attributes = attributes;
  core = core;
  base = slice_index bytes 1;
  started = slice_index bytes 2 == 1;
  suspended = suspended;
  wait = wait;
  since = since;
  due = due;
  deadline = deadline;
  release = slice_index words 6;
  owned = owned;
  step = slice_index bytes 6;
  inbox = None;
}

-- with the parts of its words it is the record of these
pub record_of_parts : (attributes : Attributes) (bytes marks words : List ℕ) (core : ℕ) (suspended : Option Suspender)
    (wait : Option Wait) (since : ℤ) (due deadline : Option ℕ) (owned : List Holding)
    → core ≡ slice_index bytes 0 → suspended ≡ suspender_in (slice_index bytes 3)
    → wait ≡ wait_of (slice_index bytes 4) (slice_index bytes 5) (slice_index words 2)
    → since ≡ pos (slice_index words 3)
    → due ≡ instant_in (slice_index marks 1 == 1) (slice_index words 4)
    → deadline ≡ instant_in (slice_index marks 2 == 1) (slice_index words 5) → owned ≡ owned_in (drop 7 words)
    → bytes ≡ to_le_bytes w64 (slice_index words 0)
    → marks ≡ to_le_bytes w64 (slice_index words 1)
    → record_of attributes bytes words core suspended wait since due deadline owned
    ≡ record_from attributes words
record_of_parts attributes bytes marks words core suspended wait since due deadline owned
    is_core is_suspended is_wait is_since is_due is_deadline is_owned is_bytes
    is_marks =
    rw (is_core, is_suspended, is_wait, is_since, is_due, is_deadline, is_owned, is_bytes, is_marks)
