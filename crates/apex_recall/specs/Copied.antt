-- Objects that differ in their values alone.
use Rattle.std.specs.Prelude.{◌≡◌, ℕ, ◌<◌, List, length, nat_lt, Option, None, slice_index_or, if◌then◌else◌}
use Rattle.apex_machine.specs.Deeds.{Objects}
use Rattle.apex_machine.specs.services.BufferServices.{BufferObject}
use Rattle.apex_recall.specs.Terms.{OpenWork}

-- there are as many buffers, and each is as large
pub record AreSameBuffers (some others : List BufferObject) : Type 0 where
  pub many : length some ≡ length others
  pub longest : (p : ℕ) (b : BufferObject) → p < length some
      → (slice_index_or some p b).longest ≡ (slice_index_or others p b).longest
  pub capacity : (p : ℕ) (b : BufferObject) → p < length some
      → (slice_index_or some p b).capacity ≡ (slice_index_or others p b).capacity

-- there are as many objects of each kind, and each buffer is as large
pub record AreOfKinds (some others : Objects) : Type 0 where
  pub processes : length some.processes ≡ length others.processes
  pub semaphores : length some.semaphores ≡ length others.semaphores
  pub buffers : AreSameBuffers some.buffers others.buffers
  pub blackboards : length some.blackboards ≡ length others.blackboards
  pub event_flags : length some.event_flags ≡ length others.event_flags
  pub mutexes : length some.mutexes ≡ length others.mutexes

-- the works of the first cores, `many` of them, and none of the others
abbrev pub works_before : ℕ → (ℕ → Option OpenWork) → ℕ → Option OpenWork
works_before many works core = if nat_lt core many then works core else None
