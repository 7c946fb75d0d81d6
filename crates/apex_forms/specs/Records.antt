-- The words of a process: eleven words each.
use Rattle.std.specs.Prelude.{◌≡◌, ℕ, Bool, List, [], ◌∷◌, is_some, slice_get, ℤ, pos}
use Rattle.std.specs.Int.{w64, from_le_bytes}
use Rattle.apex_forms.specs.Codes.{code_of, flag_word, holding_word, instant_word, suspender_byte}
use Rattle.apex_forms.specs.Terms.{Record}

-- a stamp upwards is its number
abbrev pub stamp_word : ℤ → ℕ
stamp_word (pos stamp) = stamp
stamp_word _ = 0

-- the first word of a process: a byte for each field that fits in one
abbrev pub byte_word : Record → ℕ
byte_word r = from_le_bytes w64
    (r.core ∷ r.base ∷ flag_word r.started ∷ suspender_byte r.suspended
    ∷ (code_of r.wait).kind ∷ (code_of r.wait).place ∷ r.step ∷ 0 ∷ [])

-- the second one: whether the process is created, has a due, and has a deadline
abbrev pub mark_word : Bool → Record → ℕ
mark_word created r = from_le_bytes w64
    (flag_word created ∷ flag_word (is_some r.due) ∷ flag_word (is_some r.deadline)
    ∷ 0 ∷ 0 ∷ 0 ∷ 0 ∷ 0 ∷ [])

-- the words of a process: the bytes, the marks, its wait's word, its stamp, its due, its deadline,
-- its release, and the mutexes that it owns
abbrev pub record_words : Bool → Record → List ℕ
record_words created r =
    byte_word r ∷ mark_word created r ∷ (code_of r.wait).word ∷ stamp_word r.since
    ∷ instant_word r.due ∷ instant_word r.deadline ∷ r.release
    ∷ holding_word (slice_get r.owned 0) ∷ holding_word (slice_get r.owned 1)
    ∷ holding_word (slice_get r.owned 2) ∷ holding_word (slice_get r.owned 3) ∷ []

-- the record's stamp is one upwards, so that it fits in a word
pub record FitsRecord (r : Record) : Type 0 where
  pub stamp : ℕ
  pub since : r.since ≡ pos stamp
