-- The owner of each mutex, as a word of bits for each: bit 63 - p is that of process p.
use Rattle.std.specs.Prelude.{◌≡◌, ℕ, ◌-◌, ◌<◌, Bool, true, false, ◌==◌, List, slice_index_or}
use Rattle.std.specs.Int.{bit_at}
use Rattle.apex_links.specs.declared.numbers.TheConstants.{ID_PLACES}
use Rattle.apex_machine.specs.processes.Owners.{owns}
use Rattle.apex_machine.specs.processes.Roster.{Roster, record_at}

-- the most processes that may own one
abbrev pub most_owners : ℕ
most_owners = 64

-- the bit of process p is set in this word
abbrev pub is_among : ℕ → ℕ → Bool
is_among word p = bit_at word (63 - p) == 1

-- process p owns mutex m
abbrev pub is_owner : List ℕ → ℕ → ℕ → Bool
is_owner words m p = is_among (slice_index_or words m 0) p

-- the words say of each process which mutex it owns
abbrev pub AreOwners : Roster → List ℕ → Type 0
AreOwners roster words =
    (m p : ℕ) → m < ID_PLACES → p < most_owners
    → is_owner words m p ≡ owns m (record_at roster p)

-- no process owns mutex m
abbrev pub IsUnowned : List ℕ → ℕ → Type 0
IsUnowned words m = (p : ℕ) → p < most_owners → is_owner words m p ≡ false

-- the bit of process p is set in this word, and that of no process of a lower number
pub record IsFirstAmong (word p : ℕ) : Type 0 where
  pub known : p < most_owners
  pub set : is_among word p ≡ true
  pub first : (q : ℕ) → q < p → is_among word q ≡ false

-- process p owns mutex m, and no process of a lower number does
abbrev pub IsFirstOwner : List ℕ → ℕ → ℕ → Type 0
IsFirstOwner words m p = IsFirstAmong (slice_index_or words m 0) p
