-- The entry that an event adds.
use Rattle.std.proofs.Common.{◌≡◌, ℕ, List, [], ◌∷◌, ◌++◌, ◌+◌, ◌<◌, refl, ap, sym, ◌∙◌, subst, length, Some, None, arith}
use Rattle.std.specs.List.{last_or}
use Rattle.std.proofs.lemmas.List.Sums.{sum_by-append}
use Rattle.std.specs.Prelude.{Option}
use Rattle.apex_types.specs.declared.entries.Entry.{Entry}
use Rattle.apex_types.specs.declared.entries.Who.{Who}
use Rattle.apex_types.specs.declared.entries.Who.TheVariants.{Core, Ticker}
use Rattle.apex_machine.specs.Deeds.{tick_deed}
use Rattle.apex_machine.specs.Machine.{Machine, deed_of, entry_of, objects_after, tick, turn}
use Rattle.apex_machine.specs.table.Table.{Table}
use Rattle.apex_partition.specs.Seats.{IsLatest, asked_ticks, ticks_asked}

-- the last of a list and one more
pub last_added : (o : Option Entry) (before : List Entry) (e : Entry) → last_or o (before ++ e ∷ []) ≡ Some e
last_added o [] e = refl
last_added o (x ∷ before) e = last_added (Some x) before e

-- the last entry is the one that was added
pub latest_is : (before history : List Entry) (who : Who) (e f : Entry) → IsLatest before who e history → last_or None history ≡ Some f
    → e ≡ f
latest_is before history who e f latest last =
    let there : last_or None history ≡ Some e = ap (λ (h : List Entry). last_or None h) latest.added ∙ last_added None before e in
    cc (there, last)

-- the entry that a turn adds
abbrev pub turn_entry : Table → Machine → ℕ → Entry
turn_entry table machine core = entry_of (length machine.history + 1) (Core core) (deed_of table machine core)

pub turn_adds : (table : Table) (machine : Machine) (core : ℕ)
    → IsLatest machine.history (Core core) (turn_entry table machine core) (turn table machine core).history
unfolding turn
turn_adds table machine core = record { added = refl; by = refl; number = refl }

-- the entry that a tick adds
abbrev pub tick_entry : Table → Machine → ℕ → Entry
tick_entry table machine n =
    entry_of (length machine.history + 1) Ticker (tick_deed machine.roster (objects_after table machine.history) n)

pub tick_adds : (table : Table) (machine : Machine) (n : ℕ)
    → IsLatest machine.history Ticker (tick_entry table machine n) (tick table machine n).history
unfolding tick
tick_adds table machine n = record { added = refl; by = refl; number = refl }

-- the ticks that it asks for
pub tick_asks : (table : Table) (machine : Machine) (n : ℕ) (e : Entry)
    → IsLatest machine.history Ticker e (tick table machine n).history → asked_ticks e ≡ n
tick_asks table machine n e latest =
    let last = ap (λ (h : List Entry). last_or None h) latest.added ∙ last_added None machine.history e in
    let same : tick_entry table machine n ≡ e =
    latest_is machine.history (tick table machine n).history Ticker (tick_entry table machine n) e (tick_adds table machine n) last in
    ap asked_ticks (sym same)

-- so the last entry is the one that was added
pub latest_found : (before history : List Entry) (who : Who) (f : Entry) → (e : Entry) × IsLatest before who e history
    → last_or None history ≡ Some f → IsLatest before who f history
latest_found before history who f some last =
    subst (λ (x : Entry). IsLatest before who x history) (latest_is before history who some.0 f some.1 last) some.1

-- a list with an entry has a last one
pub has_last : (o : Option Entry) (x : Entry) (xs : List Entry) → last_or o (x ∷ xs) ≡ None → ⊥
has_last o x [] none = absurd (cc none)
has_last o x (y ∷ xs) none = has_last (Some x) y xs none

pub no_last : (xs : List Entry) → 0 < length xs → last_or None xs ≡ None → ⊥
no_last [] some none = absurd (omega (arith, some))
no_last (x ∷ xs) some none = has_last None x xs none

-- the ticks that the entries and one more ask for
pub ticks_added : (entries : List Entry) (e : Entry) → ticks_asked (entries ++ e ∷ []) ≡ ticks_asked entries + asked_ticks e
ticks_added entries e =
    let one : ticks_asked (e ∷ []) ≡ asked_ticks e = omega arith in
    omega (arith, sum_by-append asked_ticks entries (e ∷ []), one)
