-- The front of a partition that opens: its words are 0.
use Rattle.std.proofs.Common.{◌≡◌, ℕ, zero, suc, ◌<◌, ◌≤◌, false, List, [], ◌∷◌, length, map, get_or, Option, None, Some, IfSome, refl, sym, ◌∙◌, ap, arith}
use Rattle.std.specs.Int.{w64, from_le_bytes}
use Rattle.std.specs.List.{range_with_len}
use Rattle.std.proofs.lemmas.List.FromFn.{length-map-range_with_len}
use Rattle.apex_types.specs.declared.limits.TheConstants.{MOST_CORES}
use Rattle.apex_machine.specs.Machine.{opening}
use Rattle.apex_types.specs.Modes.{is_normal}
use Rattle.apex_machine.specs.processes.Roster.{Roster, opening_roster}
use Rattle.apex_machine.specs.processes.Running.{chosen}
use Rattle.apex_machine.specs.table.Table.{Table}
use Rattle.apex_machine.proofs.Starts.{chosen_ready, early_ineligible}
use Rattle.apex_board.specs.Fronts.{FitsWords, IsSmallId, Shows, byte_of, core_byte, front_of, words_of}

-- before NORMAL no core runs a process
none_early : (roster : Roster) (core : ℕ) (running : Option ℕ) → is_normal roster.mode ≡ false → chosen roster core ≡ running → running ≡ None
none_early roster core None early is = refl
none_early roster core (Some p) early is =
    let ready = (chosen_ready roster core p is).eligible in
    absurd (cc (ready, early_ineligible roster.mode _ early))

pub none_opens : (table : Table) (core : ℕ) → chosen (opening_roster table) core ≡ None
none_opens table core = none_early (opening_roster table) core _ refl refl

none_at : (f : ℕ → Option ℕ) → ((core : ℕ) → f core ≡ None) → (cores : List ℕ) (core : ℕ) → get_or (map f cores) core None ≡ None
none_at f none [] core = refl
none_at f none (c ∷ cores) zero = none c
none_at f none (c ∷ cores) (suc core) = none_at f none cores core

zero_byte : (table : Table) (core : ℕ) → core_byte (front_of table (opening table)) core ≡ 0
zero_byte table core = ap byte_of (none_at (chosen (opening_roster table)) (none_opens table) (range_with_len 0 table.cores) core)

pub opening_words : (table : Table) → words_of (front_of table (opening table)) ≡ 0 ∷ 0 ∷ 0 ∷ []
opening_words table = ap (λ (byte : ℕ → ℕ). 0 ∷ 0 ∷ from_le_bytes w64 (map byte (range_with_len 0 MOST_CORES)) ∷ []) (λ i core. zero_byte table core i)

none_small : (f : ℕ → Option ℕ) → ((core : ℕ) → f core ≡ None) → (cores : List ℕ) (k : ℕ) (d : Option ℕ) → k < length (map f cores)
    → IfSome (get_or (map f cores) k d) IsSmallId
none_small f none [] k d below = absurd (omega (arith, below))
none_small f none (c ∷ cores) zero d below = rw (none c) tt
none_small f none (c ∷ cores) (suc k) d below = none_small f none cores k d (omega (arith, below))

pub opening_fits : (table : Table) → table.cores ≤ MOST_CORES → FitsWords (front_of table (opening table))
opening_fits table few = record {
  entries = omega arith;
  cores = omega (arith, few, length-map-range_with_len (chosen (opening_roster table)) 0 table.cores);
  ids = none_small (chosen (opening_roster table)) (none_opens table) (range_with_len 0 table.cores);
}

pub opening_shows : (table : Table) (words : List ℕ) → table.cores ≤ MOST_CORES → words ≡ 0 ∷ 0 ∷ 0 ∷ [] → Shows table [] words
opening_shows table words few zeros = record {
  front = front_of table (opening table);
  after = record { events = []; told = refl; shown = refl };
  written = zeros ∙ sym (opening_words table);
  fits = opening_fits table few;
}
