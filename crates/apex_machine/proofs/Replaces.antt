-- One process has another record: what stays as it was, and the stamps that are given.
use Rattle.std.proofs.Common.{◌≡◌, ◌≢◌, ℕ, ◌<◌, ◌≤ℤ◌, ℤ, pos, ◌+ℤ◌, length, inl, inr, refl, sym, subst, arith}
use Rattle.std.proofs.lemmas.Bool.{cases_eq, cond_both}
use Rattle.std.proofs.lemmas.Int.{ints}
use Rattle.std.proofs.lemmas.List.{get_or-set_other, length-set}
use Rattle.std.specs.Prelude.{slice_set}
use Rattle.apex_machine.specs.processes.Distinct.{IsStamped}
use Rattle.apex_machine.specs.processes.Roster.{Roster, nobody, record_at, with_record}
use Rattle.apex_machine.specs.processes.Running.{is_eligible}
use Rattle.apex_machine.specs.processes.Stamps.{is_level, levelled, newest, oldest, readied}
use Rattle.apex_machine.specs.Terms.{Record}
use Rattle.apex_machine.proofs.DistinctStamps.{stamped_newest, stamped_oldest, stamped_record}
use Rattle.apex_machine.proofs.Rosters.{at_record}

-- process p has this record but for its stamp, the others keep theirs, at most `most` stamps are
-- given, and stamps that differ do so afterwards
pub record Replaces (most : ℕ) (old new : Roster) (p : ℕ) (r : Record) : Type 0 where
  pub stamp : ℤ
  pub here : record_at new p ≡ record r { since = stamp }
  pub others : (q : ℕ) → q ≢ p → record_at new q ≡ record_at old q
  pub many : length new.records ≡ length old.records
  pub mode : new.mode ≡ old.mode
  pub time : new.now ≡ old.now
  pub disciplines : new.disciplines ≡ old.disciplines
  pub rules : new.rules ≡ old.rules
  pub stamps : new.young ≤ℤ (old.young +ℤ pos most)
  pub older : old.old ≤ℤ (new.old +ℤ pos most)
  pub stamped : IsStamped old → IsStamped new

-- what holds between every record and itself, and between the process's record and the new one,
-- holds between each record and the one afterwards
pub each_stays : {most : ℕ} {old new : Roster} {p : ℕ} {r : Record} (has : Replaces most old new p r)
    → (R : Record → Record → Type 0) → ((s : Record) → R s s)
    → R (record_at old p) (record r { since = has.stamp })
    → (q : ℕ) → R (record_at old q) (record_at new q)
each_stays {most} {old} {new} {p} {r} has R same here q =
    elim (cases_eq q p) [
      | inl e ↦
          subst (λ (k : ℕ). R (record_at old k) (record_at new k)) (sym e)
          (subst (R (record_at old p)) (sym has.here) here)
      | inr apart ↦ subst (R (record_at old q)) (sym (has.others q apart)) (same (record_at old q))
    ]

module _ (roster : Roster) (p : ℕ) (known : p < length roster.records) (r : Record) where
  -- process p has the record with this stamp, and the counters of stamps go on
  abbrev counted : ℤ → ℤ → ℤ → Roster
  counted stamp young old = record roster {
    records = slice_set roster.records p (record r { since = stamp });
    young = young;
    old = old;
  }

  replaces : (most : ℕ) (stamp young old : ℤ) → young ≤ℤ (roster.young +ℤ pos most)
      → roster.old ≤ℤ (old +ℤ pos most) → (IsStamped roster → IsStamped (counted stamp young old))
      → Replaces most roster (counted stamp young old) p r
  replaces most stamp young old stamps older stamped =
      let given : Record = record r { since = stamp } in
      record {
        stamp = stamp;
        here = at_record roster p known given;
        others = λ q apart. get_or-set_other roster.records p q given nobody apart;
        many = length-set roster.records p given;
        mode = refl;
        time = refl;
        disciplines = refl;
        rules = refl;
        stamps = stamps;
        older = older;
        stamped = stamped;
      }

  pub replaces_newest : Replaces 1 roster (newest roster p r) p r
  replaces_newest =
      replaces 1 roster.young (newest roster p r).young roster.old (omega (arith, ints)) (omega (arith, ints))
      (λ stamped. stamped_newest roster p known stamped r)

  pub replaces_oldest : Replaces 1 roster (oldest roster p r) p r
  replaces_oldest =
      replaces 1 roster.old roster.young (oldest roster p r).old (omega (arith, ints)) (omega (arith, ints))
      (λ stamped. stamped_oldest roster p known stamped r)

  -- a record that has the process's own stamp
  module _ (same : r.since ≡ (record_at roster p).since) where
    pub replaces_record : (most : ℕ) → Replaces most roster (with_record roster p r) p r
    replaces_record most =
        replaces most r.since roster.young roster.old (omega (arith, ints)) (omega (arith, ints))
        (λ stamped. stamped_record roster p known stamped r same)

    pub replaces_readied : Replaces 1 roster (readied roster p r) p r
    replaces_readied =
        cond_both {A = Roster} (is_eligible roster.mode r) _ _ (λ new. Replaces 1 roster new p r)
        (λ _. replaces_newest) (λ _. replaces_record 1)

    pub replaces_levelled : Replaces 1 roster (levelled roster p r) p r
    replaces_levelled =
        cond_both {A = Roster} (is_level r (record_at roster p)) _ _ (λ new. Replaces 1 roster new p r)
        (λ _. replaces_record 1) (λ _. replaces_oldest)
