-- Each change of a roster leaves it with distinct stamps, all given before the next one.
use Rattle.std.proofs.Common.{◌≡◌, ◌≢◌, ℕ, ◌+◌, ◌<◌, ◌<ℤ◌, ◌≤ℤ◌, ℤ, pos, Option, None, Some, length, refl, sym, ◌∙◌, ap, inl, inr, arith}
use Rattle.std.proofs.lemmas.Bool.{cases_eq, cond_both}
use Rattle.std.proofs.lemmas.Int.{ints}
use Rattle.std.proofs.lemmas.List.{length-set}
use Rattle.apex_machine.specs.Terms.{Mode, Record}
use Rattle.apex_machine.specs.processes.Roster.{Roster, record_at, with_record, nobody, opening_record, opening_roster}
use Rattle.apex_machine.specs.table.Table.{Table, no_process}
use Rattle.apex_machine.specs.processes.Running.{is_eligible}
use Rattle.apex_machine.specs.processes.Stamps.{newest, oldest, readied, awake, unsuspended, is_by_itself, resume, advance_to, without_due_of, without_deadline_of, take_due, take_missed, set_mode}
use Rattle.apex_machine.specs.processes.Distinct.{IsStamped}
use Rattle.apex_machine.specs.processes.Dues.{first_due, first_missed}
use Rattle.apex_machine.proofs.Dues.{first_due_within, first_missed_within}
use Rattle.apex_types.proofs.Places.{length-map_places, get_or-map_places}
use Rattle.apex_machine.proofs.Rosters.{changes_record, changes_newest, changes_oldest, at_record, at_newest}

-- a change that gives process p this stamp: it is between the new counters, and no other process
-- has it
record GivesStamp (roster new : Roster) (p : ℕ) (stamp : ℤ) : Type 0 where
  many : length new.records ≡ length roster.records
  others : (q : ℕ) → q ≢ p → record_at new q ≡ record_at roster q
  here : (record_at new p).since ≡ stamp
  below : stamp <ℤ new.young
  above : new.old <ℤ stamp
  young : roster.young ≤ℤ new.young
  old : new.old ≤ℤ roster.old
  unlike : (q : ℕ) → q < length roster.records → (record_at roster q).since ≡ stamp → ⊥

module _ (roster new : Roster) (p : ℕ) {stamp : ℤ} (stamped : IsStamped roster) (gives : GivesStamp roster new p stamp) where
  within_before : (q : ℕ) → q < length new.records → q < length roster.records
  within_before q within = rw gives.many at within

  others_since : (q : ℕ) → q ≢ p → (record_at new q).since ≡ (record_at roster q).since
  others_since q apart = ap (λ (r : Record). r.since) (gives.others q apart)

  given_then : (q : ℕ) → q < length new.records → (record_at new q).since <ℤ new.young
  given_then q within =
      elim (cases_eq q p) [
        | inl e ↦ rw (e, gives.here) gives.below
        | inr apart ↦
            let same = others_since q apart in
            let before = stamped.given q (within_before q within) in omega (arith, ints, same, before, gives.young)
      ]

  newer_then : (q : ℕ) → q < length new.records → new.old <ℤ (record_at new q).since
  newer_then q within =
      elim (cases_eq q p) [
        | inl e ↦ rw (e, gives.here) gives.above
        | inr apart ↦
            let same = others_since q apart in
            let before = stamped.newer q (within_before q within) in omega (arith, ints, same, before, gives.old)
      ]

  -- the process with this stamp is p
  has_it : (q : ℕ) → q < length new.records → (record_at new q).since ≡ stamp → q ≡ p
  has_it q within e =
      elim (cases_eq q p) [
        | inl same ↦ same
        | inr apart ↦ absurd (gives.unlike q (within_before q within) (sym (others_since q apart) ∙ e))
      ]

  distinct_then : (q s : ℕ) → q < length new.records → s < length new.records → (record_at new q).since ≡ (record_at new s).since → q ≡ s
  distinct_then q s within there e =
      elim (cases_eq q p) [
        | inl same ↦ same ∙ sym (has_it s there (sym e ∙ ap (λ (k : ℕ). (record_at new k).since) same ∙ gives.here))
        | inr apart ↦
            elim (cases_eq s p) [
              | inl here ↦ absurd (apart (has_it q within (e ∙ ap (λ (k : ℕ). (record_at new k).since) here ∙ gives.here)))
              | inr other ↦
                  stamped.distinct.distinct q s (within_before q within) (within_before s there)
                  (sym (others_since q apart) ∙ e ∙ others_since s other)
            ]
      ]

  stamped_given : IsStamped new
  stamped_given = record { given = given_then; newer = newer_then; distinct = record { distinct = distinct_then } }

module _ (roster : Roster) (p : ℕ) (known : p < length roster.records) (stamped : IsStamped roster) where
  -- a change that gives no stamp
  since_stays : (r : Record) → r.since ≡ (record_at roster p).since → (q : ℕ) → (record_at (with_record roster p r) q).since ≡ (record_at roster q).since
  since_stays r same q =
      elim (cases_eq q p) [
        | inl e ↦ rw (e, at_record roster p known r, same)
        | inr apart ↦ rw ((changes_record roster p r).others q apart)
      ]

  pub stamped_record : (r : Record) → r.since ≡ (record_at roster p).since → IsStamped (with_record roster p r)
  stamped_record r same = record {
    given = λ q within. rw (since_stays r same q) (stamped.given q (rw (length-set roster.records p r) at within));
    newer = λ q within. rw (since_stays r same q) (stamped.newer q (rw (length-set roster.records p r) at within));
    distinct = record {
      distinct = λ q s within there e.
          stamped.distinct.distinct q s (rw (length-set roster.records p r) at within) (rw (length-set roster.records p r) at there)
          (sym (since_stays r same q) ∙ e ∙ since_stays r same s);
    };
  }

  -- a change that gives the next stamp
  pub stamped_newest : (r : Record) → IsStamped (newest roster p r)
  stamped_newest r = stamped_given roster (newest roster p r) p stamped (record {
    many = (changes_newest roster p r).count;
    others = (changes_newest roster p r).others;
    here = ap (λ (x : Record). x.since) (at_newest roster p known r);
    below = omega (arith, ints);
    above = let before = stamped.given p known in let after = stamped.newer p known in omega (arith, ints);
    young = omega (arith, ints);
    old = omega (arith, ints);
    unlike = λ q within e. let before = stamped.given q within in absurd (omega (arith, ints, rw e at before));
  })

  -- a change that gives the next stamp downwards
  pub stamped_oldest : (r : Record) → IsStamped (oldest roster p r)
  stamped_oldest r = stamped_given roster (oldest roster p r) p stamped (record {
    many = (changes_oldest roster p r).count;
    others = (changes_oldest roster p r).others;
    here = ap (λ (x : Record). x.since) (at_record roster p known (record r { since = roster.old }));
    below = let before = stamped.given p known in let after = stamped.newer p known in omega (arith, ints);
    above = omega (arith, ints);
    young = omega (arith, ints);
    old = omega (arith, ints);
    unlike = λ q within e. let after = stamped.newer q within in absurd (omega (arith, ints, rw e at after));
  })

  pub stamped_readied : (r : Record) → r.since ≡ (record_at roster p).since → IsStamped (readied roster p r)
  stamped_readied r same =
      cond_both {A = Roster} (is_eligible roster.mode r) _ _ IsStamped (λ _. stamped_newest r) (λ _. stamped_record r same)

  pub stamped_resume : IsStamped (resume roster p)
  stamped_resume =
      cond_both {A = Roster} (is_by_itself (record_at roster p).suspended) _ _ IsStamped
      (λ _. stamped_readied (awake (record_at roster p)) refl) (λ _. stamped_readied (unsuspended (record_at roster p)) refl)

pub stamped_set_mode : (roster : Roster) → IsStamped roster → (mode : Mode) → IsStamped (set_mode roster mode)
stamped_set_mode roster stamped mode = record {
  given = stamped.given;
  newer = stamped.newer;
  distinct = record { distinct = stamped.distinct.distinct };
}

pub stamped_advance_to : (roster : Roster) → IsStamped roster → (t : ℕ) → IsStamped (advance_to roster t)
stamped_advance_to roster stamped t = record {
  given = stamped.given;
  newer = stamped.newer;
  distinct = record { distinct = stamped.distinct.distinct };
}

stamped_due_of : (roster : Roster) → IsStamped roster → (found : Option ℕ) → ((p : ℕ) → found ≡ Some p → p < length roster.records)
    → IsStamped (without_due_of roster found)
stamped_due_of roster stamped None known = stamped
stamped_due_of roster stamped (Some p) known = stamped_record roster p (known p refl) stamped _ refl

pub stamped_take_due : (roster : Roster) → IsStamped roster → IsStamped (take_due roster)
stamped_take_due roster stamped =
    stamped_due_of roster stamped (first_due roster) (first_due_within roster)

stamped_deadline_of : (roster : Roster) → IsStamped roster → (found : Option ℕ) → ((p : ℕ) → found ≡ Some p → p < length roster.records)
    → IsStamped (without_deadline_of roster found)
stamped_deadline_of roster stamped None known = stamped
stamped_deadline_of roster stamped (Some p) known = stamped_record roster p (known p refl) stamped _ refl

pub stamped_take_missed : (roster : Roster) → IsStamped roster → IsStamped (take_missed roster)
stamped_take_missed roster stamped =
    stamped_deadline_of roster stamped (first_missed roster) (first_missed_within roster)

opening_since : (table : Table) (p : ℕ) → p < length table.processes → (record_at (opening_roster table) p).since ≡ pos (p + 1)
opening_since table p within =
    let z : 0 + p ≡ p = omega arith in
    rw (get_or-map_places opening_record 0 table.processes p no_process nobody within, z)

opening_within : (table : Table) (p : ℕ) → p < length (opening_roster table).records → p < length table.processes
opening_within table p within = rw (length-map_places opening_record 0 table.processes) at within

pub stamped_opening : (table : Table) → IsStamped (opening_roster table)
stamped_opening table = record {
  given = λ p within.
      let inside = opening_within table p within in
      rw (opening_since table p inside) (omega (arith, ints));
  newer = λ p within.
      let inside = opening_within table p within in
      rw (opening_since table p inside) (omega (arith, ints));
  distinct = record {
    distinct = λ p q within there e.
        let first = opening_since table p (opening_within table p within) in
        let second = opening_since table q (opening_within table q there) in omega (arith, ints);
  };
}
