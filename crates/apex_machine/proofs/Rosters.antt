-- Changes of one record of a roster: each gives at most one stamp.
use Rattle.std.proofs.Common.{◌≡◌, ◌≢◌, ℕ, ◌<◌, ◌≤ℤ◌, pos, ◌+ℤ◌, None, length, arith}
use Rattle.std.proofs.lemmas.Int.{ints}
use Rattle.std.proofs.lemmas.List.{get_or-set_other, get_or-set_same, length-set}
use Rattle.apex_machine.specs.Terms.{Record}
use Rattle.apex_machine.specs.processes.Roster.{Roster, nobody, record_at, with_record}
use Rattle.apex_machine.specs.processes.Stamps.{newest, oldest, without_due}

-- only the record of process p may differ, and at most one stamp is given
pub record ChangesOne (before after : Roster) (p : ℕ) : Type 0 where
  pub count : length after.records ≡ length before.records
  pub others : (q : ℕ) → q ≢ p → record_at after q ≡ record_at before q
  pub one_more : after.young ≤ℤ (before.young +ℤ pos 1)

module _ (roster : Roster) (p : ℕ) where
  other_stays : (r : Record) (q : ℕ) → q ≢ p → record_at (with_record roster p r) q ≡ record_at roster q
  other_stays r q apart = get_or-set_other roster.records p q r nobody apart

  pub changes_record : (r : Record) → ChangesOne roster (with_record roster p r) p
  changes_record r = record {
    count = length-set roster.records p r;
    others = other_stays r;
    one_more = omega (arith, ints);
  }

  pub changes_newest : (r : Record) → ChangesOne roster (newest roster p r) p
  changes_newest r = record {
    count = length-set roster.records p (record r { since = roster.young });
    others = other_stays (record r { since = roster.young });
    one_more = omega (arith, ints);
  }

  pub changes_oldest : (r : Record) → ChangesOne roster (oldest roster p r) p
  changes_oldest r = record {
    count = length-set roster.records p (record r { since = roster.old });
    others = other_stays (record r { since = roster.old });
    one_more = omega (arith, ints);
  }

-- the record of the process that a change is about
module _ (roster : Roster) (p : ℕ) (known : p < length roster.records) where
  pub at_record : (r : Record) → record_at (with_record roster p r) p ≡ r
  at_record r = get_or-set_same roster.records p r nobody known

  pub at_newest : (r : Record) → record_at (newest roster p r) p ≡ record r { since = roster.young }
  at_newest r = at_record (record r { since = roster.young })

  pub at_without_due : record_at (without_due roster p) p ≡ record (record_at roster p) { due = None }
  at_without_due = at_record _
