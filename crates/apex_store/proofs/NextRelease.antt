-- The next release of a periodic process, as its law says it and as the code computes it.
use Rattle.std.proofs.Common.{◌≡◌, ℕ, ◌≤◌, refl}
use Rattle.apex_machine.specs.processes.Periods.{next_release}
use Rattle.apex_machine.specs.processes.Roster.{Roster, record_at}
use Rattle.apex_machine.proofs.Periods.{next_later, next_least, next_once}
use Rattle.apex_store.specs.Laws.{IsNextRelease, NextReleaseIsLeast}

is_next : (now release period : ℕ) → 1 ≤ period → IsNextRelease now release period (next_release now release period)
is_next now release period some =
    record {
      later = next_later now release period some;
      whole = next_once now release period some;
      least = next_least now release period some;
    }

pub next_is_least : (roster : Roster) (p : ℕ) → NextReleaseIsLeast roster p
next_is_least roster p =
    let r = record_at roster p in
    record {
      periodic = λ period some is.
          (next_release roster.now r.release period, rw is refl, is_next roster.now r.release period some);
      aperiodic = λ none. rw none refl;
    }
