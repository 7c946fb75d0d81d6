-- Claims about every run, from a search that has closed.
use Rattle.std.proofs.Common.{◌≡◌, suc, ◌+◌, false, List, [], ◌∷◌, length, sym, ◌∙◌, ap, subst, arith, inl, inr}
use Rattle.std.specs.Prelude.{All}
use Rattle.std.proofs.lemmas.Bool.{cases_lt}
use Rattle.std.proofs.lemmas.List.Elements.{All-nil, All-push}
use Rattle.apex_laws.specs.Terms.{Entry, Event, Record}
use Rattle.apex_machine.specs.Machine.{Machine, accept, entry_of, opening, run}
use Rattle.apex_machine.specs.processes.Dues.{next_instant}
use Rattle.apex_machine.specs.table.Table.{IsLawful, Table}
use Rattle.apex_machine.specs.Situations.{Situation, deed, maker}
use Rattle.apex_alike.proofs.Choices.{same_chosen, same_next}
use Rattle.apex_alike.specs.Claims.{NoRunMisses, NoRunIsAtStandstill, ReportsNoMiss, reports_miss}
use Rattle.apex_alike.specs.Closed.{HasClosed, IsAmong, IsSeen}
use Rattle.apex_machine.specs.Machine.{situation_of}
use Rattle.apex_laws.proofs.Runs.{accept-full, accept-room}
use Rattle.apex_alike.proofs.Situated.{closed_search, never, next, opens, steps_alike}
use Rattle.apex_laws.proofs.Sound.{IsSound, sound_accept, sound_opening}

module _ (table : Table) (lawful : IsLawful table) (asked : List Event) (seen : List Situation) (closed : HasClosed table asked seen)
    (none : ReportsNoMiss table asked seen) where
  abbrev Misses : Machine → Type 0
  Misses machine = All (λ (e : Entry). reports_miss e.notices ≡ false) machine.history

  told : (machine : Machine) → IsSound table machine → IsSeen table seen machine → (event : Event) → IsAmong asked event
      → Misses machine → Misses (accept table machine event)
  told machine sound is event among before = elim (cases_lt (length machine.history) table.limit) [
    | inl room ↦
        let steps = steps_alike table lawful machine sound is.later is.situation is.stands event in
        let done = deed table (situation_of table machine) event in
        let quiet : reports_miss done.outcome.notices ≡ false =
        ap reports_miss steps.deeds.notices ∙ none is.place is.situation is.here among.place event among.here in
        subst Misses (sym (accept-room table machine event room ∙ steps.happens))
        (All-push (λ (e : Entry). reports_miss e.notices ≡ false) machine.history (entry_of (length machine.history + 1) (maker event) done) before quiet)
    | inr full ↦ subst Misses (sym (accept-full table machine event full)) before
  ]

  all_told : (machine : Machine) → IsSound table machine → IsSeen table seen machine → (events : List Event) → All (IsAmong asked) events
      → Misses machine → Misses (run table machine events)
  all_told machine sound is [] all before = before
  all_told machine sound is (event ∷ events) all before =
      let among = all 0 event (omega arith) in
      all_told (accept table machine event) (sound_accept table lawful machine sound event)
      (next table lawful asked seen closed machine sound is event among) events (λ k d within. all (suc k) d (omega (arith, within)))
      (told machine sound is event among before)

pub no_run_misses : (table : Table) → IsLawful table → NoRunMisses table
no_run_misses table lawful asked seen closed none events all =
    all_told table lawful asked seen closed none (opening table) (sound_opening table lawful) (opens table lawful asked seen closed) events all
    (All-nil (λ (e : Entry). reports_miss e.notices ≡ false))

pub no_run_is_at_standstill : (table : Table) → IsLawful table → NoRunIsAtStandstill table
no_run_is_at_standstill table lawful asked seen closed none events all p still =
    let is = closed_search table lawful asked seen closed events all in
    let rosters = is.stands.rosters in
    none is.place is.situation is.here p (record {
      mode = sym rosters.mode ∙ still.mode;
      started = sym (ap (λ (x : Record). x.started) (rosters.each p).is) ∙ still.started;
      idle = λ core. sym (same_chosen rosters core) ∙ still.idle core;
      silent = never is.later (next_instant is.situation.roster) (sym (same_next rosters) ∙ still.silent);
    })
