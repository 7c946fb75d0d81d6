-- The event of a number, and the reason of it.
use Rattle.std.proofs.Common.{◌≡◌, ◌∙◌, inl, inr, [], ◌∷◌, ℕ, ◌-◌, ◌≤◌, ◌<◌, List, None, Some, arith, subst, sym, length, take}
use Rattle.std.specs.Prelude.{slice_get, slice_index_or}
use Rattle.std.proofs.lemmas.Bool.{cases_lt}
use Rattle.std.specs.List.{All}
use Rattle.std.proofs.lemmas.List.Elements.{All-take}
use Rattle.std.proofs.lemmas.Option.{get_or_from_slice_get, slice_get-get_or, slice_get_within}
use Rattle.apex_machine.specs.Events.{IsWithin}
use Rattle.apex_machine.specs.table.Table.{Table}
use Rattle.apex_departures.specs.Terms.{Event}
use Rattle.apex_departures.specs.Why.{IsNumbered, IsReasonAt, IsReasonBehind, LacksEvent}

-- ---- one table

pub within_same : (table other : Table) (events : List Event) → other ≡ table → All (IsWithin table.cores) events → All (IsWithin other.cores) events
within_same table other events same within = subst (λ (t : Table). All (IsWithin t.cores) events) (sym same) within

pub event_same : (table other : Table) (event : Event) → other ≡ table → IsWithin table.cores event → IsWithin other.cores event
event_same table other event same within = subst (λ (t : Table). IsWithin t.cores event) (sym same) within

pub reason_same : (table other : Table) (before : List Event) (event : Event) (text : List ℕ) → other ≡ table
    → IsReasonBehind other before event text → IsReasonBehind table before event text
reason_same table other before event text same behind = subst (λ (t : Table). IsReasonBehind t before event text) same behind

-- ---- one event

pub numbered : (events before : List Event) (number place : ℕ) (event : Event) → 1 ≤ number → place ≡ number - 1 → before ≡ take place events
    → Some event ≡ slice_get events place → IsNumbered events number before event
numbered events before number place event counted is front held =
    record { counted = counted; front = rw is at front; held = sym (rw is at held) }

-- an event that is missing has too great a number
too_many : (events : List Event) (place : ℕ) → None ≡ slice_get events place → place < length events → ⊥
too_many [] place none within = omega (arith, within)
too_many (event ∷ events) place none within =
    let some = slice_get-get_or (event ∷ events) place event within in
    let no : None ≡ Some (slice_index_or (event ∷ events) place event) = none ∙ some in
    cc

pub lacks : (events : List Event) (number place : ℕ) → 1 ≤ number → place ≡ number - 1 → None ≡ slice_get events place → LacksEvent events number
lacks events number place counted is none = elim (cases_lt place (length events)) [
  | inl within ↦ absurd (too_many events place none within)
  | inr many ↦ inr (omega (arith, counted, is, many))
]

module _ (cores : ℕ) (events before : List Event) (number : ℕ) (event : Event) (is : IsNumbered events number before event) where
  pub before_within : All (IsWithin cores) events → All (IsWithin cores) before
  before_within all = subst (All (IsWithin cores)) (sym is.front) (All-take (IsWithin cores) (number - 1) events all)

  pub event_within : All (IsWithin cores) events → IsWithin cores event
  event_within all =
      let within = slice_get_within events (number - 1) event is.held in
      let held : slice_index_or events (number - 1) event ≡ event = get_or_from_slice_get events (number - 1) event event is.held in
      subst (IsWithin cores) held (all (number - 1) event within)

pub reason_at : (table : Table) (events before : List Event) (number : ℕ) (event : Event) (text : List ℕ)
    → IsNumbered events number before event → IsReasonBehind table before event text → IsReasonAt table events number text
reason_at table events before number event text is behind = record { before = before; event = event; numbered = is; behind = behind }
