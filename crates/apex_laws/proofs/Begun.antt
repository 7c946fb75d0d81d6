-- The entry into NORMAL: the starts that it begins.
use Rattle.std.proofs.Common.{◌≡◌, ℕ, ◌+◌, ◌≤◌, Bool, true, false, cond, List, [], ◌∷◌, length, Some, refl, ap, ◌∙◌, arith, ◌==◌}
use Rattle.std.proofs.lemmas.Bool.{both_ways}
use Rattle.apex_types.specs.declared.limits.TheConstants.{MOST_PROCESSES}
use Rattle.apex_types.specs.declared.modes.Mode.TheVariants as mode
use Rattle.apex_laws.specs.Premises.{most_given}
use Rattle.apex_laws.specs.Terms.{Notice}
use Rattle.apex_types.specs.declared.entries.Notice.TheVariants.{Released}
use Rattle.apex_machine.specs.declared.records.Queue.TheVariants as queues
use Rattle.apex_machine.specs.services.PartitionServices.{first_to_start, begin_waiter, delay_of, enter_normal}
use Rattle.apex_types.specs.Modes.{is_normal}
use Rattle.apex_machine.specs.processes.Roster.{Roster, record_at}
use Rattle.apex_machine.specs.processes.Stamps.{HasOrderlyStarts, set_mode}
use Rattle.apex_machine.proofs.Reaches.{Reaches, reaches_then, reaches_more, reaches_begin, reaches_in_turn}
use Rattle.apex_machine.proofs.Modes.{mode_begin, reaches_set_mode}
use Rattle.apex_machine.proofs.Starts.{first_awaits, first_stands, first_within, queued_started}

-- while the starts begin, the mode is NORMAL and starts are in order
pub record IsBegun (roster : Roster) : Type 0 where
  pub normal : is_normal roster.mode ≡ true
  pub starts : HasOrderlyStarts roster

pub reach_begin_waiter : (roster : Roster) (p : ℕ) → IsBegun roster → first_to_start roster ≡ Some p
    → Reaches 1 roster (begin_waiter roster p).roster
reach_begin_waiter roster p begun is =
    let stands = first_stands roster queues.Normal p is in
    reaches_begin roster p (first_within roster queues.Normal p is) (delay_of (record_at roster p).wait)
    (queued_started roster begun.starts p queues.Normal stands) (first_awaits roster p is) (λ e. both_ways _ e begun.normal)

pub stays_begun : (roster : Roster) (p : ℕ) → IsBegun roster → first_to_start roster ≡ Some p
    → IsBegun (begin_waiter roster p).roster
stays_begun roster p begun is = record {
  normal = ap is_normal (mode_begin roster p (delay_of (record_at roster p).wait)) ∙ begun.normal;
  starts = (reach_begin_waiter roster p begun is).moves.starts begun.starts;
}

-- it gives one notice at the most
pub few_starts : (roster : Roster) (p : ℕ) → length (begin_waiter roster p).notices ≤ 1
few_starts roster p = few_by (delay_of (record_at roster p).wait == 0) where
  few_by : (b : Bool) → length (cond {A = List Notice} b (Released p ∷ []) []) ≤ 1
  few_by true = omega arith
  few_by false = omega arith

pub begun_normal : (roster : Roster) → HasOrderlyStarts roster → IsBegun (set_mode roster mode.Normal)
begun_normal roster starts = record { normal = refl; starts = (reaches_set_mode roster mode.Normal refl).moves.starts starts }

pub reach_enter_normal : (roster : Roster) → HasOrderlyStarts roster → length roster.records ≤ MOST_PROCESSES
    → Reaches most_given roster (enter_normal roster).roster
unfolding enter_normal
reach_enter_normal roster starts many =
    let steps = reaches_in_turn first_to_start begin_waiter IsBegun stays_begun reach_begin_waiter
    (length roster.records) (set_mode roster mode.Normal) (begun_normal roster starts) in
    reaches_more (0 + length roster.records) most_given (omega (arith, many))
    (reaches_then 0 (length roster.records) (reaches_set_mode roster mode.Normal refl) steps)
