-- Once all cores are settled a tick may come, or all is at rest.
use Rattle.std.proofs.Common.{◌≡◌, ◌∙◌, ℕ, true, false, Option, None, Some, ◌⊎◌, inl, inr, refl, ap, is_some, not}
use Rattle.std.proofs.lemmas.Bool.{cases_Bool}
use Rattle.apex_machine.specs.table.Table.{Table}
use Rattle.apex_pace.specs.Terms.{Pace}
use Rattle.apex_pace.specs.Pace.{IsAtRest, Paced, all_cores, is_quiet, is_settled, is_starting, may_turn, next_moment, next_tick, settled_tick}
use Rattle.apex_pace.proofs.Cores.{all_also}

module _ (pace : Pace) (table : Table) (s : Paced) (started : is_starting s ≡ false)
    (settled : all_cores (is_settled pace s) table.cores ≡ true) where
  pub is_settled_tick : next_tick pace table s ≡ settled_tick pace.percent table s
  is_settled_tick = rw (started, settled) refl

  quiet_rest : all_cores (is_quiet pace.percent s) table.cores ≡ true
      → all_cores (λ core. not (may_turn pace table s core)) table.cores ≡ true
  quiet_rest quiet = all_also (is_quiet pace.percent s) (λ core. not (may_turn pace table s core)) table.cores
      (λ core h. rw (started, h) refl) quiet

  by_moment : (moment : Option ℕ) → next_moment pace.percent table s ≡ moment
      → all_cores (is_quiet pace.percent s) table.cores ≡ true
      → (is_some (next_tick pace table s) ≡ true) ⊎ IsAtRest pace table s
  by_moment None e quiet = inr (record {
    turns = quiet_rest quiet;
    ticks = is_settled_tick ∙ (rw (quiet, e) refl);
  })
  by_moment (Some t) e quiet = inl (ap is_some is_settled_tick ∙ (rw (quiet, e) refl))

  pub ticks_or_rests : (is_some (next_tick pace table s) ≡ true) ⊎ IsAtRest pace table s
  ticks_or_rests = elim (cases_Bool (all_cores (is_quiet pace.percent s) table.cores)) [
    | inl quiet ↦ by_moment (next_moment pace.percent table s) refl quiet
    | inr busy ↦ inl (ap is_some is_settled_tick ∙ (rw busy refl))
  ]
