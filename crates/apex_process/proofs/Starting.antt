-- A start is one change of its process's record.
use Rattle.std.proofs.Common.{◌≡◌, ℕ, ◌+◌, ◌<◌, ◌==◌, true, length, Option, None, Some, sym, ◌∙◌, ap, subst}
use Rattle.std.proofs.lemmas.Bool.{cond_both}
use Rattle.std.proofs.lemmas.List.{set-set}
use Rattle.apex_machine.specs.declared.records.Record.{Record}
use Rattle.apex_machine.specs.declared.records.Wait.{Wait}
use Rattle.apex_machine.specs.declared.records.Wait.TheVariants.{Normal, Start}
use Rattle.apex_types.specs.Modes.{is_normal}
use Rattle.apex_machine.specs.processes.Roster.{Roster, record_at, with_record}
use Rattle.apex_machine.specs.processes.Stamps.{begin, block, newest, readied, release, released_at, reset, start, waiting}
use Rattle.apex_machine.proofs.Rosters.{at_record}

-- a start resets the process first, and of two changes of one record the later one counts
module _ (roster : Roster) (p : ℕ) (known : p < length roster.records) where
  abbrev fresh : Roster
  fresh = with_record roster p (reset (record_at roster p))

  at_fresh : record_at fresh p ≡ reset (record_at roster p)
  at_fresh = at_record roster p known (reset (record_at roster p))

  fresh_newest : (s : Record) → newest fresh p s ≡ newest roster p s
  fresh_newest s = rw set-set

  fresh_readied : (s : Record) → readied fresh p s ≡ readied roster p s
  fresh_readied s =
      let r = reset (record_at roster p) in
      rw (set-set roster.records p r (record s { since = roster.young }), set-set roster.records p r s)

  -- so it is one change: a release, a wait for the start, or one for NORMAL
  pub start_cases : (delay : ℕ) (P : Roster → Type 0)
      → (is_normal roster.mode ≡ true → P (readied roster p (released_at roster.now (reset (record_at roster p)))))
      → (is_normal roster.mode ≡ true → P (newest roster p (waiting (reset (record_at roster p)) Start (Some (roster.now + delay)))))
      → P (newest roster p (waiting (reset (record_at roster p)) (Normal delay) None)) → P (start roster p delay)
  start_cases delay P released awaited early =
      let blocked = λ (wait : Wait) (due : Option ℕ).
      ap (λ (r : Record). newest fresh p (waiting r wait due)) at_fresh ∙ fresh_newest (waiting (reset (record_at roster p)) wait due) in
      cond_both {A = Roster} (is_normal roster.mode) (begin fresh p delay) (block fresh p (Normal delay) None) P
      (λ normal. cond_both {A = Roster} (delay == 0) (release fresh p) (block fresh p Start (Some (roster.now + delay))) P
      (λ _. subst P (sym (ap (λ (r : Record). readied fresh p (released_at roster.now r)) at_fresh ∙ fresh_readied (released_at roster.now (reset (record_at roster p))))) (released normal))
      (λ _. subst P (sym (blocked Start (Some (roster.now + delay)))) (awaited normal)))
      (λ _. subst P (sym (blocked (Normal delay) None)) early)
