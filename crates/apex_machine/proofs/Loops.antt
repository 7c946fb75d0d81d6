-- Loops that make changes of several processes in turn.
use Rattle.std.proofs.Common.{◌≡◌, ℕ, suc, ◌+◌, ◌-◌, ◌≤◌, List, Option, None, Some, sym, ap, ◌∙◌, arith, append-nil}
use Rattle.apex_machine.specs.Terms.{Notice}
use Rattle.apex_machine.specs.services.InTurn.{Changed, unchanged, behind, in_turn, Makes}
use Rattle.apex_machine.specs.processes.Roster.{Roster}
use Rattle.apex_machine.proofs.InTurn.{in_turn-none, in_turn-some}

module _ (next : Roster → Option ℕ) (change : Roster → ℕ → Changed) where
  -- the turns that are left, from this one to the end, lead to all that the loop is to change
  abbrev pub LeadsTo : Changed → (turn end : ℕ) → Roster → List Notice → Type 0
  LeadsTo all turn end roster notices =
      (left : ℕ) → left + turn ≡ end → behind notices (in_turn next change left roster) ≡ all

  module _ (changed : Changed) (turn end : ℕ) (roster : Roster) (before notices : List Notice) where
    made : behind notices (unchanged roster) ≡ behind before changed → Makes changed roster before notices
    made e = record {
      roster = ap (λ (c : Changed). c.roster) e;
      notices = sym (append-nil notices) ∙ ap (λ (c : Changed). c.notices) e;
    }

    -- no process is next
    pub made_by_none : LeadsTo (behind before changed) turn end roster notices → turn ≤ end → next roster ≡ None
        → Makes changed roster before notices
    made_by_none leads within none = none_left (end - turn) (omega (arith, within)) where
      none_left : (left : ℕ) → left + turn ≡ end → Makes changed roster before notices
      none_left left e = made (ap (behind notices) (sym (in_turn-none next change left roster none)) ∙ leads left e)

    -- every turn is taken
    pub made_by_all : LeadsTo (behind before changed) turn end roster notices → turn ≡ end
        → Makes changed roster before notices
    made_by_all leads last = made (leads 0 (omega (arith, last)))

  -- process p is next, and is changed
  pub leads_on : (all : Changed) (turn end : ℕ) (old new : Roster) (before notices : List Notice) (p : ℕ)
      → LeadsTo all turn end old before → next old ≡ Some p → Makes (change old p) new before notices
      → LeadsTo all (turn + 1) end new notices
  leads_on all turn end old new before notices p leads found makes left e =
      let step = in_turn-some next change left old before p found in
      rw (makes.roster, makes.notices) (sym step ∙ leads (suc left) (omega (arith, e)))
