-- Changes of several processes, one after the other.
use Rattle.std.proofs.Common.{◌≡◌, ℕ, zero, suc, List, ◌++◌, Option, None, Some, refl, append-nil, append_assoc}
use Rattle.apex_machine.specs.Terms.{Notice}
use Rattle.apex_machine.specs.processes.Roster.{Roster}
use Rattle.apex_machine.specs.services.InTurn.{Changed, unchanged, behind, next_and, in_turn}

module _ (next : Roster → Option ℕ) (change : Roster → ℕ → Changed) where
  -- no process is next
  pub in_turn-none : (left : ℕ) (roster : Roster) → next roster ≡ None
      → in_turn next change left roster ≡ unchanged roster
  in_turn-none zero roster e = refl
  in_turn-none (suc left) roster e = rw e refl

  -- process p is next
  pub in_turn-some : (left : ℕ) (roster : Roster) (before : List Notice) (p : ℕ) → next roster ≡ Some p
      → behind before (in_turn next change (suc left) roster)
      ≡ behind (before ++ (change roster p).notices) (in_turn next change left (change roster p).roster)
  in_turn-some left roster before p e =
      let changed = change roster p in
      let rest = in_turn next change left changed.roster in
      rw (e, append_assoc before changed.notices rest.notices) refl

  -- a property that holds at the start and stays at each change holds at the end
  module _ (Holds : Roster → List Notice → Type 0)
      (stays : (roster : Roster) (before : List Notice) (p : ℕ) → next roster ≡ Some p → Holds roster before
      → Holds (change roster p).roster (before ++ (change roster p).notices)) where
    abbrev HoldsOf : List Notice → Changed → Type 0
    HoldsOf before changed = Holds changed.roster (before ++ changed.notices)

    holds_and : (others : Roster → Changed)
        → ((roster : Roster) (before : List Notice) → Holds roster before → HoldsOf before (others roster))
        → (roster : Roster) (before : List Notice) → Holds roster before → (found : Option ℕ) → next roster ≡ found
        → HoldsOf before (next_and others change roster found)
    holds_and others rest roster before holds None is = rw (append-nil before) holds
    holds_and others rest roster before holds (Some p) is =
        let changed = change roster p in
        let after = rest changed.roster (before ++ changed.notices) (stays roster before p is holds) in
        rw (append_assoc before changed.notices (others changed.roster).notices) at after

    pub holds_in_turn : (left : ℕ) (roster : Roster) (before : List Notice) → Holds roster before
        → HoldsOf before (in_turn next change left roster)
    holds_in_turn zero roster before holds = rw (append-nil before) holds
    holds_in_turn (suc left) roster before holds =
        holds_and (in_turn next change left) (holds_in_turn left) roster before holds (next roster) refl
