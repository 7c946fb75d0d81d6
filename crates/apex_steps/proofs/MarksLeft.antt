-- The marks that are left behind going back to one of them.
use Rattle.std.proofs.Common.{◌≡◌, ◌∙◌, ℕ, ◌<◌, ◌≤◌, Some, arith, sym, ap, subst, List, [], ◌∷◌, length, length-drop, take, drop, get_or}
use Rattle.std.specs.List.{position}
use Rattle.std.proofs.lemmas.List.{length-take-le}
use Rattle.apex_machine.specs.table.Table.{Table}
use Rattle.apex_machine.specs.Machine.{Machine, events_of, opening, replay, run}
use Rattle.apex_steps.specs.Kept.{AreKept, is_kept_as, session_kept}
use Rattle.apex_steps.specs.Sessions.{gone_back}
use Rattle.apex_steps.specs.declared.sessions.Mark.{Mark as MarkKept}
use Rattle.apex_steps.proofs.Marks.{history_cut, kept_back, kept_drop, place_found, session_back}

first_mark : (marks : List MarkKept) (mark : MarkKept) → 0 < length marks → mark ≡ get_or marks 0 mark → marks ≡ mark ∷ drop 1 marks
first_mark [] mark some is = absurd (omega (arith, some))
first_mark (first ∷ older) mark some is = ap (λ (m : MarkKept). m ∷ older) (sym is)

module _ (name : List ℕ) (table : Table) (machine : Machine) (marks left : List MarkKept) (i : ℕ)
    (again : replay table machine.history ≡ machine) (within : length machine.history ≤ table.limit)
    (kept : AreKept (length machine.history) marks) (found : position (is_kept_as name) marks ≡ Some i)
    (from : left ≡ drop i marks) where
  pub some_left : 0 < length left
  some_left =
      let place = place_found name table machine.history marks i found in
      omega (arith, place.1, ap length from, length-drop i marks)

  module _ (mark : MarkKept) (first : mark ≡ get_or left 0 mark) where
    here : drop i marks ≡ mark ∷ drop 1 left
    here = sym from ∙ first_mark left mark some_left first

    pub few_entries : mark.entries ≤ length machine.history
    few_entries =
        let some : AreKept (length machine.history) (mark ∷ drop 1 left) =
        subst (AreKept (length machine.history)) here (kept_drop (length machine.history) i marks kept) in
        some.0

    module _ (new : Machine) (made : new ≡ run table (opening table) (take mark.entries (events_of machine.history))) where
      pub goes_back : gone_back name (session_kept table machine marks) ≡ Some (session_kept table new left)
      goes_back =
          session_back name table machine new mark (drop 1 left) marks i again within kept here
          (place_found name table machine.history marks i found).0 made
          ∙ ap (λ l. Some (session_kept table new l)) (sym from)

      pub kept_left : AreKept (length new.history) left
      kept_left =
          let cut : new.history ≡ take mark.entries machine.history =
          ap (λ (m : Machine). m.history) made ∙ history_cut table machine mark.entries again within few_entries in
          let long : length new.history ≡ mark.entries =
          ap length cut ∙ length-take-le mark.entries machine.history few_entries in
          subst (AreKept (length new.history)) (sym from)
          (kept_back new (length machine.history) mark (drop 1 left) marks i kept here (omega (arith, long)))
