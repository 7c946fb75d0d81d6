-- The last entry of a run is that of the last event's deed.
use Rattle.std.proofs.Common.{◌≡◌, ◌∙◌, ◌++◌, ◌+◌, ◌<◌, ◌≤◌, List, [], ◌∷◌, ap, arith, length, refl, subst, sym, Option, None, Some}
use Rattle.std.specs.List.{last_or}
use Rattle.apex_alike.proofs.Situated.{same_deed}
use Rattle.apex_dispatch.proofs.MachineSteps.{steps_situation}
use Rattle.apex_laws.proofs.Runs.{accept-room, length-happen, run-append}
use Rattle.apex_laws.proofs.Sound.{IsSound, sound_happen, sound_opening}
use Rattle.apex_machine.specs.Machine.{Machine, entry_of, happen, opening, run, situation_of}
use Rattle.apex_machine.specs.Situations.{Situation, deed, maker, step}
use Rattle.apex_machine.specs.table.Table.{IsLawful, Table}
use Rattle.apex_pace.specs.Pace.{Paced, paced_opening, paced_run, paced_step}
use Rattle.apex_types.specs.declared.entries.Event.{Event}

last_appended : {A : Type 0} (o : Option A) (xs : List A) (x : A) → last_or o (xs ++ x ∷ []) ≡ Some x
last_appended o [] x = refl
last_appended o (y ∷ ys) x = last_appended (Some y) ys x

module _ (table : Table) (lawful : IsLawful table) where
  -- events for which there is room leave a situation that is that of the machine's run
  run_situation : (events : List Event) (machine : Machine) (s : Paced) → IsSound table machine
      → s.situation ≡ situation_of table machine → length machine.history + length events ≤ table.limit
      → (paced_run table s events).situation ≡ situation_of table (run table machine events)
  run_situation [] machine s sound is fits = is
  run_situation (event ∷ events) machine s sound is fits =
      let room : length machine.history < table.limit = omega (arith, fits) in
      let stepped : (paced_step table s event).situation ≡ situation_of table (happen table machine event) =
      ap (λ (t : Situation). step table t event) is ∙ steps_situation table machine lawful sound event in
      subst (λ (m : Machine). (paced_run table s (event ∷ events)).situation ≡ situation_of table (run table m events))
      (sym (accept-room table machine event room))
      (run_situation events (happen table machine event) (paced_step table s event)
      (sound_happen table lawful machine sound event room) stepped
      (omega (arith, fits, length-happen table machine event)))

  -- the run of events for which there is room has an entry for each of them
  run_length : (events : List Event) (machine : Machine) → length machine.history + length events ≤ table.limit
      → length (run table machine events).history ≡ length machine.history + length events
  run_length [] machine fits = omega arith
  run_length (event ∷ events) machine fits =
      let room : length machine.history < table.limit = omega (arith, fits) in
      let longer = length-happen table machine event in
      ap (λ (m : Machine). length (run table m events).history) (accept-room table machine event room)
      ∙ run_length events (happen table machine event) (omega (arith, fits, longer)) ∙ omega (arith, longer)

  pub last_entry : (earlier : List Event) (last : Event) → length earlier + 1 ≤ table.limit
      → last_or None (run table (opening table) (earlier ++ last ∷ [])).history
      ≡ Some (entry_of (length earlier + 1) (maker last)
      (deed table (paced_run table (paced_opening table) earlier).situation last))
  last_entry earlier last fits =
      let before = run table (opening table) earlier in
      let situation = situation_of table before in
      let many : length before.history ≡ length earlier = run_length earlier (opening table) (omega (arith, fits)) ∙ omega arith in
      let room : length before.history < table.limit = omega (arith, many, fits) in
      let same : (paced_run table (paced_opening table) earlier).situation ≡ situation =
      run_situation earlier (opening table) (paced_opening table) (sound_opening table lawful) refl (omega (arith, fits)) in
      ap (λ (m : Machine). last_or None m.history)
      (run-append table (opening table) earlier (last ∷ []) ∙ accept-room table before last room ∙ same_deed table before last)
      ∙ last_appended None before.history (entry_of (length before.history + 1) (maker last) (deed table situation last))
      ∙ ap (λ n. Some (entry_of (n + 1) (maker last) (deed table situation last))) many
      ∙ ap (λ (t : Situation). Some (entry_of (length earlier + 1) (maker last) (deed table t last))) (sym same)
