-- A core is busy exactly while work is open on it.
use Rattle.std.proofs.Common.{◌≡◌, ℕ, ◌+◌, Bool, true, false, List, [], ◌∷◌, length, nat_lt, Option, None, Some, is_some, option_map, if◌then◌else◌, refl, sym, ◌∙◌, ap, subst}
use Rattle.std.proofs.lemmas.Bool.{cond_both}
use Rattle.std.proofs.lemmas.List.Sums.{fold_push}
use Rattle.apex_machine.specs.Deeds.{Deed}
use Rattle.apex_machine.specs.Machine.{Machine, accept, after_deed, entry_of, happen, objects_after, open_work, opening, run}
use Rattle.apex_machine.specs.table.Table.{Table, IsLawful}
use Rattle.apex_machine.specs.Works.{fresh, is_turn_of, watched, work_begun}
use Rattle.apex_laws.specs.Terms.{OpenWork, Work}
use Rattle.apex_laws.proofs.OpenWorks.{open_after}
use Rattle.apex_laws.proofs.Sound.{IsSound, deed_at, happened, happens, sound_accept, sound_opening, who_of}
use Rattle.apex_report.specs.Cores.{is_working, is_working_after}
use Rattle.apex_report.specs.Terms.{Event, Who}

still_some : {X Y : Type 0} (f : X → Y) (found : Option X) → is_some (option_map f found) ≡ is_some found
still_some f None = refl
still_some f (Some x) = refl

module _ (core : ℕ) where
  abbrev IsTold : Machine → Type 0
  IsTold machine = is_working core machine.history ≡ is_some (open_work machine core)

  -- after the core's own entry work is open if the entry began some, and after any other as before
  told_by : (mine before : Bool) (begun : Option Work) (found : Option OpenWork) → before ≡ is_some found
      → (if mine then is_some begun else before) ≡ is_some (if mine then option_map fresh begun else found)
  told_by true before begun found is = sym (still_some fresh begun)
  told_by false before begun found is = is

  told_deed : (machine : Machine) (who : Who) (deed : Deed) → length machine.past ≡ length machine.history
      → IsTold machine → IsTold (after_deed machine who deed)
  told_deed machine who deed same is =
      let begun = work_begun deed.caller deed.call deed.outcome.reply in
      fold_push (is_working_after core) false machine.history (entry_of (length machine.history + 1) who deed)
      ∙ told_by (is_turn_of core who) (is_working core machine.history) begun (open_work machine core) is
      ∙ sym (still_some (watched deed.outcome.roster core) _)
      ∙ ap (λ (found : Option OpenWork). is_some found) (sym (open_after machine who deed same core))

  module _ (table : Table) (lawful : IsLawful table) where
    told_happen : (machine : Machine) → IsSound table machine → (event : Event) → IsTold machine
        → IsTold (happen table machine event)
    told_happen machine sound event is =
        subst IsTold (sym (happens table machine event))
        (told_deed machine (who_of event) (deed_at table machine (objects_after table machine.history) event) sound.past is)

    told_accept : (machine : Machine) → IsSound table machine → (event : Event) → IsTold machine
        → IsTold (accept table machine event)
    told_accept machine sound event is =
        cond_both {A = Machine} (nat_lt (length machine.history) table.limit) (happen table machine event) machine IsTold
        (λ _. told_happen machine sound event is) (λ _. is)

    told_run : (events : List Event) (machine : Machine) → IsSound table machine → IsTold machine
        → IsTold (run table machine events)
    told_run [] machine sound is = is
    told_run (event ∷ events) machine sound is =
        told_run events (accept table machine event) (sound_accept table lawful machine sound event) (told_accept machine sound event is)

-- so it is in every run
pub working_run : (table : Table) → IsLawful table → (core : ℕ) (events : List Event)
    → is_working core (run table (opening table) events).history ≡ is_some (open_work (run table (opening table) events) core)
working_run table lawful core events =
    told_run core table lawful events (opening table) (sound_opening table lawful) refl
