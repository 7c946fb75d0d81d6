-- The situation of a machine steps as the machine does, and a situation whose deed was done is the
-- next one.
use Rattle.std.proofs.Common.{◌≡◌, ◌∙◌, ◌+◌, ℕ, List, [], ◌∷◌, length, Option, None, option_map, if◌then◌else◌, refl, sym, ap, arith}
use Rattle.std.proofs.Math.Path.{fun_ext}
use Rattle.std.proofs.lemmas.List.Sums.{sum_by-append}
use Rattle.apex_types.specs.declared.entries.Event.TheVariants.{Turn, Tick}
use Rattle.apex_types.specs.declared.entries.Who.TheVariants.{Core, Ticker}
use Rattle.apex_machine.specs.Deeds.{Deed, Objects}
use Rattle.apex_machine.specs.History.{init_count}
use Rattle.apex_machine.specs.Machine.{Machine, after_deed, entry_of, happen, objects_after, opening, situation_of, tick, turn}
use Rattle.apex_machine.specs.Situations.{Situation, after, deed, step}
use Rattle.apex_machine.specs.Works.{fresh, is_turn_of, watched, work_begun}
use Rattle.apex_machine.specs.processes.Roster.{Roster, opening_roster}
use Rattle.apex_machine.specs.services.Callers.{is_by_init}
use Rattle.apex_machine.specs.table.Table.{Table, IsLawful}
use Rattle.apex_laws.specs.Terms.{Call, Caller, Entry, Event, Notice, OpenWork, Reply, Who}
use Rattle.apex_laws.proofs.OpenWorks.{open_after}
use Rattle.apex_laws.proofs.Sound.{IsSound, objects_happen}
use Rattle.apex_dispatch.specs.Deeds.{Does}
use Rattle.apex_dispatch.specs.Situations.{situation_with}
use Rattle.apex_dispatch.specs.Works.{work_at}

-- situations with the same parts are the same
same_situation : {a b : Situation} → a.roster ≡ b.roster → a.objects ≡ b.objects → ((core : ℕ) → a.works core ≡ b.works core)
    → a.made ≡ b.made → a ≡ b
same_situation {a} {b} roster objects works made =
    ap (λ (r : Roster). record a { roster = r }) roster
    ∙ ap (λ (o : Objects). record a { roster = b.roster; objects = o }) objects
    ∙ ap (λ (w : ℕ → Option OpenWork). record b { works = w; made = a.made }) (fun_ext works)
    ∙ ap (λ (n : ℕ). record b { made = n }) made

-- the situation that a deed left is the one after it
pub after_does : (s : Situation) (who : Who) (d : Deed) {caller : Caller} {call : Option Call} {reply : Reply} {left : Roster}
    {objects : Objects} {before notices : List Notice} → Does d caller call reply left objects before notices
    → (works : List (Option OpenWork)) → ((core : ℕ) → work_at works core ≡ option_map (watched left core)
    (if is_turn_of core who then option_map fresh (work_begun caller call reply) else s.works core))
    → (made : ℕ) → made ≡ s.made + (if is_by_init caller then 1 else 0)
    → situation_with left objects works made ≡ after s who d
after_does s who d does works looked made more =
    same_situation does.outcome.roster does.outcome.kept
    (λ core. looked core ∙ rw (does.caller, does.call, does.outcome.reply, does.outcome.roster) refl)
    (more ∙ rw does.caller refl)

-- the situation before any event
pub opened : (table : Table) (objects : Objects) → objects ≡ objects_after table [] → (works : List (Option OpenWork))
    → ((core : ℕ) → work_at works core ≡ None)
    → situation_with (opening_roster table) objects works 0 ≡ situation_of table (opening table)
opened table objects is works none = same_situation refl is none refl

module _ (table : Table) (machine : Machine) where
  -- the history has one more init step if the init list asked for the call
  init_count_after : (who : Who) (d : Deed)
      → init_count (after_deed machine who d).history ≡ init_count machine.history + (if is_by_init d.caller then 1 else 0)
  init_count_after who d =
      let e = entry_of (length machine.history + 1) who d in
      sum_by-append (λ (x : Entry). if is_by_init x.process then 1 else 0) machine.history (e ∷ []) ∙ omega arith

  after_situation : (who : Who) (d : Deed) → length machine.past ≡ length machine.history
      → objects_after table (after_deed machine who d).history ≡ d.outcome.object
      → after (situation_of table machine) who d ≡ situation_of table (after_deed machine who d)
  after_situation who d many objects =
      same_situation refl (sym objects) (λ core. sym (open_after machine who d many core)) (sym (init_count_after who d))

  -- the step of the machine's situation is the situation of the machine after the event
  pub steps_situation : IsLawful table → IsSound table machine → (event : Event)
      → step table (situation_of table machine) event ≡ situation_of table (happen table machine event)
  unfolding turn tick
  steps_situation lawful sound (Turn core) =
      after_situation (Core core) (deed table (situation_of table machine) (Turn core)) sound.past (objects_happen table lawful machine sound (Turn core))
  steps_situation lawful sound (Tick n) =
      after_situation Ticker (deed table (situation_of table machine) (Tick n)) sound.past (objects_happen table lawful machine sound (Tick n))
