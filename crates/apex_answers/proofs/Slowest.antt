-- The answer of a search for the greatest response, and the run that it shows.
use Rattle.std.proofs.Common.{◌≡◌, ◌∙◌, ◌++◌, ◌+◌, ◌≤◌, ℕ, List, [], ◌∷◌, All, ap, arith, length, length-append, refl, subst, sym, None, Option, Some, Ok}
use Rattle.std.proofs.lemmas.Option.{none-some, same_Some}
use Rattle.std.specs.List.{last_or}
use Rattle.apex_calls.specs.Lines.{line_of}
use Rattle.apex_dispatch.specs.Kernel.{KernelState, kernel_in}
use Rattle.apex_machine.specs.Events.{IsWithin}
use Rattle.apex_machine.specs.Machine.{Machine, entry_of, events_of, opening, run}
use Rattle.apex_machine.specs.Situations.{deed, maker}
use Rattle.apex_machine.specs.table.Table.{IsLawful, Table}
use Rattle.apex_pace.specs.Pace.{paced_opening, paced_run}
use Rattle.apex_search.specs.Steps.{Searched}
use Rattle.apex_search.specs.Worst.{IsSlowest, IsWorst, schedule_in}
use Rattle.apex_search.specs.declared.Slowest.{Slowest}
use Rattle.apex_search.specs.declared.Worst.{Worst}
use Rattle.apex_search.specs.declared.Worst.TheVariants.{Greatest, Overrun, Full, Beyond}
use Rattle.apex_table.specs.Reading.{table_of}
use Rattle.apex_types.specs.declared.entries.Entry.{Entry}
use Rattle.apex_types.specs.declared.entries.Event.{Event}
use Rattle.apex_answers.specs.Texts.{line_in, run_text}
use Rattle.apex_answers.specs.Worst.{CanRun, HasRun, IsWorstAnswer, ShowsRun, nothing, run_part, shows}
use Rattle.apex_answers.specs.declared.worst.WorstAnswer.{WorstAnswer}
use Rattle.apex_answers.proofs.LastEntries.{last_entry}
use Rattle.apex_answers.proofs.Shortest.{same_table}

-- the events are those of a schedule whose last entry can be shown
pub record CanShow (table : Table) (events : List Event) : Type 0 where
  pub earlier : List Event
  pub last : Event
  pub is : events ≡ earlier ++ last ∷ []
  pub own : All (IsWithin table.cores) events
  pub fits : length events ≤ table.limit

module _ (system : Searched) (p room : ℕ) where
  from_slowest : (slowest : Slowest) → IsSlowest system p slowest → CanShow system.table slowest.schedule.items
  from_slowest slowest is = record {
    earlier = is.leads.earlier;
    last = is.leads.last;
    is = is.leads.is;
    own = is.own;
    fits = is.fits;
  }

  pub can_show : (worst : Worst) → IsWorst system p room worst → (events : List Event) → schedule_in worst ≡ Some events → CanShow system.table events
  can_show (Greatest None states) is events e = absurd (none-some events e)
  can_show (Greatest (Some slowest) states) is events e = subst (CanShow system.table) (same_Some slowest.schedule.items events e) (from_slowest slowest (is.0 slowest refl))
  can_show (Overrun schedule period) is events e = subst (CanShow system.table) (same_Some schedule.items events e) (record {
    earlier = is.leads.earlier;
    last = is.leads.last;
    is = is.leads.is;
    own = is.own;
    fits = is.fits;
  })
  can_show (Full None depth) is events e = absurd (none-some events e)
  can_show (Full (Some slowest) depth) is events e = subst (CanShow system.table) (same_Some slowest.schedule.items events e) (from_slowest slowest (is.0 slowest refl))
  can_show (Beyond None limit) is events e = absurd (none-some events e)
  can_show (Beyond (Some slowest) limit) is events e = subst (CanShow system.table) (same_Some slowest.schedule.items events e) (from_slowest slowest (is.0 slowest refl))

-- the events that are shown can be made
pub can_run : (table : Table) (text : List ℕ) (events : List Event) → table_of text ≡ Ok table → CanShow table events → CanRun text events
can_run table text events read can = record { table = table; read = read; own = can.own; fits = can.fits }

-- the kernel of the text makes the events
module _ {S : Type 0} (text : List ℕ) (events : List Event) (can : CanRun text events) (before : KernelState S)
    (read : table_of text ≡ Ok before.table) (opened : before ≡ kernel_in before.table (opening before.table) before.store) where
  same : before.table ≡ can.table
  same = same_table (table_of text) before.table can.table read can.read

  pub own_events : All (IsWithin before.table.cores) events
  own_events = subst (λ (t : Table). All (IsWithin t.cores) events) (sym same) can.own

  empty : before.machine.history ≡ []
  empty = ap (λ (k : KernelState S). k.machine.history) opened

  pub has_room : length before.machine.history + length events ≤ before.table.limit
  has_room = omega (arith, can.fits, ap (λ (h : List Entry). length h) empty, ap (λ (t : Table). t.limit) same)

  pub has_run : (after : KernelState S)
      → after ≡ kernel_in before.table (run before.table (opening before.table) (events_of before.machine.history ++ events)) after.store
      → HasRun text events after
  has_run after done =
      let table : after.table ≡ before.table = ap (λ (k : KernelState S). k.table) done in
      record {
        table = read ∙ ap Ok (sym table);
        machine = ap (λ (k : KernelState S). k.machine) done
            ∙ ap (λ (h : List Entry). run before.table (opening before.table) (events_of h ++ events)) empty
            ∙ ap (λ (t : Table). run t (opening t) events) (sym table);
      }

-- the run of a schedule shows its last entry
pub shows_run : {S : Type 0} (table : Table) → IsLawful table → (text : List ℕ) (events : List Event) (kernel : KernelState S)
    → table_of text ≡ Ok table → CanShow table events → HasRun text events kernel
    → ShowsRun table (Some events) (run_text events (line_in kernel.table (last_or None kernel.machine.history)))
shows_run table lawful text events kernel read can ran =
    let same : kernel.table ≡ table = same_table (table_of text) kernel.table table ran.table read in
    let long : length events ≡ length can.earlier + 1 = ap length can.is ∙ length-append can.earlier (can.last ∷ []) in
    let done = deed table (paced_run table (paced_opening table) can.earlier).situation can.last in
    let entry = entry_of (length events) (maker can.last) done in
    let ends : last_or None (run table (opening table) events).history ≡ Some entry =
    ap (λ (e : List Event). last_or None (run table (opening table) e).history) can.is
    ∙ last_entry table lawful can.earlier can.last (omega (arith, long, can.fits))
    ∙ ap (λ n. Some (entry_of n (maker can.last) done)) (sym long) in
    let last : last_or None kernel.machine.history ≡ Some entry =
    ap (λ (m : Machine). last_or None m.history) ran.machine
    ∙ ap (λ (t : Table). last_or None (run t (opening t) events).history) same ∙ ends in
    let text_is : run_text events (line_in kernel.table (last_or None kernel.machine.history)) ≡ run_text events (line_of table entry) =
    ap (λ (o : Option Entry). run_text events (line_in kernel.table o)) last
    ∙ ap (λ (t : Table). run_text events (line_of t entry)) same in
    subst (λ (part : List ℕ). ShowsRun table (Some events) part) (sym text_is)
    (shows events entry (record { earlier = can.earlier; last = can.last; is = can.is; entry_is = refl; ends = ends }))

module _ (system : Searched) (p room : ℕ) (answer : WorstAnswer) (is : IsWorst system p room answer.worst) where
  pub answer_with : (found : Option (List Event)) → schedule_in answer.worst ≡ found → ShowsRun system.table found (run_part found answer.kernel)
      → IsWorstAnswer system p room answer
  answer_with found e shown = record {
    worst = answer.worst;
    is = is;
    run = run_part (schedule_in answer.worst) answer.kernel;
    shows = subst (λ (f : Option (List Event)). ShowsRun system.table f (run_part f answer.kernel)) (sym e) shown;
    text_is = refl;
    end_is = refl;
  }

  pub answers_none : schedule_in answer.worst ≡ None → IsWorstAnswer system p room answer
  answers_none e = answer_with None e nothing
