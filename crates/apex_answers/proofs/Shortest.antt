-- The answer for a shortest schedule, by whether the history has room for its entries.
use Rattle.std.proofs.Common.{◌≡◌, ◌∙◌, ◌++◌, ◌+◌, ◌<◌, ◌≤◌, ℕ, List, [], ◌∷◌, ap, arith, false, inl, inr, length, length-append, refl, subst, sym, true, None, Option, Some, Ok}
use Rattle.std.specs.Prelude.{Result}
use Rattle.std.proofs.lemmas.Bool.{both_ways, cases_lt}
use Rattle.std.specs.List.{last_or}
use Rattle.apex_calls.specs.Lines.{line_of}
use Rattle.apex_dispatch.specs.Kernel.{KernelState, kernel_in}
use Rattle.apex_machine.specs.Machine.{Machine, entry_of, events_of, opening, run}
use Rattle.apex_machine.specs.Situations.{deed, maker}
use Rattle.apex_machine.specs.table.Table.{IsLawful, Table}
use Rattle.apex_pace.specs.Pace.{paced_opening, paced_run}
use Rattle.apex_search.specs.Answers.{IsShortestSchedule, schedule_of}
use Rattle.apex_search.specs.Steps.{Searched}
use Rattle.apex_words.specs.declared.TableFault.{TableFault}
use Rattle.apex_types.specs.declared.entries.Entry.{Entry}
use Rattle.apex_types.specs.declared.entries.Event.{Event}
use Rattle.apex_answers.specs.Answers.{Says, beyond, finds, found, is_beyond}
use Rattle.apex_answers.specs.Texts.{found_text, line_in, within_text}
use Rattle.apex_answers.proofs.LastEntries.{last_entry}

module _ (system : Searched) (room : ℕ) (path : List ℕ) (events : List Event) (shortest : IsShortestSchedule system path)
    (are : events ≡ schedule_of system path) where
  many : length events ≡ length path
  many = ap length are ∙ shortest.many

  pub says_found : IsLawful system.table → (table : Table) (machine : Machine) → table ≡ system.table
      → machine ≡ run table (opening table) events → length events ≤ table.limit
      → Says system room (found_text events (line_in table (last_or None machine.history))) finds
  says_found lawful table machine of made fits =
      let leads = shortest.leads in
      let scheduled = schedule_of system path in
      let long : length scheduled ≡ length leads.earlier + 1 = ap length leads.is ∙ length-append leads.earlier (leads.last ∷ []) in
      let fits_path : length path ≤ system.table.limit = omega (arith, many, fits, ap (λ (t : Table). t.limit) of) in
      let done = deed system.table (paced_run system.table (paced_opening system.table) leads.earlier).situation leads.last in
      let entry = entry_of (length scheduled) (maker leads.last) done in
      let ends : last_or None (run system.table (opening system.table) scheduled).history ≡ Some entry =
      ap (λ (e : List Event). last_or None (run system.table (opening system.table) e).history) leads.is
      ∙ last_entry system.table lawful leads.earlier leads.last (omega (arith, long, shortest.many, fits_path))
      ∙ ap (λ n. Some (entry_of n (maker leads.last) done)) (sym long) in
      let last : last_or None machine.history ≡ Some entry =
      ap (λ (m : Machine). last_or None m.history) made
      ∙ ap (λ (t : Table). last_or None (run t (opening t) events).history) of
      ∙ ap (λ (e : List Event). last_or None (run system.table (opening system.table) e).history) are ∙ ends in
      let text_is : found_text events (line_in table (last_or None machine.history)) ≡ found_text scheduled (line_of system.table entry) =
      ap (λ (o : Option Entry). found_text events (line_in table o)) last
      ∙ ap (λ (t : Table). found_text events (line_of t entry)) of
      ∙ ap (λ (e : List Event). found_text e (line_of system.table entry)) are in
      subst (λ (text : List ℕ). Says system room text finds) (sym text_is)
      (found path entry shortest fits_path (record {
        earlier = leads.earlier;
        last = leads.last;
        deed = done;
        is = leads.is;
        done = refl;
        has = leads.has;
        entry_is = refl;
        ends = ends;
      }))

  pub says_beyond : (table : Table) (limit : ℕ) → table ≡ system.table → limit ≡ table.limit → table.limit < length events
      → Says system room (within_text limit) (is_beyond limit)
  says_beyond table limit of is longer =
      let limit_is : limit ≡ system.table.limit = is ∙ ap (λ (t : Table). t.limit) of in
      subst (λ (n : ℕ). Says system room (within_text n) (is_beyond n)) (sym limit_is)
      (beyond path shortest (omega (arith, many, longer, ap (λ (t : Table). t.limit) of)))

-- ---- the kernel of a table's text

-- a text has one table
pub same_table : (read : Result Table TableFault) (one other : Table) → read ≡ Ok one → read ≡ Ok other → one ≡ other
same_table read one other is also = cc

no_room_for : (n limit : ℕ) → (n ≤ limit → false ≡ true) → limit < n
no_room_for n limit none = elim (cases_lt limit n) [
  | inl full ↦ full
  | inr fits ↦ absurd (both_ways false refl (none fits))
]

-- the kernel of the system's table has made the events from before any event on
pub record IsRun {S : Type 0} (system : Searched) (events : List Event) (before after : KernelState S) : Type 0 where
  pub table : before.table ≡ system.table
  pub opened : before ≡ kernel_in before.table (opening before.table) before.store
  pub done : after ≡ kernel_in before.table (run before.table (opening before.table) (events_of before.machine.history ++ events)) after.store

module _ {S : Type 0} (system : Searched) (room : ℕ) (path : List ℕ) (events : List Event) (shortest : IsShortestSchedule system path)
    (are : events ≡ schedule_of system path) (before after : KernelState S) (ran : IsRun system events before after) where
  empty : before.machine.history ≡ []
  empty = ap (λ (k : KernelState S). k.machine.history) ran.opened

  pub says_ran : IsLawful system.table → length before.machine.history + length events ≤ before.table.limit
      → Says system room (found_text events (line_in after.table (last_or None after.machine.history))) finds
  says_ran lawful fits =
      let table : after.table ≡ before.table = ap (λ (k : KernelState S). k.table) ran.done in
      let machine : after.machine ≡ run after.table (opening after.table) events =
      ap (λ (k : KernelState S). k.machine) ran.done
      ∙ ap (λ (h : List Entry). run before.table (opening before.table) (events_of h ++ events)) empty
      ∙ ap (λ (t : Table). run t (opening t) events) (sym table) in
      says_found system room path events shortest are lawful after.table after.machine (table ∙ ran.table) machine
      (omega (arith, fits, ap (λ (t : Table). t.limit) table))

  pub says_full : (limit : ℕ) → limit ≡ before.table.limit
      → (length before.machine.history + length events ≤ before.table.limit → false ≡ true)
      → Says system room (within_text limit) (is_beyond limit)
  says_full limit is none =
      let many = no_room_for (length before.machine.history + length events) before.table.limit none in
      says_beyond system room path events shortest are before.table limit ran.table is
      (omega (arith, many, ap (λ (h : List Entry). length h) empty))
