-- The facts that a kernel keeps: its history replays, its situation is the machine's and can go on,
-- and all that holds after every run holds.
use Rattle.std.proofs.Common.{◌≡◌, ℕ, ◌+◌, ◌-◌, ◌*◌, ◌<◌, ◌≤◌, Option, arith, List, [], ◌∷◌, ◌++◌, length, ap, refl, sym, ◌∙◌, subst}
use Rattle.std.proofs.lemmas.List.Elements.{All-nil, All-push}
use Rattle.apex_types.specs.declared.entries.Event.TheVariants.{Turn, Tick}
use Rattle.apex_types.specs.declared.limits.TheConstants.{MOST_TICKS}
use Rattle.apex_laws.specs.Terms.{Call, Caller, Entry, Event, Notice, Reply}
use Rattle.apex_machine.specs.Deeds.{Deed}
use Rattle.apex_machine.specs.Events.{IsWithin}
use Rattle.apex_machine.specs.Machine.{Machine, after_deed, entry_of, happen, replay, machine_with, events_of, objects_after, opening, situation_of, tick, turn}
use Rattle.apex_machine.specs.Situations.{Situation, deed, maker, step}
use Rattle.apex_machine.specs.table.Table.{Table, IsLawful}
use Rattle.apex_laws.proofs.Runs.{length-happen}
use Rattle.apex_laws.proofs.Sound.{IsSound, sound_run, sound_happen, told}
use Rattle.apex_dispatch.specs.Deeds.{Does}
use Rattle.apex_dispatch.specs.Kernel.{KernelState, IsKept, kernel_in, kernel_with, room_of}
use Rattle.apex_laws.specs.GoesOn.{CanGoOn}
use Rattle.apex_laws.proofs.GoesOn.{goes_less}
use Rattle.apex_dispatch.proofs.MachineSteps.{steps_situation}

-- the machine of a kernel is sound
pub kept_sound : {S : Type 0} {kernel : KernelState S} {situation : Situation} {log_limit : ℕ}
    → IsKept kernel situation log_limit → IsSound kernel.table kernel.machine
kept_sound {S} {kernel} kept =
    subst (IsSound kernel.table) kept.replays (sound_run kernel.table kept.lawful (events_of kernel.machine.history))

-- and its time is in range
pub kept_time : {S : Type 0} {kernel : KernelState S} {situation : Situation} {log_limit : ℕ}
    → IsKept kernel situation log_limit → kernel.machine.roster.now ≤ MOST_TICKS * length kernel.machine.history
kept_time kept = (kept_sound kept).time kept.events

-- and its running values are those that the history gives
pub kept_values : {S : Type 0} (table : Table) (situation : Situation) (history : List Entry) (store : S) {log_limit : ℕ}
    → IsKept (kernel_with table situation history store) situation log_limit
    → situation.objects ≡ objects_after table history
kept_values table situation history store kept = ap (λ (s : Situation). s.objects) kept.situation

-- a machine that replays is the one with its roster and its history
machine_is : (table : Table) (machine : Machine) → replay table machine.history ≡ machine
    → machine_with table machine.roster machine.history ≡ machine
machine_is table machine replays = ap (λ (m : Machine). record machine { past = m.past }) replays

-- the kernel is the one after the event, and keeps the facts that each kernel keeps
pub record IsAfter {S : Type 0} (table : Table) (old : Machine) (event : Event) (kernel : KernelState S) (situation : Situation) (log_limit : ℕ) : Type 0 where
  pub is : kernel ≡ kernel_in table (happen table old event) kernel.store
  pub kept : IsKept kernel situation log_limit

-- an event adds the entry of its deed
pub happens : (table : Table) (machine : Machine) (event : Event)
    → happen table machine event ≡ after_deed machine (maker event) (deed table (situation_of table machine) event)
unfolding turn tick
happens table machine (Turn core) = refl
happens table machine (Tick n) = refl

-- the kernel after an event for which there was room
module _ {S : Type 0} (table : Table) (old : Situation) (history : List Entry) (store : S) (log_limit : ℕ)
    (kept : IsKept (kernel_with table old history store) old log_limit) (room : length history < table.limit) (event : Event) where
  abbrev machine : Machine
  machine = machine_with table old.roster history

  -- its situation can go on for the event, and for all for which there is room afterwards
  pub goes_once : CanGoOn table 1 old
  goes_once = goes_less 1 (room_of table history) (omega (arith, room)) kept.goes_on

  goes_then : CanGoOn table (table.limit - (length history + 1) + 1) old
  goes_then = goes_less _ (room_of table history) (omega (arith, room)) kept.goes_on

  sound : IsSound table machine
  sound = kept_sound kept

  after_sound : IsSound table (happen table machine event)
  after_sound = sound_happen table kept.lawful machine sound event room

  -- so it is if the situation took the step, and the entry of its deed was added
  pub after_step : (new : Situation) → new ≡ step table old event
      → ((left : ℕ) → CanGoOn table (left + 1) old → CanGoOn table left new)
      → {caller : Caller} {call : Option Call} {reply : Reply} {notices : List Notice}
      → Does (deed table old event) caller call reply new.roster new.objects [] notices
      → (entries : List Entry) → entries ≡ history ++ record {
        number = length history + 1;
        now = new.roster.now;
        who = maker event;
        process = caller;
        call = call;
        reply = reply;
        notices = notices;
      } ∷ []
      → (new_limit : ℕ) → new_limit ≡ log_limit → IsWithin table.cores event → (new_store : S)
      → IsAfter table machine event (kernel_with table new entries new_store) new new_limit
  after_step new stepped goes {caller} {call} {reply} {notices} does entries entered new_limit same range new_store =
      let after = happen table machine event in
      let situation : new ≡ situation_of table after =
      stepped ∙ ap (λ (s : Situation). step table s event) kept.situation ∙ steps_situation table machine kept.lawful sound event in
      let outcome = does.outcome in
      let same_deed : deed table old event ≡ deed table (situation_of table machine) event =
      ap (λ (s : Situation). deed table s event) kept.situation in
      let recorded : entries ≡ after.history =
      entered ∙ rw (does.caller, does.call, outcome.roster, outcome.reply, outcome.notices) refl
      ∙ ap (λ (d : Deed). history ++ entry_of (length history + 1) (maker event) d ∷ []) same_deed
      ∙ sym (ap (λ (m : Machine). m.history) (happens table machine event)) in
      let is : kernel_with table new entries new_store ≡ kernel_in table after new_store =
      rw (situation, recorded) (ap (λ (m : Machine). kernel_in table m new_store) (machine_is table after after_sound.replays)) in
      let longer : length after.history ≡ length history + 1 = length-happen table machine event in
      record {
        is = is;
        kept = rw (is, same) (record {
          lawful = kept.lawful;
          limit = kept.limit;
          situation = situation;
          goes_on = rw longer (goes (table.limit - (length history + 1)) goes_then);
          events = rw (told table machine event) (All-push (IsWithin table.cores) (events_of history) event kept.events range);
          replays = after_sound.replays;
        });
      }

pub kept_opening : {S : Type 0} (table : Table) (store : S) → IsLawful table → (situation : Situation)
    → situation ≡ situation_of table (opening table)
    → ((left : ℕ) → left ≤ table.limit → CanGoOn table left situation)
    → IsKept (kernel_with table situation [] store) situation table.limit
kept_opening table store lawful situation is goes = rw is (record {
  lawful = lawful;
  limit = refl;
  situation = refl;
  goes_on = rw is at (goes (room_of table []) (omega arith));
  events = All-nil (IsWithin table.cores);
  replays = refl;
})
