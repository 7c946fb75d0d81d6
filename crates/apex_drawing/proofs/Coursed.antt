-- A course after one event more.
use Rattle.std.proofs.Math.Seq.{get_or-append_seam}
use Rattle.std.proofs.Common.{length-append, ◌≡◌, ◌∙◌, ℕ, ◌+◌, ◌-◌, ◌<◌, ◌≤◌, List, [], ◌∷◌, ◌++◌, Option, drop, get_or, length, refl, sym, ap, subst, arith}
use Rattle.std.specs.Prelude.{All}
use Rattle.std.proofs.lemmas.List.Elements.{All-push}
use Rattle.apex_types.specs.Limits.{latest}
use Rattle.apex_dispatch.specs.Deeds.{Does}
use Rattle.apex_dispatch.specs.Kernel.{room_of}
use Rattle.apex_dispatch.proofs.MachineSteps.{steps_situation}
use Rattle.apex_dispatch.proofs.Replays.{happens}
use Rattle.apex_laws.specs.GoesOn.{CanGoOn}
use Rattle.apex_laws.specs.Terms.{Call, Caller, Entry, Event, Notice, Reply}
use Rattle.apex_laws.proofs.GoesOn.{goes_less}
use Rattle.apex_laws.proofs.Runs.{length-happen}
use Rattle.apex_laws.proofs.Sound.{IsSound, sound_happen, sound_run, told}
use Rattle.apex_machine.specs.Deeds.{Deed}
use Rattle.apex_machine.specs.Events.{IsWithin}
use Rattle.apex_machine.specs.Machine.{Machine, accept, entry_of, events_of, happen, opening, replay, run, situation_of}
use Rattle.apex_machine.specs.Situations.{Situation, deed, maker, step}
use Rattle.apex_machine.specs.table.Table.{Table, IsLawful}
use Rattle.apex_history.specs.Page.{Passes}
use Rattle.apex_moments.specs.Moments.{IsPictured}
use Rattle.apex_moments.proofs.Pictured.{pictured_accept}
use Rattle.apex_drawing.specs.Courses.{IsAt}
use Rattle.apex_drawing.specs.Drawing.{Grows}
use Rattle.apex_drawing.specs.declared.courses.Course.{Course}
use Rattle.apex_drawing.specs.declared.styles.Style.{Style}
use Rattle.apex_drawing.proofs.Drawn.{drawn_more, so_far}
use Rattle.apex_moments.proofs.EventsOf.{run_next}

-- a machine that replays is sound
pub sound_replay : (table : Table) → IsLawful table → (machine : Machine) → replay table machine.history ≡ machine
    → IsSound table machine
sound_replay table lawful machine replays =
    subst (IsSound table) replays (sound_run table lawful (events_of machine.history))

-- and its time is in range
pub time_within : (table : Table) → IsLawful table → (machine : Machine) → replay table machine.history ≡ machine
    → All (IsWithin table.cores) (events_of machine.history) → machine.roster.now ≤ latest
time_within table lawful machine replays events =
    let sound = sound_replay table lawful machine replays in
    omega (arith, sound.time events, sound.within, lawful.limit)

-- the situation is that of the machine after the event, and the entry is the event's
pub record IsNext (table : Table) (machine : Machine) (event : Event) (new : Situation) (entry : Entry) : Type 0 where
  pub situation : new ≡ situation_of table (happen table machine event)
  pub goes_on : CanGoOn table (room_of table (happen table machine event).history) new
  pub history : (happen table machine event).history ≡ machine.history ++ entry ∷ []
  pub events : All (IsWithin table.cores) (events_of (happen table machine event).history)
  pub sound : IsSound table (happen table machine event)

module _ (table : Table) (lawful : IsLawful table) (machine : Machine) (replays : replay table machine.history ≡ machine)
    (room : length machine.history < table.limit) (old : Situation) (same : old ≡ situation_of table machine)
    (can : CanGoOn table (room_of table machine.history) old) where
  -- the situation can go on for the event
  pub goes_once : CanGoOn table 1 old
  goes_once = goes_less 1 (room_of table machine.history) (omega (arith, room)) can

  goes_then : CanGoOn table (table.limit - (length machine.history + 1) + 1) old
  goes_then = goes_less _ (room_of table machine.history) (omega (arith, room)) can

  -- and if it took the step, it is the next one
  pub next : (event : Event) → IsWithin table.cores event → All (IsWithin table.cores) (events_of machine.history)
      → (new : Situation) → new ≡ step table old event
      → ((left : ℕ) → CanGoOn table (left + 1) old → CanGoOn table left new)
      → {caller : Caller} {call : Option Call} {reply : Reply} {notices : List Notice}
      → Does (deed table old event) caller call reply new.roster new.objects [] notices
      → IsNext table machine event new (record {
        number = length machine.history + 1;
        now = new.roster.now;
        who = maker event;
        process = caller;
        call = call;
        reply = reply;
        notices = notices;
      })
  next event range events new stepped goes {caller} {call} {reply} {notices} does =
      let sound = sound_replay table lawful machine replays in
      let after = happen table machine event in
      let outcome = does.outcome in
      let longer : length after.history ≡ length machine.history + 1 = length-happen table machine event in
      record {
        situation = stepped ∙ ap (λ (s : Situation). step table s event) same ∙ steps_situation table machine lawful sound event;
        goes_on = rw longer (goes (table.limit - (length machine.history + 1)) goes_then);
        history = ap (λ (m : Machine). m.history) (happens table machine event)
            ∙ ap (λ (d : Deed). machine.history ++ entry_of (length machine.history + 1) (maker event) d ∷ [])
            (sym (ap (λ (s : Situation). deed table s event) same))
            ∙ rw (does.caller, does.call, outcome.roster, outcome.reply, outcome.notices) refl;
        events = rw (told table machine event) (All-push (IsWithin table.cores) (events_of machine.history) event events range);
        sound = sound_happen table lawful machine sound event room;
      }

-- the events before these were made: the writer has a prefix of the picture so far, and the page is the rest
pub record IsDrawn {S : Type 0} (style : Style) (table : Table) (events others : List Event) (course : Course S)
    (begun written : Option (List ℕ)) (held : List ℕ) : Type 0 where
  pub machine : Machine
  pub at : IsAt style table machine course
  pub rest : run table machine others ≡ run table (opening table) events
  pub pictured : IsPictured table machine
  pub text : Passes begun written (so_far style table machine) held

-- one event more of them
pub drawn_next : {S : Type 0} {style : Style} {table : Table} {events : List Event} {course : Course S}
    {begun written : Option (List ℕ)} {text : List ℕ} (i : ℕ) (event : Event) (drawn : IsDrawn style table events (drop i events) course begun written text)
    → i < length events → event ≡ get_or events i event
    → (new : Course S) (after : List ℕ)
    → ((machine : Machine) → IsAt style table machine course → IsAt style table (accept table machine event) new)
    → ((machine : Machine) → IsAt style table machine course → Grows style table machine (accept table machine event) text after)
    → IsDrawn style table events (drop (i + 1) events) new begun written after
drawn_next {S} {style} {table} {events} {course} {begun} {written} {text} i event drawn within here new after goes grows =
    let machine = drawn.machine in
    record {
      machine = accept table machine event;
      at = goes machine drawn.at;
      rest = run_next table machine (accept table machine event) events i event (run table (opening table) events) within here refl drawn.rest;
      pictured = pictured_accept table machine drawn.pictured event;
      text = drawn_more begun written style table machine (accept table machine event) text after drawn.text (grows machine drawn.at);
    }

-- what holds of all entries holds of the last one
pub last_holds : (P : Entry → Type 0) (history : List Entry) (entry : Entry) → All P (history ++ entry ∷ []) → P entry
last_holds P history entry all =
    subst P (get_or-append_seam history entry [] entry)
    (all (length history) entry (omega (arith, length-append history (entry ∷ []))))
