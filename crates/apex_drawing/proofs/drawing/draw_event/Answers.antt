-- The event adds the column of its entry.
use Rattle.std.proofs.Common.{◌≡◌, ◌∙◌, ◌+◌, ◌<◌, ◌++◌, None, ap, arith, length, refl, sym, subst}
use Rattle.std.specs.Prelude.{All}
use Rattle.std.proofs.lemmas.Result.{on_ok_weaker}
use Rattle.apex_calls.specs.Lines.{IsPrintable}
use Rattle.apex_dispatch.specs.Situations.{situation_in}
use Rattle.apex_laws.proofs.Runs.{accept-room, length-happen}
use Rattle.std.specs.List.{last_or}
use Rattle.apex_machine.specs.Machine.{Machine, accept, objects_after, situation_of}
use Rattle.apex_machine.specs.Situations.{Situation}
use Rattle.apex_machine.specs.processes.Running.{chosen}
use Rattle.apex_types.specs.declared.limits.TheConstants.{MOST_CORES}
use Rattle.apex_moments.specs.declared.instants.Instant.{Instant}
use Rattle.apex_moments.specs.Instants.{instant_after}
use Rattle.apex_moments.specs.Moments.{cell_of, moment_at, moment_in}
use Rattle.apex_moments.proofs.Counted.{counted_all}
use Rattle.apex_moments.proofs.NextInstants.{next_now, place_within}
use Rattle.apex_moments.proofs.Pictured.{column_more, instant_more, pictured_machine, timed_machine}
use Rattle.apex_moments.proofs.Places.{length_of}
use Rattle.apex_drawing.specs.Pages.{pending}
use Rattle.apex_drawing.specs.Pictures.{column_text}
use Rattle.apex_drawing.specs.Styles.{Follows}
use Rattle.apex_drawing.proofs.Drawn.{one_column}
use Rattle.apex_drawing.proofs.Coursed.{goes_once, last_holds, next, sound_replay, time_within}
use Rattle.apex_history.proofs.EntriesOf.{last_put}
use Rattle.apex_drawing.proofs.Followed.{follow_fits, follow_many}
use Rattle.apex_drawing.proofs.drawing.draw_event.Goals as goal

pub next-course-requires : goal.next-course-requires
next-course-requires g c =
    let (machine, at) = c.requires.at in
    let few = place_within machine.history in
    let sound = sound_replay c.args.table.now c.lawful.ensures machine at.replays in
    omega (arith, rw (← at.instant) at few, sound.within, c.lawful.ensures.limit)

pub add_column-requires-clause-records : goal.add_column-requires-clause-records
add_column-requires-clause-records g c =
    let (machine, at) = c.requires.at in
    let once = goes_once c.args.table.now c.lawful.ensures machine at.replays
    (omega (arith, at.entries, c.if-course-limit.false, c.limit.ensures.value)) _ at.situation at.goes_on in
    (c.make-deed.ensures.goes_on 0 once).records

pub add_column-requires-clause-many : goal.add_column-requires-clause-many
add_column-requires-clause-many g c =
    let (machine, at) = c.requires.at in
    let sound = sound_replay c.args.table.now c.lawful.ensures machine at.replays in
    follow_many c.args.style.now c.args.course.now.shown (moment_in c.args.table.now machine) _ at.shown
    (length_of (cell_of machine.roster) (length machine.roster.records) ∙ sound.orderly.many)

pub add_column-requires-clause-fits : goal.add_column-requires-clause-fits
add_column-requires-clause-fits g c =
    let (machine, at) = c.requires.at in
    let table = c.args.table.now in
    follow_fits c.args.style.now c.args.course.now.shown (moment_in table machine) table at.shown
    (counted_all table machine.roster (objects_after table machine.history)) (length_of (chosen machine.roster) MOST_CORES)

pub add_column-requires-clause-times : goal.add_column-requires-clause-times
add_column-requires-clause-times g c =
    let (machine, at) = c.requires.at in
    let table = c.args.table.now in
    let timed = timed_machine table machine at.replays in
    let once = goes_once table c.lawful.ensures machine at.replays
    (omega (arith, at.entries, c.if-course-limit.false, c.limit.ensures.value)) _ at.situation at.goes_on in
    let ticks = (c.make-deed.ensures.goes_on 0 once).ticks in (
      omega (arith, ap (λ (i : Instant). i.now) at.instant ∙ timed, time_within table c.lawful.ensures machine at.replays at.events),
      omega (arith, ap (λ (i : Instant). i.now) c.next-course.ensures ∙ next_now c.args.course.now.instant c.now-now.result, c.now-now.ensures, ticks),
    )

pub add_column-requires-clause-printable : goal.add_column-requires-clause-printable
add_column-requires-clause-printable g c =
    let (machine, at) = c.requires.at in
    let table = c.args.table.now in
    let after = next table c.lawful.ensures machine at.replays
    (omega (arith, at.entries, c.if-course-limit.false, c.limit.ensures.value)) _ at.situation at.goes_on
    c.args.event c.requires.within at.events (situation_in c.make-deed.new.situation) c.make-deed.ensures.situation
    c.make-deed.ensures.goes_on c.make-deed.ensures.answer in
    last_holds (IsPrintable table) machine.history _ (subst (All (IsPrintable table)) after.history after.sound.known)

pub returns-clause-at : goal.returns-clause-at
returns-clause-at g c = λ machine at.
    let table = c.args.table.now in
    let event = c.args.event in
    let room : length machine.history < table.limit = omega (arith, at.entries, c.if-course-limit.false, c.limit.ensures.value) in
    let after = next table c.lawful.ensures machine at.replays room _ at.situation at.goes_on
    event c.requires.within at.events (situation_in c.make-deed.new.situation) c.make-deed.ensures.situation
    c.make-deed.ensures.goes_on c.make-deed.ensures.answer in
    let is = accept-room table machine event room in
    let now = c.now-now.ensures ∙ ap (λ (s : Situation). s.roster.now) after.situation ∙ sym (ap (λ (m : Machine). m.roster.now) is) in
    let instant = c.next-course.ensures ∙ rw (at.instant, now) refl ∙ sym (instant_more table machine (accept table machine event) event room refl) in
    on_ok_weaker c.add_column.result
    (λ shown. rw is (record {
      situation = after.situation;
      goes_on = after.goes_on;
      entries = omega (arith, at.entries, length-happen table machine event);
      instant = instant ∙ ap (λ (m : Machine). instant_after m.history) is;
      shown = subst (λ (s : Situation). Follows c.args.style.now c.add_column.new.shown (moment_at table s)) after.situation shown;
      events = after.events;
      replays = after.sound.replays;
    }))
    c.add_column.ensures.shown

pub returns-clause-drawn : goal.returns-clause-drawn
returns-clause-drawn g c = λ machine at.
    let style = c.args.style.now in
    let table = c.args.table.now in
    let event = c.args.event in
    let room : length machine.history < table.limit = omega (arith, at.entries, c.if-course-limit.false, c.limit.ensures.value) in
    let after = next table c.lawful.ensures machine at.replays room _ at.situation at.goes_on
    event c.requires.within at.events (situation_in c.make-deed.new.situation) c.make-deed.ensures.situation
    c.make-deed.ensures.goes_on c.make-deed.ensures.answer in
    let is = accept-room table machine event room in
    let now = c.now-now.ensures ∙ ap (λ (s : Situation). s.roster.now) after.situation ∙ sym (ap (λ (m : Machine). m.roster.now) is) in
    let instant = c.next-course.ensures ∙ rw (at.instant, now) refl ∙ sym (instant_more table machine (accept table machine event) event room refl) in
    let situation = after.situation ∙ sym (ap (situation_of table) is) in
    let latest = ap (λ (m : Machine). last_or None m.history) is ∙ ap (last_or None) after.history ∙ last_put None machine.history _ in
    let more = column_more table machine (pictured_machine table machine at.replays) event (accept table machine event) _ room refl latest in
    on_ok_weaker c.add_column.result
    (λ put. one_column style table machine (accept table machine event) _ (pending c.args.page.now) (pending c.add_column.new.page) more
    (rw (at.entries, c.now-now.ensures, c.maker-who.ensures, c.as_slice.ensures.value, instant, at.instant) at
    (subst (λ (s : Situation). (pending c.add_column.new.page) ≡ (pending c.args.page.now) ++ column_text style table (record {
      begun = c.args.course.now.instant;
      instant = c.next-course.result;
      before = moment_in table machine;
      entry = record {
        number = c.args.course.now.entries + 1;
        now = c.now-now.result;
        who = c.maker-who.result;
        process = c.make-deed.result.caller;
        call = c.make-deed.result.call;
        reply = c.make-deed.result.reply;
        notices = c.as_slice.result.now;
      };
      after = moment_at table s;
    })) situation put)))
    (c.add_column.ensures.drawn (moment_in table machine) at.shown)
