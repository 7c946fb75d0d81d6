-- The writer has a prefix of the picture at any time.
use Rattle.std.proofs.Common.{◌≡◌, ◌∙◌, [], ◌+◌, ap, arith, drop, refl}
use Rattle.std.proofs.lemmas.Result.{on_err_weaker, on_ok_weaker}
use Rattle.apex_machine.specs.Machine.{opening, run}
use Rattle.std.proofs.lemmas.List.Elements.{All-nil}
use Rattle.apex_dispatch.specs.Kernel.{room_of}
use Rattle.apex_machine.specs.Events.{IsWithin}
use Rattle.apex_machine.specs.Situations.{Situation}
use Rattle.apex_history.proofs.Outcomes.{OnErr-always}
use Rattle.apex_history.proofs.Passing.{beginning_after, passes_all, passes_then}
use Rattle.apex_moments.specs.Moments.{moment_at}
use Rattle.apex_drawing.specs.Pages.{pending}
use Rattle.apex_drawing.specs.Pictures.{foot_text, picture_text}
use Rattle.apex_traces.specs.Tracks.{bare}
use Rattle.apex_drawing.proofs.Coursed.{drawn_next}
use Rattle.apex_drawing.proofs.Drawn.{beginning_of_picture, begun, passes_foot, unwritten}
use Rattle.apex_moments.proofs.Pictured.{pictured_opening}
use Rattle.apex_drawing.proofs.Followed.{follows}
use Rattle.apex_moments.proofs.EventsOf.{run_ended}
use Rattle.apex_drawing.proofs.drawing.draw.Goals as goal

pub put_head-requires : goal.put_head-requires
put_head-requires g c =
    c.tracks_in-shown.ensures ∙ ap (λ (s : Situation). bare (moment_at c.args.table.now s)) c.requires.opened

pub draw_event-requires-clause-at : goal.draw_event-requires-clause-at
draw_event-requires-clause-at g c = let drawn = c.loop-event.invariant.drawn in (drawn.machine, drawn.at)

pub draw_event-requires-clause-room : goal.draw_event-requires-clause-room
draw_event-requires-clause-room g c = c.loop-event.invariant.room

pub add_foot-requires : goal.add_foot-requires
add_foot-requires g c = let drawn = c.loop-event.invariant.drawn in (drawn.machine, drawn.at)

pub loop-event-init : goal.loop-event-init
loop-event-init g c =
    let style = c.args.style.now in
    let table = c.args.table.now in
    record {
      drawn = record {
        machine = opening table;
        at = record {
          situation = c.requires.opened;
          goes_on = c.requires.goes_on (room_of table []) (omega (arith, c.lawful.ensures.limit));
          entries = refl;
          instant = c.opening.ensures;
          shown = follows style _ _ (c.tracks_in-shown.ensures ∙ ap (λ (s : Situation). bare (moment_at table s)) c.requires.opened);
          events = All-nil (IsWithin table.cores);
          replays = refl;
        };
        rest = refl;
        pictured = pictured_opening table;
        text = begun _ style table (opening table) _ refl (c.new-page.ensures.text ∙ rw c.new-text.ensures.items at c.in-Ok.ensures);
      };
      room = c.new-page.ensures.room;
      failures = refl;
    }

pub returns-in_default-draw_event-clause-err : goal.returns-in_default-draw_event-clause-err
returns-in_default-draw_event-clause-err g c =
    let drawn = c.loop-event.invariant.drawn in
    beginning_of_picture _ _ c.args.style.now c.args.table.now drawn.machine _
    (drop c.loop-event.event-index c.args.events.now) drawn.pictured drawn.rest (unwritten _ _ _ _ drawn.text)

pub returns-in_default-add_foot-clause-err : goal.returns-in_default-add_foot-clause-err
returns-in_default-add_foot-clause-err g c =
    let drawn = c.loop-event.invariant.drawn in
    beginning_of_picture _ _ c.args.style.now c.args.table.now drawn.machine _
    (drop c.loop-event.event-index c.args.events.now) drawn.pictured drawn.rest (unwritten _ _ _ _ drawn.text)

pub returns-in_err-make_room-clause-err : goal.returns-in_err-make_room-clause-err
returns-in_err-make_room-clause-err g c =
    let at = c.in-Ok-draw_event.ensures in
    let next = drawn_next c.loop-event.event-index c.event-item.result c.loop-event.invariant.drawn (omega arith) c.event-item.is
    c.draw_event.new.course (pending c.draw_event.new.page) at.at at.drawn in
    OnErr-always c.from_residual.result
    (beginning_of_picture _ _ c.args.style.now c.args.table.now next.machine _ (drop (c.loop-event.event-index + 1) c.args.events.now)
    next.pictured next.rest (beginning_after _ _ _ _ _ next.text c.in_err-make_room.ensures.err))

pub loop-event-preserved : goal.loop-event-preserved
loop-event-preserved g c =
    let at = c.in-Ok-draw_event.ensures in
    let next = drawn_next c.loop-event.event-index c.event-item.result c.loop-event.invariant.drawn (omega arith) c.event-item.is
    c.draw_event.new.course (pending c.draw_event.new.page) at.at at.drawn in
    record {
      drawn = record {
        machine = next.machine;
        at = next.at;
        rest = next.rest;
        pictured = next.pictured;
        text = passes_then _ _ _ _ _ _ next.text c.in_ok-make_room.ensures.ok;
      };
      room = c.in_ok-make_room.ensures.room;
      failures = c.in_ok-make_room.ensures.counted ∙ c.loop-event.invariant.failures;
    }

pub returns-clause-ok : goal.returns-clause-ok
returns-clause-ok g c =
    let drawn = c.loop-event.invariant.drawn in
    let style = c.args.style.now in
    let table = c.args.table.now in
    let machine = drawn.machine in
    let end = run table (opening table) c.args.events.now in
    let ended : machine ≡ end = run_ended table machine c.args.events.now c.loop-event.event-index end c.loop-event-test.false drawn.rest in
    let stands = c.in-Ok-add_foot.ensures machine drawn.at in
    let passes = passes_foot _ _ style table machine (pending c.loop-event.page) (foot_text style table machine) _ drawn.text refl stands in
    on_ok_weaker c.hand_on.result
    (λ done. rw (← ended) (passes_all _ _ _ (picture_text style table machine) _ passes done))
    c.hand_on.ensures.ok

pub returns-clause-err : goal.returns-clause-err
returns-clause-err g c =
    let drawn = c.loop-event.invariant.drawn in
    let style = c.args.style.now in
    let table = c.args.table.now in
    let machine = drawn.machine in
    let end = run table (opening table) c.args.events.now in
    let ended : machine ≡ end = run_ended table machine c.args.events.now c.loop-event.event-index end c.loop-event-test.false drawn.rest in
    let stands = c.in-Ok-add_foot.ensures machine drawn.at in
    let passes = passes_foot _ _ style table machine (pending c.loop-event.page) (foot_text style table machine) _ drawn.text refl stands in
    on_err_weaker c.hand_on.result
    (λ begun. rw (← ended) (beginning_after _ _ _ (picture_text style table machine) _ passes begun))
    c.hand_on.ensures.err
