-- What the trace shows gives the text of its end.
use Rattle.std.proofs.Common.{◌≡◌, ◌∙◌, ◌++◌, ap, arith}
use Rattle.std.proofs.lemmas.Result.{on_ok_weaker}
use Rattle.apex_machine.specs.Situations.{Situation}
use Rattle.apex_moments.specs.Moments.{moment_in}
use Rattle.apex_drawing.specs.Pictures.{end_time}
use Rattle.apex_traces.specs.Tracks.{bare}
use Rattle.apex_moments.proofs.NextInstants.{place_within}
use Rattle.apex_traces.proofs.TracksShown.{foot_same}
use Rattle.apex_drawing.proofs.Coursed.{sound_replay}
use Rattle.apex_drawing.proofs.drawing.put_foot.Goals as goal

pub next-end-requires : goal.next-end-requires
next-end-requires g c =
    let (machine, at) = c.requires in
    let few = place_within machine.history in
    let sound = sound_replay c.args.table.now c.lawful.ensures machine at.replays in
    omega (arith, rw (← at.instant) at few, sound.within, c.lawful.ensures.limit)

pub returns-in-Trace : goal.returns-in-Trace
returns-in-Trace g c = λ machine at.
    let table = c.args.table.now in
    let now = c.now.ensures ∙ ap (λ (s : Situation). s.roster.now) at.situation in
    let is : c.args.course.now.shown ≡ bare (moment_in table machine) = rw c.in-Trace.is at at.shown in
    rw c.in-Trace.is (on_ok_weaker c.put_foot-in-Trace.result
    (λ put. (rw (c.time.ensures, c.next-end.ensures, at.instant, now, is) at put)
    ∙ ap (λ l. c.args.text.now.items ++ l) (foot_same table (end_time c.in-Trace.tick machine) (moment_in table machine)))
    c.put_foot-in-Trace.ensures)
