use Rattle.std.proofs.Common.{[], refl}
use Rattle.std.proofs.lemmas.Result.{err_from_is_err_and}
use Rattle.std.specs.Io.KnownBytes.{prepend_known}
use Rattle.apex_history.specs.Counted.{inner_of, failures_of}
use Rattle.apex_history.specs.Ports.{ports}
use Rattle.apex_incoming.specs.Ahead.{IsAhead}
use Rattle.apex_steps.specs.Conversations.{Hears}
use Rattle.apex_steps.specs.declared.faults.StepFault.TheVariants.{Memory}
use Rattle.apex_steps.proofs.Talks.{cut_before, cut_within, ends_here, ends_with, goes_on, talks_none}
use Rattle.apex_steps.proofs.conversations.converse.Goals as goal

pub returns-in_err-desk : goal.returns-in_err-desk
returns-in_err-desk g c =
    let p = err_from_is_err_and c.from_residual.result c.from_residual.ensures.1 in
    let start = ports (prepend_known c.args.pending.now (g.R.Source.remaining (inner_of c.args.reader.now))) (g.W.Sink.contents (inner_of c.args.writer.now))
    (failures_of c.args.reader.now) (failures_of c.args.writer.now) in
    rw (p.1, p.2) (cut_before c.args.form c.args.session c.args.session start start start (talks_none c.args.form c.args.session start) Memory refl refl refl)

pub loop-desk-init : goal.loop-desk-init
loop-desk-init g c =
    let start = ports (prepend_known c.args.pending.now (g.R.Source.remaining (inner_of c.args.reader.now))) (g.W.Sink.contents (inner_of c.args.writer.now))
    (failures_of c.args.reader.now) (failures_of c.args.writer.now) in
    record { talked = talks_none c.args.form c.args.session start; empty = c.in_ok-desk.ensures }

pub returns-in_err-heard : goal.returns-in_err-heard
returns-in_err-heard g c =
    let p = err_from_is_err_and c.from_residual-in_err-heard.result c.from_residual-in_err-heard.ensures.1 in
    let after = ports (prepend_known c.hear.new.pending (g.R.Source.remaining (inner_of c.hear.new.reader))) (g.W.Sink.contents (inner_of c.loop-desk.writer))
    (failures_of c.hear.new.reader) (failures_of c.loop-desk.writer) in
    rw (p.1, p.2) (cut_before c.args.form c.args.session c.loop-desk.session _ _ after c.loop-desk.invariant.talked c.in_err-heard.field-0.0
    c.in_err-heard.ensures.counted refl refl)

pub returns-in_default : goal.returns-in_default
returns-in_default g c =
    let before = prepend_known c.loop-desk.pending (g.R.Source.remaining (inner_of c.loop-desk.reader)) in
    let after = ports (prepend_known c.hear.new.pending (g.R.Source.remaining (inner_of c.hear.new.reader))) (g.W.Sink.contents (inner_of c.loop-desk.writer))
    (failures_of c.hear.new.reader) (failures_of c.loop-desk.writer) in
    let ahead : IsAhead [] before = rw c.in_default.is at c.in_ok-heard.ensures.ok in
    ends_here c.args.form c.args.session c.loop-desk.session _ _ after c.loop-desk.invariant.talked ahead refl (c.in_ok-heard.ensures.counted, refl)

pub returns-in_err-say : goal.returns-in_err-say
returns-in_err-say g c =
    let p = err_from_is_err_and c.from_residual-in_err-say.result c.from_residual-in_err-say.ensures.1 in
    let before = prepend_known c.loop-desk.pending (g.R.Source.remaining (inner_of c.loop-desk.reader)) in
    let left = prepend_known c.hear.new.pending (g.R.Source.remaining (inner_of c.hear.new.reader)) in
    let after = ports left (g.W.Sink.contents (inner_of c.say.new.writer)) (failures_of c.hear.new.reader) (failures_of c.say.new.writer) in
    let hears : Hears c.loop-desk.session before left c.in-Some.answered = rw c.in-Some.is at c.in_ok-heard.ensures.ok in
    rw (p.1, p.2) (cut_within c.args.form c.args.session c.loop-desk.session _ _ after c.loop-desk.invariant.talked c.in-Some.answered hears
    c.in_err-say.ensures.err c.in_ok-heard.ensures.counted c.in_err-say.ensures.counted)

pub returns-then-answered : goal.returns-then-answered
returns-then-answered g c =
    let before = prepend_known c.loop-desk.pending (g.R.Source.remaining (inner_of c.loop-desk.reader)) in
    let left = prepend_known c.hear.new.pending (g.R.Source.remaining (inner_of c.hear.new.reader)) in
    let after = ports left (g.W.Sink.contents (inner_of c.say.new.writer)) (failures_of c.hear.new.reader) (failures_of c.say.new.writer) in
    let hears : Hears c.loop-desk.session before left c.in-Some.answered = rw c.in-Some.is at c.in_ok-heard.ensures.ok in
    ends_with c.args.form c.args.session c.loop-desk.session _ _ after c.loop-desk.invariant.talked c.in-Some.answered hears c.if-answered.true
    c.in_ok-say.ensures.ok (c.in_ok-heard.ensures.counted, c.in_ok-say.ensures.counted)

pub loop-desk-preserved : goal.loop-desk-preserved
loop-desk-preserved g c =
    let before = prepend_known c.loop-desk.pending (g.R.Source.remaining (inner_of c.loop-desk.reader)) in
    let left = prepend_known c.hear.new.pending (g.R.Source.remaining (inner_of c.hear.new.reader)) in
    let after = ports left (g.W.Sink.contents (inner_of c.say.new.writer)) (failures_of c.hear.new.reader) (failures_of c.say.new.writer) in
    let hears : Hears c.loop-desk.session before left c.in-Some.answered = rw c.in-Some.is at c.in_ok-heard.ensures.ok in
    record {
      talked = goes_on c.args.form c.args.session c.loop-desk.session _ _ after c.loop-desk.invariant.talked c.in-Some.answered hears c.if-answered.false
          c.in_ok-say.ensures.ok (c.in_ok-heard.ensures.counted, c.in_ok-say.ensures.counted);
      empty = c.in_ok-say.ensures.empty;
    }
