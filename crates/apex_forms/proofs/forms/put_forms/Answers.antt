use Rattle.std.proofs.Common.{◌<◌, ◌∙◌, length, rules, arith}
use Rattle.std.proofs.lemmas.Int.{to_z-of_z}
use mir.Syntax.{w64}
use mir.Val.{SFits, of_z, to_z}
use Rattle.apex_forms.proofs.Forming.{forming_age, forming_as, forming_ends, forming_now, stamp_is}
use Rattle.apex_forms.proofs.forms.put_forms.Goals as goal

pub put_form-requires-clause-age : goal.put_form-requires-clause-age
put_form-requires-clause-age c =
    let within : c.loop-place.place < length c.args.store.now.records =
    omega (arith, c.loop-place-test.true, c.process_count-count.ensures.value) in
    forming_age c.args.store.now c.loop-place.store c.args.now c.loop-place.place c.at.result c.loop-place.invariant within
    c.at.ensures c.requires.now

pub put_form-requires-clause-now : goal.put_form-requires-clause-now
put_form-requires-clause-now c =
    forming_now c.args.store.now c.loop-place.store c.args.now c.loop-place.place c.loop-place.invariant c.requires.fit
    c.requires.now

pub loop-place-preserved : goal.loop-place-preserved
loop-place-preserved c =
    let within : c.loop-place.place < length c.args.store.now.records =
    omega (arith, c.loop-place-test.true, c.process_count-count.ensures.value) in
    let since = c.stamp-since.result in
    let fits : SFits w64 c.stamp-since.result = search rules in
    forming_as c.args.store.now c.loop-place.store c.args.now c.loop-place.place c.loop-place.invariant within
    c.put_form.new.store c.at.result (to_z w64 (of_z w64 since)) c.put_form.ensures c.at.ensures
    (to_z-of_z w64 since fits
    ∙ stamp_is c.args.store.now c.args.ranks.now c.loop-place.place c.process_count-count.result since
    c.requires.ranks within c.process_count-count.ensures.value c.stamp-since.ensures)

pub returns : goal.returns
returns c =
    forming_ends c.args.store.now c.loop-place.store c.args.now c.loop-place.place c.loop-place.invariant
    (omega (arith, c.loop-place-test.false, c.process_count-count.ensures.value))
