use Rattle.std.proofs.Common.{◌∙◌, rules}
use Rattle.std.proofs.lemmas.Int.{to_z-of_z}
use mir.Syntax.{w64}
use mir.Val.{SFits, of_z, to_z}
use Rattle.apex_forms.proofs.Forming.{canonical_made}
use Rattle.apex_forms.proofs.forms.make_canonical.Goals as goal

pub returns : goal.returns
returns c =
    let young = c.next_stamp-young.result in
    let fits : SFits w64 c.next_stamp-young.result = search rules in
    c.set_clock.ensures
    ∙ canonical_made c.args.store.now c.put_forms.new.store c.mode.result c.oldest_age-now.result c.process_count.result
    (to_z w64 (of_z w64 young)) c.put_forms.ensures c.oldest_age-now.ensures.value c.mode.ensures c.process_count.ensures.value
    (to_z-of_z w64 young fits ∙ c.next_stamp-young.ensures)
