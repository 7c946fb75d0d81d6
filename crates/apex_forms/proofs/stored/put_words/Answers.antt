use Rattle.std.proofs.Common.{◌∙◌, ap, length, subst, sym, List, ℕ, arith}
use Rattle.apex_forms.proofs.Forming.{length-canonical}
use Rattle.apex_forms.proofs.Lengths.{length-words, sum-words, words_put}
use Rattle.apex_choices.specs.Counts.{paced_in}
use Rattle.apex_forms.specs.Forms.{canonical_paced}
use Rattle.apex_forms.specs.Parts.{IsPut}
use Rattle.apex_forms.proofs.stored.put_words.Goals as goal

pub put_cores-at-requires : goal.put_cores-at-requires
put_cores-at-requires c =
    let head = ap length (c.head_words.ensures c.args.pace) in
    let sum = sum-words c.args.table.now (canonical_paced c.args.pace (paced_in c.args.paced.now)) c.requires.fits in
    omega arith

pub put_processes-at-requires-clause-many : goal.put_processes-at-requires-clause-many
put_processes-at-requires-clause-many c =
    let fits = c.requires.fits in
    fits.objects.processes ∙ sym fits.many ∙ length-canonical (paced_in c.args.paced.now).situation.roster

pub put_processes-at-requires-clause-room : goal.put_processes-at-requires-clause-room
put_processes-at-requires-clause-room c =
    let head = ap length (c.head_words.ensures c.args.pace) in
    let sum = sum-words c.args.table.now (canonical_paced c.args.pace (paced_in c.args.paced.now)) c.requires.fits in
    omega arith

pub put_objects-requires : goal.put_objects-requires
put_objects-requires c =
    let head = ap length (c.head_words.ensures c.args.pace) in
    let sum = sum-words c.args.table.now (canonical_paced c.args.pace (paced_in c.args.paced.now)) c.requires.fits in
    omega arith

pub returns : goal.returns
returns c =
    let table = c.args.table.now in
    let s = canonical_paced c.args.pace (paced_in c.args.paced.now) in
    let objects = c.put_objects.ensures in
    words_put table s c.args.words.now c.put-at.new.words c.put_cores-at.new.words
    c.put_processes-at.new.words objects.between c.put_objects.new.words c.put-at.result
    c.put_cores-at.result c.put_processes-at.result objects.mid objects.end
    (length-words table s c.requires.fits ∙ sym c.requires.room)
    (subst (λ (head : List ℕ). IsPut head 0 c.args.words.now c.put-at.result c.put-at.new.words)
    (c.head_words.ensures c.args.pace) c.put-at.ensures)
    c.put_cores-at.ensures c.put_processes-at.ensures objects.first objects.second
