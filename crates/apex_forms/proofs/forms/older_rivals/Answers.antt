use Rattle.std.proofs.Common.{◌≡◌, ◌+◌, ◌<◌, ◌≤◌, ◌∙◌, ap, length, slice_index_or, sym, refl, arith}
use Rattle.apex_machine.specs.processes.Roster.{record_at}
use Rattle.std.proofs.lemmas.Grind.{common_steps}
use Rattle.apex_forms.proofs.Ranking.{alone_at, counted_alone, none_older, older_few, ranking_ends, step_apart, step_level, step_older, step_younger, vie_at, vies_as}
use Rattle.apex_types.specs.declared.limits.TheConstants.{MOST_PROCESSES}
use Rattle.apex_forms.proofs.forms.older_rivals.Goals as goal
use Rattle.apex_forms.proofs.forms.older_rivals.Goals.{then-vie+then-is_older, then-vie+else-is_older+then-is_older-2, then-vie+else-is_older+else-is_older-2, else-vie}

pub overflow_add-ranks : goal.overflow_add-ranks
overflow_add-ranks c =
    let store = c.args.store.now in
    let place = c.args.place in
    let other = c.loop-other.other in
    omega (
      arith,
      c.loop-other.invariant.1.left other (omega arith) c.loop-other-test.true,
      c.requires.known,
      c.requires.few,
      older_few store other place (omega (arith, c.requires.known)),
    )

pub returns-then-is_alone-clause-value : goal.returns-then-is_alone-clause-value
returns-then-is_alone-clause-value c =
    let store = c.args.store.now in
    let place = c.args.place in
    let one = slice_index_or c.args.contests.now place c.index-contests-place.result in
    let is = c.requires.contests.each place c.index-contests-place.result c.requires.known in
    sym (none_older store place place (omega (arith, c.requires.known))
    (λ q. alone_at store place q one is (c.is_alone.ensures c.if-is_alone.true)))

pub returns-then-is_alone-clause-ranks : goal.returns-then-is_alone-clause-ranks
returns-then-is_alone-clause-ranks c =
    let store = c.args.store.now in
    let place = c.args.place in
    let one = slice_index_or c.args.contests.now place c.index-contests-place.result in
    let is = c.requires.contests.each place c.index-contests-place.result c.requires.known in
    counted_alone store c.args.ranks.now place c.requires.ranks c.requires.known
    (λ q. alone_at store place q one is (c.is_alone.ensures c.if-is_alone.true))

pub loop-other-preserved : goal.loop-other-preserved
loop-other-preserved c =
    let store = c.args.store.now in
    let list = c.args.contests.now in
    let place = c.args.place in
    let other = c.loop-other.other in
    let ranks = c.loop-other.ranks in
    let older = c.loop-other.older in
    let known = c.requires.known in
    let before = c.loop-other-test.true in
    let few : place ≤ MOST_PROCESSES = omega (arith, known, c.requires.few) in
    let far : other < length store.records = omega (arith, known, before) in
    let fields = c.record-fields.result.now in
    let is_fields : fields ≡ record_at store place = c.record-fields.ensures ∙ ap (record_at store) c.at.ensures in
    let vies : vie_at store place other ≡ c.vie.result =
    vies_as store place other (slice_index_or list place c.index-contests-place.result) (slice_index_or list other c.index-contests-other.result)
    c.vie.result (c.requires.contests.each place c.index-contests-place.result known)
    (c.requires.contests.each other c.index-contests-other.result far) c.vie.ensures in
    elim c.if-vie.branch [
      | then-vie+then-is_older w ↦
          rw (w.older-is, w.ranks-is)
          (step_older store place other older fields w.record-others.result.now ranks known before c.loop-other.invariant
          (vies ∙ w.if-vie.true) is_fields (w.record-others.ensures ∙ ap (record_at store) w.at-then-vie.ensures)
          (sym w.is_older.ensures ∙ w.if-is_older.true))
      | then-vie+else-is_older+then-is_older-2 w ↦
          rw (w.older-is, w.ranks-is)
          (step_younger store place other older fields w.record-others.result.now ranks (slice_index_or ranks other 0 + 1) known before few
          c.loop-other.invariant (vies ∙ w.if-vie.true) is_fields (w.record-others.ensures ∙ ap (record_at store) w.at-then-vie.ensures)
          (sym w.is_older-else-is_older.ensures ∙ w.if-is_older-2.true) refl)
      | then-vie+else-is_older+else-is_older-2 w ↦
          rw (w.older-is, w.ranks-is)
          (step_level store place other older fields w.record-others.result.now ranks known before c.loop-other.invariant
          (vies ∙ w.if-vie.true) is_fields (w.record-others.ensures ∙ ap (record_at store) w.at-then-vie.ensures)
          (sym w.is_older.ensures ∙ w.if-is_older.false) (sym w.is_older-else-is_older.ensures ∙ w.if-is_older-2.false))
      | else-vie w ↦
          rw (w.older-is, w.ranks-is)
          (step_apart store place other older ranks known before c.loop-other.invariant (vies ∙ w.if-vie.false))
    ]

pub returns-clause-ranks : goal.returns-clause-ranks
returns-clause-ranks c =
    ranking_ends c.args.store.now c.loop-other.ranks c.args.place c.loop-other.other c.loop-other.invariant.1 c.loop-other-test.false

pub overflow_add-older : goal.overflow_add-older
overflow_add-older c = grind (arith, common_steps)
