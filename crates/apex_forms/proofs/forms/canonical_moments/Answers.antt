use Rattle.std.proofs.Common.{◌≡◌, ◌+◌, ◌*◌, ◌∙◌, ℤ, length, pos, ap, sym, rules, arith}
use Rattle.std.proofs.lemmas.Int.{to_z-of_z}
use mir.Syntax.{w64}
use mir.Val.{SFits, of_z, to_z}
use Rattle.apex_alike.proofs.Canonical.{oldest_less}
use Rattle.apex_alike.specs.Canonical.{rank}
use Rattle.apex_forms.specs.Forms.{moments_of, with_moments}
use Rattle.apex_forms.specs.Terms.{Record}
use Rattle.apex_forms.proofs.Forming.{oldest_least, stamp_is}
use Rattle.apex_forms.proofs.forms.canonical_moments.Goals as goal

pub moments_of-requires-clause-release : goal.moments_of-requires-clause-release
moments_of-requires-clause-release c = rw c.requires.fields (c.requires.fit.before c.args.place)

pub moments_of-requires-clause-age : goal.moments_of-requires-clause-age
moments_of-requires-clause-age c =
    let store = c.args.store.now in
    rw (c.requires.fields, c.requires.now) (oldest_least store.now store.records c.args.place c.requires.known)

pub moments_of-requires-clause-now : goal.moments_of-requires-clause-now
moments_of-requires-clause-now c =
    omega (arith, c.requires.now, oldest_less c.args.store.now.now c.args.store.now.records c.requires.fit.spans)

pub returns : goal.returns
returns c =
    let store = c.args.store.now in
    let fields = c.args.fields.now in
    let since = c.stamp-since.result in
    let fits : SFits w64 c.stamp-since.result = search rules in
    let stamp : to_z w64 (of_z w64 since) ≡ pos (1 + (rank store fields * length store.records + c.args.place)) =
    to_z-of_z w64 since fits
    ∙ stamp_is store c.args.ranks.now c.args.place c.process_count-count.result since
    c.requires.ranks c.requires.known c.process_count-count.ensures.value c.stamp-since.ensures
    ∙ ap (λ (r : Record). pos (1 + (rank store r * length store.records + c.args.place))) (sym c.requires.fields) in
    ap (with_moments fields)
    (c.moments_of.ensures ∙ ap (λ (z : ℤ). moments_of store z c.args.now fields) stamp)
