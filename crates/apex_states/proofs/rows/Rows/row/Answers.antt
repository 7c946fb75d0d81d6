use Rattle.std.proofs.Common.{rules, ◌≡◌, ℕ, ◌+◌, ◌-◌, ◌*◌, ◌<◌, ◌≤◌, length, take, drop, length-drop, Some, ap, ◌∙◌, sym, arith}
use Rattle.std.proofs.lemmas.List.{length-take-le}
use Rattle.apex_states.proofs.Packing.{rows_in-length, rows_in-get, row_within}
use Rattle.apex_states.proofs.rows.Rows.row.Goals as goal

pub overflow_mul-start : goal.overflow_mul-start
overflow_mul-start c =
    let below : c.args.place < c.self.inside.count = rw (← c.self.view_is, rows_in-length) at c.requires in
    omega (arith, row_within c.self.inside.width c.self.inside.count c.args.place below, c.self.invariant.whole)

pub overflow_add-result : goal.overflow_add-result
overflow_add-result c =
    let below : c.args.place < c.self.inside.count = rw (← c.self.view_is, rows_in-length) at c.requires in
    omega (arith, row_within c.self.inside.width c.self.inside.count c.args.place below, c.self.invariant.whole)

pub offset_bounds-as_slice-start : goal.offset_bounds-as_slice-start
offset_bounds-as_slice-start c =
    let below : c.args.place < c.self.inside.count = rw (← c.self.view_is, rows_in-length) at c.requires in
    omega (arith, row_within c.self.inside.width c.self.inside.count c.args.place below, c.self.invariant.whole)

pub slice_bounds-result-end : goal.slice_bounds-result-end
slice_bounds-result-end c =
    let below : c.args.place < c.self.inside.count = rw (← c.self.view_is, rows_in-length) at c.requires in
    let within : c.args.place * c.self.inside.width + c.self.inside.width ≤ length c.as_slice.result.now =
    omega (arith, row_within c.self.inside.width c.self.inside.count c.args.place below, c.self.invariant.whole, c.as_slice.ensures.len) in
    search rules

pub returns-clause-row : goal.returns-clause-row
returns-clause-row c =
    let below : c.args.place < c.self.inside.count = rw (← c.self.view_is, rows_in-length) at c.requires in
    let start : ℕ = c.args.place * c.self.inside.width in
    let long : start + c.self.inside.width - start ≡ c.self.inside.width = omega arith in
    rw (← c.self.view_is, c.as_slice.ensures.value)
    (rows_in-get c.self.inside.width c.self.inside.count c.self.inside.words.items c.args.place below
    ∙ ap (λ n. Some (take n (drop start c.self.inside.words.items))) (sym long))

pub returns-clause-width : goal.returns-clause-width
returns-clause-width c =
    let below : c.args.place < c.self.inside.count = rw (← c.self.view_is, rows_in-length) at c.requires in
    let start : ℕ = c.args.place * c.self.inside.width in
    let within : start + c.self.inside.width ≤ length c.self.inside.words.items =
    omega (arith, row_within c.self.inside.width c.self.inside.count c.args.place below, c.self.invariant.whole) in
    rw (← c.self.view_is, c.as_slice.ensures.value)
    (length-take-le (start + c.self.inside.width - start) (drop start c.self.inside.words.items) (omega (arith, length-drop start c.self.inside.words.items))
    ∙ omega arith)
