use Rattle.std.proofs.Common.{◌≡◌, ◌∙◌, ℕ, ◌+◌, List, ◌++◌, ap, sym, subst, rules, length, take, drop, arith, take-append-drop}
use Rattle.std.specs.Prelude.{◌≢◌}
use Rattle.std.specs.Io.KnownBytes.{Consumes, prepend_known}
use Rattle.apex_history.specs.Counted.{inner_of}
use Rattle.apex_incoming.specs.Ahead.{IsFirstLine}
use Rattle.apex_check.specs.declared.tables.LeadingFault.TheVariants.{NoSeparator}
use Rattle.apex_check.specs.Texts.{IsTableText, separator}
use Rattle.apex_incoming.specs.Lines.{ended}
use Rattle.apex_check.specs.Leading.{LacksTable, without_separator}
use Rattle.apex_incoming.proofs.Coming.{none_left, or_nothing, taken_more, text_ahead}
use Rattle.std.proofs.lemmas.Grind.{common_steps}
use Rattle.apex_check.proofs.Separated.{from_place, last_piece, line_more, none_behind, none_separates}
use Rattle.apex_check.proofs.tables.table_text.Goals as goal

pub returns-in-Rest-clause-err : goal.returns-in-Rest-clause-err
returns-in-Rest-clause-err g c =
    let old = prepend_known c.args.pending.now (g.R.Source.remaining (inner_of c.args.reader.now)) in
    let before = prepend_known c.loop-next.pending (g.R.Source.remaining (inner_of c.loop-next.reader)) in
    let left = g.R.Source.remaining (inner_of c.next.new.reader) in
    let pending = c.next.new.self in
    let now = c.loop-next.invariant in
    let (one, end) = last_piece c.in-Ok.next pending left c.in-Rest.is c.in-Ok.ensures.comes in
    text_ahead (λ (t : List ℕ). LacksTable t NoSeparator) old before left c.loop-next.text.items pending now.taken c.in-Ok.ensures.kept
    (without_separator (none_separates c.loop-next.text.items pending (or_nothing left) c.loop-next.start now.lines now.piece one (none_left left end)))

pub returns-then-is_separator-clause-taken : goal.returns-then-is_separator-clause-taken
returns-then-is_separator-clause-taken g c =
    let old = prepend_known c.args.pending.now (g.R.Source.remaining (inner_of c.args.reader.now)) in
    let before = prepend_known c.loop-next.pending (g.R.Source.remaining (inner_of c.loop-next.reader)) in
    let left = g.R.Source.remaining (inner_of c.next.new.reader) in
    let pending = c.next.new.self in
    let now = c.loop-next.invariant in
    let end = c.in-Line.end in
    let start = c.loop-next.start in
    let before_it = c.loop-next.text.items in
    let items = c.gather.new.text.items in
    let gone : Consumes old (prepend_known c.gather.new.pending left) items =
    rw (c.in_ok-gather-in-Line.ensures.text, c.in_ok-gather-in-Line.ensures.pending)
    (taken_more old before left before_it pending (end + 1) now.taken c.in-Ok.ensures.kept) in
    let same : drop start items ≡ ended separator = rw (c.as_slice.ensures.value, from_place start items) at (c.is_separator.ensures.yes c.if-is_separator.true) in
    subst (λ (l : List ℕ). Consumes old (prepend_known c.gather.new.pending left) l)
    (sym (take-append-drop start items) ∙ ap (λ l. take start items ++ l) same ∙ ap (λ l. l ++ ended separator) (sym c.truncate.ensures.items))
    gone

pub loop-next-preserved-in-Line : goal.loop-next-preserved-in-Line
loop-next-preserved-in-Line g c =
    let old = prepend_known c.args.pending.now (g.R.Source.remaining (inner_of c.args.reader.now)) in
    let before = prepend_known c.loop-next.pending (g.R.Source.remaining (inner_of c.loop-next.reader)) in
    let left = g.R.Source.remaining (inner_of c.next.new.reader) in
    let pending = c.next.new.self in
    let now = c.loop-next.invariant in
    let end = c.in-Line.end in
    let start = c.loop-next.start in
    let before_it = c.loop-next.text.items in
    let items = c.gather.new.text.items in
    let gone : Consumes old (prepend_known c.gather.new.pending left) items =
    rw (c.in_ok-gather-in-Line.ensures.text, c.in_ok-gather-in-Line.ensures.pending)
    (taken_more old before left before_it pending (end + 1) now.taken c.in-Ok.ensures.kept) in
    let first : IsFirstLine end pending = rw c.in-Line.is at c.in-Ok.ensures.comes in
    let differs : drop start items ≢ ended separator = rw (c.as_slice.ensures.value, from_place start items) at (c.is_separator.ensures.no c.if-is_separator.false) in
    let other : drop start (before_it ++ take (end + 1) pending) ≢ ended separator = rw c.in_ok-gather-in-Line.ensures.text at differs in
    let lines : IsTableText items =
    rw c.in_ok-gather-in-Line.ensures.text (line_more before_it pending start end now.within now.lines now.piece first other) in
    let len : c.len-start.result ≡ length items = search rules in
    let parts = none_behind c.len-start.result items len lines in
    record {
      within = omega (arith, len);
      lines = parts.0;
      piece = parts.1;
      taken = gone;
      failures = c.in-Ok.ensures.counted ∙ now.failures;
    }

pub slice_bounds-is_separator-count : goal.slice_bounds-is_separator-count
slice_bounds-is_separator-count g c = grind (arith, common_steps)

pub slice_bounds-is_separator-start : goal.slice_bounds-is_separator-start
slice_bounds-is_separator-start g c = grind (arith, common_steps)

pub returns-then-is_separator-clause-lines : goal.returns-then-is_separator-clause-lines
returns-then-is_separator-clause-lines g c = grind (arith, common_steps)

pub loop-next-smaller-in-Line : goal.loop-next-smaller-in-Line
loop-next-smaller-in-Line g c = grind (arith, common_steps)

pub loop-next-smaller : goal.loop-next-smaller
loop-next-smaller g c = grind (arith, common_steps)

pub loop-next-preserved : goal.loop-next-preserved
loop-next-preserved g c = grind (arith, common_steps)
