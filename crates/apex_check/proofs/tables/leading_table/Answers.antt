use Rattle.std.proofs.Common.{ℕ, List, ◌++◌, refl, rules}
use Rattle.std.specs.Io.KnownBytes.{prepend_known}
use Rattle.std.proofs.KnownBytes.{Keeps-refl}
use Rattle.apex_history.specs.Counted.{inner_of}
use Rattle.apex_table.specs.Reading.{table_of}
use Rattle.apex_check.specs.declared.tables.LeadingFault.TheVariants.{Table}
use Rattle.apex_check.specs.Texts.{separator}
use Rattle.apex_incoming.specs.Lines.{ended}
use Rattle.apex_check.specs.Leading.{LacksTable, without_table}
use Rattle.apex_words.specs.Outcome.{Fails}
use Rattle.apex_incoming.proofs.Coming.{or_nothing, text_ahead}
use Rattle.apex_check.proofs.Separated.{counts_table, of_table}
use Rattle.apex_check.proofs.tables.leading_table.Goals as goal

pub returns : goal.returns
returns g c =
    let old = prepend_known c.args.pending.now (g.R.Source.remaining (inner_of c.args.reader.now)) in
    let left = g.R.Source.remaining (inner_of c.table_text.new.reader) in
    let pending = c.table_text.new.pending in
    let text = c.in_ok-text.text.items in
    let fails : Fails c.in-Err.fault (table_of text) = search rules in
    record {
      ok = tt;
      err = rw c.from.ensures (of_table old text c.in-Err.fault fails
          (λ fault other e. text_ahead (λ (t : List ℕ). LacksTable t (Table fault)) old (prepend_known pending left) left (text ++ ended separator) pending
          c.in_ok-text.ensures.taken (Keeps-refl _)
          (without_table text (pending ++ or_nothing left) (c.in_ok-text.ensures.lines, refl) e other)));
      counted = rw c.from.ensures (counts_table c.in-Err.fault _ _ c.in_ok-text.ensures.counted);
    }
