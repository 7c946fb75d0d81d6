-- The next text follows those before it.
use Rattle.apex_traces.specs.Trace as trace
use Rattle.apex_moments.proofs.Places.{text_next}
use Rattle.apex_traces.proofs.trace.put_core_names.Goals as goal

pub loop-core-preserved : goal.loop-core-preserved
loop-core-preserved c = record {
  many = c.loop-core.invariant.many;
  text = text_next (trace.core_name_text) c.loop-core.core _ _ _ c.loop-core.invariant.text
      (rw c.new.ensures at c.in_ok-put_core_name.ensures);
}
