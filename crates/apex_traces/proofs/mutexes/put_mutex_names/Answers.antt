-- The next text follows those before it.
use Rattle.apex_traces.specs.Trace as trace
use Rattle.apex_moments.proofs.Places.{text_next}
use Rattle.apex_traces.proofs.mutexes.put_mutex_names.Goals as goal

pub loop-place-preserved : goal.loop-place-preserved
loop-place-preserved c = record {
  many = c.loop-place.invariant.many;
  text = text_next (trace.mutex_name_text c.args.table.now) c.loop-place.place _ _ _ c.loop-place.invariant.text
      (rw c.at.ensures at c.in_ok-put_mutex_name.ensures);
}
