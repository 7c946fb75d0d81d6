-- The next declaration follows those so far.
use Rattle.std.proofs.Common.{arith}
use Rattle.apex_waves.specs.Heads.{declaration_text}
use Rattle.apex_waves.specs.Kinds.{signal_at}
use Rattle.apex_waves.proofs.Nexts.{text_next}
use Rattle.apex_waves.proofs.heads.put_declarations.Goals as goal

pub loop-place-preserved : goal.loop-place-preserved
loop-place-preserved c = record {
  end = c.loop-place.invariant.end;
  few = c.loop-place.invariant.few;
  text = text_next (declaration_text c.args.table.now) (signal_at c.args.kind) c.loop-place.place _ _ _ c.loop-place.invariant.text
      (rw c.signal-signal.ensures at c.put_declaration.ensures.text);
  short = omega (arith, c.put_declaration.ensures.short, c.loop-place.invariant.short);
}
