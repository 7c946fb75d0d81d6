-- No lane of a short load has a byte that is escaped.
use Rattle.std.proofs.Common.{refl, arith}
use Rattle.std.proofs.lemmas.Bool.{eqb-true}
use Rattle.std.proofs.lemmas.Simd.{length-chunk, zip2_of_maps, zip2_splat}
use lib.Lanes.{chunk}
use Rattle.apex_traces.proofs.Plain.{plain_load}
use Rattle.apex_traces.proofs.escapes.is_half_plain_at.Goals as goal

pub returns : goal.returns
returns c = λ none.
    let v = chunk c.args.place 8 c.args.bytes.now in
    let long = length-chunk c.args.place 8 c.args.bytes.now c.requires in
    plain_load c.args.bytes.now c.args.place 8 c.type_inv.bytes c.requires (omega arith) _ _
    (zip2_of_maps _ _ _ v (zip2_splat _ v 8 32 long) (zip2_of_maps _ _ _ v (zip2_splat _ v 8 34 long) (zip2_splat _ v 8 92 long)))
    (eqb-true _ _ none) refl refl
