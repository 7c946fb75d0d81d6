use Rattle.std.proofs.Common.{map, ap, ◌∙◌, Option, ℕ}
use Rattle.std.proofs.lemmas.List.{map-set}
use Rattle.std.specs.List.{slice_set}
use Rattle.apex_states.specs.Index.{place_in}
use Rattle.apex_states.proofs.index.Index.enter.Goals as goal

pub returns-clause-cells : goal.returns-clause-cells
returns-clause-cells c =
    map-set place_in c.args.self.now.slots.items c.args.slot c.of.result
    ∙ ap (λ (p : Option ℕ). slice_set (map place_in c.args.self.now.slots.items) c.args.slot p) c.of.ensures
