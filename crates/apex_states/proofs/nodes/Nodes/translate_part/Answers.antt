-- A part that was found before, or is looked up now.
use Rattle.std.proofs.Common.{◌<◌, length, None, Some, refl, sym, ap, ◌∙◌, arith}
use Rattle.std.proofs.lemmas.Option.{same_Some, slice_get-get_or}
use Rattle.apex_states.specs.declared.nodes.Nodes.{Nodes}
use Rattle.apex_states.proofs.Trees.{ArePartsFound-held, ArePartsFound-set, IsHeld-parts}
use Rattle.apex_states.proofs.nodes.Nodes.translate_part.Goals as goal

pub returns-in-Some-clause-number : goal.returns-in-Some-clause-number
returns-in-Some-clause-number c = λ k is.
    let within : c.args.number < length c.args.found.now = omega (arith, c.requires.number, c.requires.slots) in
    c.requires.found c.args.number c.in-Some.among k (slice_get-get_or c.args.found.now c.args.number None within ∙ ap Some c.in-Some.is) is

pub returns-in_err-among-in-None-clause-found : goal.returns-in_err-among-in-None-clause-found
returns-in_err-among-in-None-clause-found c =
    let nodes = c.args.self.now in
    let new : Nodes = record { parts = c.number.new.self; pairs = nodes.pairs } in
    ArePartsFound-held c.args.known.now nodes new c.args.found.now (IsHeld-parts nodes new refl c.number.ensures.rows c.number.ensures.width) c.requires.found

pub returns-in_ok-among-in-None-clause-found : goal.returns-in_ok-among-in-None-clause-found
returns-in_ok-among-in-None-clause-found c =
    let nodes = c.args.self.now in
    let new : Nodes = record { parts = c.number.new.self; pairs = nodes.pairs } in
    let held = IsHeld-parts nodes new refl c.number.ensures.rows c.number.ensures.width in
    ArePartsFound-set c.args.known.now nodes new c.args.found.now c.args.number c.in_ok-among-in-None.among held
    (λ k is. rw (same_Some c.row.result.now k (sym c.row.ensures.row ∙ is)) at c.in_ok-among-in-None.ensures.number) c.requires.found
