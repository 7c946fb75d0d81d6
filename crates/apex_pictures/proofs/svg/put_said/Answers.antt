-- The call and the reply follow the front of the line without a caller.
use Rattle.std.proofs.Common.{◌∙◌}
use Rattle.apex_pictures.proofs.Said.{bare_long, bare_said}
use Rattle.apex_pictures.proofs.svg.put_said.Goals as goal

pub behind_nobody-requires : goal.behind_nobody-requires
behind_nobody-requires c = bare_long c.args.table.now c.args.entry.now _ (c.as_slice.ensures.value ∙ c.bare_line-line.ensures)

pub returns : goal.returns
returns c =
    let said = bare_said c.args.table.now c.args.entry.now _ (c.as_slice.ensures.value ∙ c.bare_line-line.ensures) in
    rw (c.behind_nobody.ensures, said) at c.put_cut.ensures
