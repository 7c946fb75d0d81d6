-- What is reported is the line of the part.
use Rattle.std.proofs.Common.{◌∙◌}
use Rattle.apex_lab_cli.proofs.Endings.{told_line}
use Rattle.apex_lab_cli.proofs.ends.tell_part.Goals as goal

pub returns : goal.returns
returns g c =
    told_line _ _ _ _ (c.as_bytes.ensures.value ∙ c.as_str.ensures.value ∙ c.excerpt_line.ensures) c.write_error.ensures
