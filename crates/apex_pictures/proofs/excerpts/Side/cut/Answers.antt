-- The part that is drawn is behind the one that is left out, and as long as may be.
use Rattle.std.proofs.Common.{◌∙◌, ap, drop, take}
use Rattle.std.proofs.lemmas.List.{take_min}
use Rattle.apex_pictures.specs.declared.excerpts.TheConstants.{MOST_COLUMNS}
use Rattle.apex_pictures.proofs.excerpts.Side.cut.Goals as goal

pub returns-clause-value : goal.returns-clause-value
returns-clause-value c =
    let behind = c.split_at.result.1.now in
    c.split_at-2.ensures.front ∙ ap (λ n. take n behind) c.min.ensures ∙ take_min MOST_COLUMNS behind
    ∙ ap (take MOST_COLUMNS) (c.split_at.ensures.back ∙ ap (λ n. drop n c.args.columns.now) c.left_out.ensures.value)
