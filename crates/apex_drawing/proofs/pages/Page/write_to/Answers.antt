-- The text goes out first, and the columns behind it.
use Rattle.std.proofs.Common.{refl}
use Rattle.std.proofs.lemmas.Result.{on_err_weaker}
use Rattle.apex_history.proofs.Outcomes.{OnErr-always}
use Rattle.apex_history.proofs.Passing.{beginning_after, beginning_longer}
use Rattle.apex_drawing.specs.Pages.{pending}
use Rattle.apex_drawing.proofs.pages.Page.write_to.Goals as goal

pub returns-in_err-write_all-clause-err : goal.returns-in_err-write_all-clause-err
returns-in_err-write_all-clause-err g c =
    let page = c.args.self.now in
    OnErr-always c.from_residual.result
    (beginning_longer _ _ page.text.items page.columns.items (rw c.as_slice.ensures.value at c.in_err-write_all.ensures.beginning))

pub returns-clause-err : goal.returns-clause-err
returns-clause-err g c =
    let page = c.args.self.now in
    on_err_weaker c.write_all-2.result
    (λ begun. beginning_after _ _ _ (pending page) page.columns.items
    (page.text.items, refl, rw c.as_slice.ensures.value at c.in_ok-write_all.ensures.bytes)
    (rw c.as_slice-2.ensures.value at begun))
    c.write_all-2.ensures.beginning
