use Rattle.std.proofs.Common.{◌≡◌, ◌∙◌, ap, arith}
use Rattle.apex_choices.specs.Counts.{StoredPaced}
use Rattle.apex_forms.proofs.stored.put_objects.Goals as goal

pub put_counted-at-requires : goal.put_counted-at-requires
put_counted-at-requires c =
    let objects : c.objects-objects.result.now ≡ c.args.paced.now.situation.objects =
    c.objects-objects.ensures
    ∙ ap (λ (p : StoredPaced). p.situation.objects) c.paced.view_is in
    rw objects (omega arith)

pub put_locks-requires : goal.put_locks-requires
put_locks-requires c =
    let objects : c.objects-objects.result.now ≡ c.args.paced.now.situation.objects =
    c.objects-objects.ensures
    ∙ ap (λ (p : StoredPaced). p.situation.objects) c.paced.view_is in
    let put = rw objects at c.put_counted-at.ensures in
    rw objects (omega arith)

pub returns : goal.returns
returns c =
    let objects : c.objects-objects.result.now ≡ c.args.paced.now.situation.objects =
    c.objects-objects.ensures
    ∙ ap (λ (p : StoredPaced). p.situation.objects) c.paced.view_is in
    rw (← objects) (record {
      mid = c.put_counted-at.result;
      end = c.put_locks.result;
      between = c.put_counted-at.new.words;
      first = c.put_counted-at.ensures;
      second = c.put_locks.ensures;
    })
