use Rattle.std.proofs.Common.{subst}
use Rattle.apex_alike.specs.Canonical.{canonical}
use Rattle.apex_alike.specs.Closed.{IsSameSituation}
use Rattle.apex_dispatch.specs.Situations.{situation_in}
use Rattle.apex_choices.specs.Counts.{StoredPaced}
use Rattle.apex_forms.proofs.Counting.{canonical_is}
use Rattle.apex_forms.proofs.canonical.canonical_form.Goals as goal

pub returns : goal.returns
returns c =
    let parts = c.into_parts-store.result in
    record {
      situation = subst (λ (p : StoredPaced). IsSameSituation (situation_in c.new.result) (canonical (situation_in p.situation))) c.paced.view_is
          (canonical_is (situation_in c.paced.inside.situation) (situation_in c.new.result) parts.0 c.make_canonical.new.store
          parts.1 parts.2 parts.3 c.into_parts-store.ensures.situation c.make_canonical.ensures c.new.ensures.situation);
      turns = c.kept_counts-counts.ensures.turns;
      worked = c.kept_counts-counts.ensures.worked;
    }
