-- Paced situations that are the same have the same canonical form.
use Rattle.std.proofs.Common.{Option, ap, ◌∙◌}
use Rattle.apex_alike.specs.Canonical.{canonical_roster}
use Rattle.apex_choices.specs.Counts.{IsSamePaced}
use Rattle.apex_forms.specs.Forms.{canonical_paced, kept_turns, kept_worked}
use Rattle.apex_pace.specs.Pace.{Paced}
use Rattle.apex_recall.specs.Terms.{OpenWork, Pace}

pub same_canonical_paced : {one other : Paced} → IsSamePaced one other → (pace : Pace) → IsSamePaced (canonical_paced pace one) (canonical_paced pace other)
same_canonical_paced {one} {other} same pace = record {
  situation = record {
    roster = ap canonical_roster same.situation.roster;
    objects = same.situation.objects;
    works = same.situation.works;
    made = same.situation.made;
  };
  turns = λ core. ap (kept_turns pace) (same.turns core);
  worked = λ core.
      ap (λ (begun : Option OpenWork). kept_worked begun (one.worked core)) (same.situation.works core)
      ∙ ap (kept_worked (other.situation.works core)) (same.worked core);
}
