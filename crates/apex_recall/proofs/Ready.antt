-- A canonical form can go on for an event, and its counts still fit in words after it.
use Rattle.std.proofs.Common.{ℕ, ◌<◌, ◌^◌, min, Option, None, Some, refl, arith}
use Rattle.std.specs.Option.{ForSome}
use Rattle.std.proofs.lemmas.Bool.{cond_both}
use Rattle.apex_types.specs.declared.entries.Event.TheVariants.{Turn, Tick}
use Rattle.apex_machine.specs.Events.{IsWithin}
use Rattle.apex_machine.specs.table.Table.{IsLawful, Table}
use Rattle.apex_pace.specs.Pace.{Paced}
use Rattle.apex_forms.specs.Forms.{canonical_paced, kept_worked}
use Rattle.apex_recall.specs.Reached.{IsAmount, IsReached}
use Rattle.apex_choices.specs.Choices.{AreWordsAfter}
use Rattle.apex_recall.specs.Formed.{FormFits, FormIsReady}
use Rattle.apex_recall.specs.Terms.{Event, OpenWork, Pace}
use Rattle.apex_recall.proofs.GoOn.{can_go_on}

kept_few : (begun : Option OpenWork) (worked : ℕ) → ForSome begun (λ o. IsAmount o.work.amount) → kept_worked begun worked < 2 ^ 32
kept_few None worked amounts = omega arith
kept_few (Some o) worked amounts =
    cond_both o.unbroken (min worked o.work.amount) 0 (λ x. x < 2 ^ 32) (λ _. let few = amounts o refl in omega (arith, few)) (λ _. omega arith)

counts_fit : (pace : Pace) → pace.turns < 2 ^ 32 → (table : Table) (s : Paced) → IsReached table s → (event : Event)
    → IsWithin table.cores event → AreWordsAfter event (canonical_paced pace s)
counts_fit pace few table s reached (Turn core) within = omega (arith, few)
counts_fit pace few table s reached (Tick n) within =
    λ core. let kept = kept_few (s.situation.works core) (s.worked core) (reached.amounts core) in omega (arith, kept, within)

pub form_ready : (pace : Pace) → pace.turns < 2 ^ 32 → (table : Table) → IsLawful table → (s : Paced) → IsReached table s
    → FormFits pace table s → FormIsReady pace table s
form_ready pace few table lawful s reached form = record {
  fits = form.fits;
  stored = form.stored;
  can = can_go_on table lawful s.situation reached.of reached.fit;
  counts = counts_fit pace few table s reached;
}
