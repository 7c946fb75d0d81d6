-- Each step on the cell keeps its rule.
use Rattle.std.proofs.Common.{◌≡◌, ◌≢◌, ℕ, zero, suc, inl, inr, ⊎_elim, List, [], ◌∷◌, ◌++◌, set, refl, sym, ◌∙◌, ap, subst, ◌≤◌}
use mathlib.Core.List.{IsPrefix}
use mathlib.Core.Option.{some, some-injective, some-ne-none}
use lib.ListN.{get_elem?}
use Rattle.crossbeam_utils.specs.Register.{Forks, Merges, Turns}
use Rattle.atomic_table.proofs.Lists.{at_set, at_snoc}
use Rattle.apex_types.specs.declared.entries.Entry.{Entry}
use Rattle.apex_types.specs.declared.limits.TheConstants.{MOST_CORES}
use Rattle.apex_machine.specs.table.Table.{Table}
use Rattle.apex_board.specs.declared.law.View.{View}
use Rattle.apex_board.specs.declared.law.View.TheVariants.{Blank, Publishes, Reads, Spent}
use Rattle.apex_board.specs.Cells.{Adds, Finds, IsKept, IsPublished, Knows, Sees}
use Rattle.apex_board.specs.Fronts.{Shows}
use Rattle.apex_board.proofs.Openings.{opening_shows}
use Rattle.apex_board.proofs.Prefixes.{prefix_self}
use Rattle.apex_receipts.proofs.Prefixes.{prefix_trans}

-- a fact of each pass stays one if one pass's view changes
each_set : (K : ℕ → View → Type 0) (views : List View) (pass : ℕ) (w : View) → K pass w
    → ((j : ℕ) (v : View) → j ≢ pass → get_elem? views j ≡ some v → K j v)
    → (j : ℕ) (v : View) → get_elem? (set views pass w) j ≡ some v → K j v
each_set K views pass w here others j v at = ⊎_elim
    (λ (t : (j ≡ pass) × (w ≡ v)). subst (K j) t.1 (subst (λ (k : ℕ). K k w) (sym t.0) here))
    (λ (t : (j ≢ pass) × (get_elem? views j ≡ some v)). others j v t.0 t.1)
    (at_set views pass j w v at)

-- and if a pass is added
each_more : (K : ℕ → View → Type 0) (views : List View) (w : View) → ((j : ℕ) → K j w)
    → ((j : ℕ) (v : View) → get_elem? views j ≡ some v → K j v)
    → (j : ℕ) (v : View) → get_elem? (views ++ w ∷ []) j ≡ some v → K j v
each_more K views w more all j v at = ⊎_elim
    (λ (there : get_elem? views j ≡ some v). all j v there)
    (λ (is : w ≡ v). subst (K j) is (more j))
    (at_snoc views w v j at)

-- in a cell that is no partition's, the one pass is the first
alone : (views : List View) (pass : ℕ) (v : View) → views ≡ Blank ∷ [] → get_elem? views pass ≡ some v → (pass ≡ 0) × (v ≡ Blank)
alone views pass v one at = go pass (subst (λ (l : List View). get_elem? l pass ≡ some v) one at)
  where
    go : (k : ℕ) → get_elem? (Blank ∷ []) k ≡ some v → (k ≡ 0) × (v ≡ Blank)
    go zero e = (refl, sym (some-injective Blank v e))
    go (suc k) e = absurd (some-ne-none v (sym e))

-- the cell becomes one of a partition that opens
pub opens : (table : Table) (pass : ℕ) → table.cores ≤ MOST_CORES → Forks IsKept pass Blank (Publishes table [] []) Spent
opens table pass few words views (inl blank) at = inr record {
  table = table;
  history = [];
  publisher = pass;
  shows = opening_shows table words few blank.0;
  each = each_more (Knows table [] pass) (set views pass (Publishes table [] [])) Spent (λ j. tt)
      (each_set (Knows table [] pass) views pass (Publishes table [] []) (refl, refl, refl, ([], refl))
      (λ j v other there. absurd (other ((alone views j v blank.1 there).0 ∙ sym (alone views pass Blank blank.1 at).0))));
}
opens table pass few words views (inr p) at = absurd (p.each pass Blank at)

-- a pass that is not blank is one of a published cell
published : (words : List ℕ) (views : List View) (pass : ℕ) (v : View) → IsKept words views → get_elem? views pass ≡ some v → v ≢ Blank → IsPublished words views
published words views pass v (inl blank) at not = absurd (not (alone views pass v blank.1 at).1)
published words views pass v (inr p) at not = p

publishes_named : (table : Table) (history told : List Entry) → Publishes table history told ≢ Blank
publishes_named table history told e = cc

reads_named : (table : Table) (seen : List Entry) → Reads table seen ≢ Blank
reads_named table seen e = cc

-- a new reader with the knowledge of the publisher
pub tells : (table : Table) (history told : List Entry) (pass : ℕ)
    → Forks IsKept pass (Publishes table history told) (Publishes table history told) (Reads table history)
tells table history told pass words views holds at =
    let p = published words views pass _ holds at (publishes_named table history told) in
    let knows = p.each pass (Publishes table history told) at in
    inr record {
      table = p.table;
      history = p.history;
      publisher = p.publisher;
      shows = p.shows;
      each = each_more (Knows p.table p.history p.publisher) (set views pass (Publishes table history told)) (Reads table history)
          (λ j. (knows.1, subst (λ (l : List Entry). IsPrefix history l) knows.2 (prefix_self history)))
          (each_set (Knows p.table p.history p.publisher) views pass (Publishes table history told) knows (λ j v other there. p.each j v there));
    }

-- what a reader knows goes to a new pass
pub leaves : (table : Table) (seen : List Entry) (pass : ℕ) → Forks IsKept pass (Reads table seen) Spent (Reads table seen)
leaves table seen pass words views holds at =
    let p = published words views pass _ holds at (reads_named table seen) in
    let knows = p.each pass (Reads table seen) at in
    inr record {
      table = p.table;
      history = p.history;
      publisher = p.publisher;
      shows = p.shows;
      each = each_more (Knows p.table p.history p.publisher) (set views pass Spent) (Reads table seen) (λ j. knows)
          (each_set (Knows p.table p.history p.publisher) views pass Spent tt (λ j v other there. p.each j v there));
    }

-- the publisher is told what a reader has seen
pub hears : (table : Table) (history told seen : List Entry) (pass other : ℕ)
    → Merges IsKept pass (Publishes table history told) other (Reads table seen) (Publishes table history seen) Spent
hears table history told seen pass other words views holds at apart there =
    let p = published words views pass _ holds at (publishes_named table history told) in
    let K = Knows p.table p.history p.publisher in
    let knows = p.each pass (Publishes table history told) at in
    let read : K other (Reads table seen) = ⊎_elim
    (λ (t : (other ≡ pass) × (Publishes table history seen ≡ Reads table seen)). absurd (apart t.0))
    (λ (t : (other ≢ pass) × (get_elem? views other ≡ some (Reads table seen))). p.each other (Reads table seen) t.1)
    (at_set views pass other (Publishes table history seen) (Reads table seen) there) in
    inr record {
      table = p.table;
      history = p.history;
      publisher = p.publisher;
      shows = p.shows;
      each = each_set K (set views pass (Publishes table history seen)) other Spent tt
          (λ j v else is. each_set K views pass (Publishes table history seen) (knows.0, knows.1, knows.2, read.1)
          (λ j v not has. p.each j v has) j v is);
    }

-- a reader reads
pub reads : (table : Table) (seen : List Entry) (pass : ℕ) → Turns IsKept pass (Reads table seen) (λ words. words) (λ before words same after. Sees before words after)
reads table seen pass words views holds at =
    let p = published words views pass _ holds at (reads_named table seen) in
    let knows = p.each pass (Reads table seen) at in (
      Reads table p.history,
      inr record {
        table = p.table;
        history = p.history;
        publisher = p.publisher;
        shows = p.shows;
        each = each_set (Knows p.table p.history p.publisher) views pass (Reads table p.history) (knows.0, prefix_self p.history) (λ j v other there. p.each j v there);
      },
      record {
        history = p.history;
        view = refl;
        later = knows.1;
        shows = subst (λ (t : Table). Shows t p.history words) (sym knows.0) p.shows;
      },
    )

-- the publisher reads
pub finds : (table : Table) (history told : List Entry) (pass : ℕ)
    → Turns IsKept pass (Publishes table history told) (λ words. words) (λ before words same after. Finds before words after)
finds table history told pass words views holds at =
    let p = published words views pass _ holds at (publishes_named table history told) in
    let knows = p.each pass (Publishes table history told) at in (
      Publishes table history told,
      inr record {
        table = p.table;
        history = p.history;
        publisher = p.publisher;
        shows = p.shows;
        each = each_set (Knows p.table p.history p.publisher) views pass (Publishes table history told) knows (λ j v other there. p.each j v there);
      },
      record {
        view = refl;
        saw = subst (λ (l : List Entry). IsPrefix told l) (sym knows.2) knows.3;
        shows = subst (λ (l : List Entry). Shows table l words) (sym knows.2) (subst (λ (t : Table). Shows t p.history words) (sym knows.1) p.shows);
      },
    )

-- what another pass knows, it knows of a history that goes on
knows_on : (table : Table) (history next : List Entry) (publisher j : ℕ) (v : View) → IsPrefix history next → j ≢ publisher
    → Knows table history publisher j v → Knows table next publisher j v
knows_on table history next publisher j Blank on other knows = knows
knows_on table history next publisher j (Publishes named all told) on other knows = absurd (other knows.0)
knows_on table history next publisher j (Reads named seen) on other knows = (knows.0, prefix_trans seen history next knows.1 on)
knows_on table history next publisher j Spent on other knows = tt

-- the publisher publishes
pub adds : (table : Table) (history told next new : List Entry) (words : List ℕ) (pass : ℕ) → IsPrefix history next → next ≡ new → Shows table next words
    → Turns IsKept pass (Publishes table history told) (λ _. words) (λ before found written after. Adds new before after)
adds table history told next new words pass on named shows found views holds at =
    let p = published found views pass _ holds at (publishes_named table history told) in
    let knows = p.each pass (Publishes table history told) at in
    let on' : IsPrefix p.history next = subst (λ (l : List Entry). IsPrefix l next) knows.2 on in (
      Publishes table next told,
      inr record {
        table = p.table;
        history = next;
        publisher = p.publisher;
        shows = subst (λ (t : Table). Shows t next words) knows.1 shows;
        each = each_set (Knows p.table next p.publisher) views pass (Publishes table next told)
            (knows.0, knows.1, refl, prefix_trans told p.history next knows.3 on')
            (λ j v other there. knows_on p.table p.history next p.publisher j v on' (λ is. other (is ∙ sym knows.0)) (p.each j v there));
      },
      ap (λ (l : List Entry). Publishes table l told) named,
    )
