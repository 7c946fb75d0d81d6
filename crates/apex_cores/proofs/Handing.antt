-- A worker hands on to the gate the work that each of its turns has begun.
use Rattle.std.proofs.Common.{◌≡◌, ℕ, ◌+◌, List, [], ◌∷◌, ◌++◌, Option, None, Some, refl, ap, sym, subst, append-nil, ◌∙◌}
use Rattle.std.proofs.lemmas.List.Elements.{filter_map-append}
use Rattle.apex_types.specs.declared.entries.Entry.{Entry}
use Rattle.apex_machine.specs.declared.works.Work.{Work}
use Rattle.apex_types.specs.declared.entries.Who.TheVariants.{Core}
use Rattle.apex_receipts.specs.Receipts.{Spoken, told_full, with_entry}
use Rattle.apex_cores.specs.Works.{AreDone, HaveBeenDone, DidWork, begun_in, works_begun}
use Rattle.apex_cores.proofs.Running.{IsUnderway, none_yet, one_more}

-- the worker is underway, and the gate did the works of its turns
pub record IsAtWork {T : Type 0} (does : T → ℕ → ℕ → ℕ → T → Type 0) (core : ℕ) (before : Spoken) (count : ℕ) (after : Spoken)
    (first last : T) : Type 0 where
  pub underway : IsUnderway before count after
  pub works : AreDone does core (works_begun underway.entries) first last

-- one work more is done
done_more : {T : Type 0} (does : T → ℕ → ℕ → ℕ → T → Type 0) (core : ℕ) (works : List Work) (work : Work) (first middle last : T)
    → AreDone does core works first middle → does middle core work.process work.amount last
    → AreDone does core (works ++ work ∷ []) first last
done_more does core [] work first middle last is next =
    (last, subst (λ t. does t core work.process work.amount last) (sym is) next, refl)
done_more does core (w ∷ works) work first middle last done next =
    (done.0, done.1, done_more does core works work done.0 middle last done.2 next)

-- an entry that has begun no work adds none
works_same : (entries : List Entry) (e : Entry) → begun_in e ≡ None → works_begun (entries ++ e ∷ []) ≡ works_begun entries
works_same entries e is =
    let one : works_begun (e ∷ []) ≡ [] = rw is refl in
    filter_map-append begun_in entries (e ∷ []) ∙ (ap (λ (works : List Work). works_begun entries ++ works) one ∙ append-nil (works_begun entries))

-- and one that has begun a work adds it
works_more : (entries : List Entry) (e : Entry) (work : Work) → begun_in e ≡ Some work
    → works_begun (entries ++ e ∷ []) ≡ works_begun entries ++ work ∷ []
works_more entries e work is =
    let one : works_begun (e ∷ []) ≡ work ∷ [] = rw is refl in
    filter_map-append begun_in entries (e ∷ []) ∙ ap (λ (works : List Work). works_begun entries ++ works) one

works_after : {T : Type 0} (does : T → ℕ → ℕ → ℕ → T → Type 0) (core : ℕ) (entries : List Entry) (e : Entry) (first middle last : T)
    → AreDone does core (works_begun entries) first middle → DidWork does core (begun_in e) middle last
    → AreDone does core (works_begun (entries ++ e ∷ [])) first last
works_after does core entries e first middle last done next = at (begun_in e) refl next where
  at : (begun : Option Work) → begun_in e ≡ begun → DidWork does core begun middle last
      → AreDone does core (works_begun (entries ++ e ∷ [])) first last
  at None is same =
      subst (λ (works : List Work). AreDone does core works first last) (sym (works_same entries e is))
      (subst (λ t. AreDone does core (works_begun entries) first t) same done)
  at (Some work) is did =
      subst (λ (works : List Work). AreDone does core works first last) (sym (works_more entries e work is))
      (done_more does core (works_begun entries) work first middle last done did)

pub none_at_work : {T : Type 0} (does : T → ℕ → ℕ → ℕ → T → Type 0) (core : ℕ) (s : Spoken) (t : T) → IsAtWork does core s 0 s t t
unfolding none_yet
none_at_work does core s t = record { underway = none_yet s; works = refl }

-- after a turn, and the work that it has begun
pub works_on : {T : Type 0} (does : T → ℕ → ℕ → ℕ → T → Type 0) (core : ℕ) (before s : Spoken) (count : ℕ) (e : Entry) (first middle last : T)
    → IsAtWork does core before count s first middle → DidWork does core (begun_in e) middle last
    → IsAtWork does core before (count + 1) (with_entry s e) first last
unfolding one_more
works_on does core before s count e first middle last w next = record {
  underway = one_more before s count e w.underway;
  works = works_after does core w.underway.entries e first middle last w.works next;
}

-- so the gate has done all works of the turns that were made
pub all_done : {T : Type 0} (does : T → ℕ → ℕ → ℕ → T → Type 0) (core : ℕ) (before : Spoken) (count : ℕ) (after : Spoken) (first last : T)
    → before.who ≡ Core core → IsAtWork does core before count after first last → HaveBeenDone does before after first last
all_done does core before count after first last is w = record {
  core = core;
  of_core = is;
  entries = w.underway.entries;
  made = w.underway.made;
  works = w.works;
}

-- also if the history was full before the next turn
pub all_done_at_full : {T : Type 0} (does : T → ℕ → ℕ → ℕ → T → Type 0) (core : ℕ) (before : Spoken) (count : ℕ) (after : Spoken) (first last : T)
    → before.who ≡ Core core → IsAtWork does core before count after first last → HaveBeenDone does before (told_full after) first last
all_done_at_full does core before count after first last is w = record {
  core = core;
  of_core = is;
  entries = w.underway.entries;
  made = record { who = w.underway.made.who; own = w.underway.made.own };
  works = w.works;
}
