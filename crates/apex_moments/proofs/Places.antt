-- The values of places.
use Rattle.std.proofs.Common.{◌≡◌, ℕ, zero, suc, ◌<◌, List, [], ◌∷◌, ◌++◌, length, drop, get_or, set, arith, refl, sym, ◌∙◌, ap, length-append, append_assoc, add-one, ◌+◌, inl, inr, subst}
use Rattle.std.proofs.Math.Seq.{get_or-append_seam, set-append_seam}
use Rattle.std.proofs.lemmas.Bool.{cases_lt}
use Rattle.std.proofs.lemmas.List.{drop_more, get_or_append_left}
use Rattle.std.proofs.lemmas.Option.{slice_get-get_or}
use Rattle.std.specs.Prelude.{Some, slice_get}
use Rattle.apex_machine.specs.text.Listing.{texts_of}
use Rattle.apex_moments.specs.Places.{of_places}

-- there are as many
pub length_of : {A : Type 0} → (f : ℕ → A) (n : ℕ) → length (of_places f n) ≡ n
length_of f zero = refl
length_of f (suc n) = rw (length-append, length_of f n) (omega arith)

-- the value of a place
pub place_of : {A : Type 0} → (f : ℕ → A) (n i : ℕ) (d : A) → i < n → get_or (of_places f n) i d ≡ f i
place_of f zero i d within = absurd (omega (arith, within))
place_of f (suc n) i d within = elim (cases_lt i n) [
  | inl old ↦ get_or_append_left (of_places f n) (f n ∷ []) d i (rw (length_of f n) old) ∙ place_of f n i d old
  | inr new ↦
      let last : i ≡ n = omega (arith, within, new) in
      let here : get_or (of_places f n ++ f n ∷ []) (length (of_places f n)) d ≡ f n = get_or-append_seam (of_places f n) (f n) [] d in
      subst (λ (k : ℕ). get_or (of_places f (suc n)) k d ≡ f k) (sym last) (subst (λ (k : ℕ). get_or (of_places f (suc n)) k d ≡ f n) (length_of f n) here)
]

pub found_at : {A : Type 0} → (f : ℕ → A) (n i : ℕ) → i < n → slice_get (of_places f n) i ≡ Some (f i)
found_at f n i within =
    slice_get-get_or (of_places f n) i (f i) (rw (length_of f n) within) ∙ ap Some (place_of f n i (f i) within)

-- the text of the next thing follows those before it
pub text_next : (f : ℕ → List ℕ) (n : ℕ) (before text after : List ℕ) → text ≡ before ++ texts_of f n
    → after ≡ text ++ f n → after ≡ before ++ texts_of f (n + 1)
text_next f n before text after so_far more =
    let next : texts_of f (n + 1) ≡ texts_of f n ++ f n = rw (add-one n) refl in
    more ∙ ap (λ (l : List ℕ). l ++ f n) so_far ∙ append_assoc before (texts_of f n) (f n)
    ∙ ap (λ (l : List ℕ). before ++ l) (sym next)

-- the value of the next place is put behind those before it
pub place_next : {A : Type 0} → (f : ℕ → A) (n : ℕ) (before after : List A) (next : A) → before ≡ of_places f n
    → after ≡ before ++ next ∷ [] → next ≡ f n → after ≡ of_places f (n + 1)
place_next f n before after next so_far put is =
    put ∙ ap (λ l. l ++ next ∷ []) so_far ∙ ap (λ x. of_places f n ++ x ∷ []) is ∙ rw (add-one n) refl

-- the first n places have their values, and what follows begins at place n
kept_from : {A : Type 0} → (f : ℕ → A) (n : ℕ) (old before : List A) (d : A) → n < length old → before ≡ of_places f n ++ drop n old
    → before ≡ of_places f n ++ get_or old n d ∷ drop (n + 1) old
kept_from f n old before d within is = is ∙ ap (λ l. of_places f n ++ l) (drop_more old n d within)

-- the next place has its old value
pub kept_at : {A : Type 0} → (f : ℕ → A) (n : ℕ) (old before : List A) (d : A) → n < length old → before ≡ of_places f n ++ drop n old
    → get_or before n d ≡ get_or old n d
kept_at {A} f n old before d within is =
    let done = of_places f n in
    let rest = drop (n + 1) old in
    ap (λ (l : List A). get_or l n d) (kept_from f n old before d within is)
    ∙ subst (λ (k : ℕ). get_or (done ++ get_or old n d ∷ rest) k d ≡ get_or old n d) (length_of f n)
    (get_or-append_seam done (get_or old n d) rest d)

-- the next place has its value already
pub still_at : {A : Type 0} → (f : ℕ → A) (n : ℕ) (old before : List A) (d : A) → n < length old → before ≡ of_places f n ++ drop n old
    → get_or before n d ≡ f n → before ≡ of_places f (n + 1) ++ drop (n + 1) old
still_at {A} f n old before d within is value =
    let done = of_places f n in
    let rest = drop (n + 1) old in
    kept_from f n old before d within is
    ∙ ap (λ (x : A). done ++ x ∷ rest) (sym (kept_at f n old before d within is) ∙ value)
    ∙ sym (append_assoc done (f n ∷ []) rest) ∙ ap (λ (l : List A). l ++ rest) (rw (add-one n) refl)

-- the value of a place that there is
pub same_at : {A : Type 0} → (all : List A) (n : ℕ) (d e : A) → n < length all → get_or all n d ≡ get_or all n e
same_at [] n d e within = absurd (omega (arith, within))
same_at (x ∷ all) zero d e within = refl
same_at (x ∷ all) (suc n) d e within = same_at all n d e (omega (arith, within))

-- the next place has its value too
pub changed_at : {A : Type 0} → (f : ℕ → A) (n : ℕ) (old before after : List A) (next : A) → n < length old
    → before ≡ of_places f n ++ drop n old → after ≡ set before n next → next ≡ f n
    → after ≡ of_places f (n + 1) ++ drop (n + 1) old
changed_at {A} f n old before after next within is put value =
    let done = of_places f n in
    let rest = drop (n + 1) old in
    let kept = get_or old n next in
    put ∙ ap (λ (l : List A). set l n next) (kept_from f n old before next within is)
    ∙ subst (λ (k : ℕ). set (done ++ kept ∷ rest) k next ≡ done ++ next ∷ rest) (length_of f n) (set-append_seam done kept rest next)
    ∙ ap (λ (x : A). done ++ x ∷ rest) value ∙ sym (append_assoc done (f n ∷ []) rest)
    ∙ ap (λ (l : List A). l ++ rest) (rw (add-one n) refl)
