-- Lists and texts with what comes next.
use Rattle.std.proofs.Common.{◌≡◌, ◌∙◌, ℕ, zero, suc, ◌+◌, ◌<◌, List, [], ◌∷◌, ◌++◌, refl, sym, ap, arith, add-one, append-nil, append_assoc, get_or, length, take}
use Rattle.std.proofs.lemmas.Grind.{flat_map-append}
use Rattle.std.proofs.lemmas.List.{get_or-map, map-append}
use Rattle.std.specs.Prelude.{flat_map, map}
use Rattle.apex_moments.specs.Places.{of_places}

-- more bytes follow those behind a text
pub behind : (text front more before after : List ℕ) → before ≡ text ++ front → after ≡ before ++ more
    → after ≡ text ++ (front ++ more)
behind text front more before after so_far put =
    put ∙ ap (λ (l : List ℕ). l ++ more) so_far ∙ append_assoc text front more

-- the text of one more value
text_push : {X : Type 0} → (f : X → List ℕ) (xs : List X) (x : X) → flat_map f (xs ++ x ∷ []) ≡ flat_map f xs ++ f x
text_push f xs x =
    flat_map-append f xs (x ∷ []) ∙ ap (λ (l : List ℕ). flat_map f xs ++ l) (append-nil (f x))

-- one more is taken
taken_next : {X : Type 0} → (xs : List X) (i : ℕ) (d : X) → i < length xs → take (suc i) xs ≡ take i xs ++ get_or xs i d ∷ []
taken_next [] i d within = absurd (omega (arith, within))
taken_next (x ∷ xs) zero d within = refl
taken_next (x ∷ xs) (suc i) d within = ap (λ l. x ∷ l) (taken_next xs i d (omega (arith, within)))

taken_more : {X : Type 0} → (xs : List X) (i : ℕ) (d : X) → i < length xs → take (i + 1) xs ≡ take i xs ++ get_or xs i d ∷ []
taken_more xs i d within = ap (λ (k : ℕ). take k xs) (add-one i) ∙ taken_next xs i d within

-- the text of the next one follows those before it
pub text_more : {X : Type 0} → (f : X → List ℕ) (xs : List X) (i : ℕ) (d : X) (before text after : List ℕ) → i < length xs
    → text ≡ before ++ flat_map f (take i xs) → after ≡ text ++ f (get_or xs i d)
    → after ≡ before ++ flat_map f (take (i + 1) xs)
text_more f xs i d before text after within so_far put =
    behind before (flat_map f (take i xs)) (f (get_or xs i d)) text after so_far put
    ∙ ap (λ (l : List ℕ). before ++ l)
    (sym (ap (flat_map f) (taken_more xs i d within) ∙ text_push f (take i xs) (get_or xs i d)))

-- the text of the next place's value follows those before it
pub text_next : {A : Type 0} → (f : A → List ℕ) (g : ℕ → A) (n : ℕ) (before text after : List ℕ)
    → text ≡ before ++ flat_map f (of_places g n) → after ≡ text ++ f (g n)
    → after ≡ before ++ flat_map f (of_places g (n + 1))
text_next f g n before text after so_far put =
    let places : of_places g (n + 1) ≡ of_places g n ++ g n ∷ [] = rw (add-one n) refl in
    behind before (flat_map f (of_places g n)) (f (g n)) text after so_far put
    ∙ ap (λ (l : List ℕ). before ++ l) (sym (ap (flat_map f) places ∙ text_push f (of_places g n) (g n)))

-- the value of the next one is put behind those before it
pub value_more : {X Y : Type 0} → (f : X → Y) (xs : List X) (i : ℕ) (d : X) (before after : List Y) (next : Y) → i < length xs
    → before ≡ map f (take i xs) → after ≡ before ++ next ∷ [] → next ≡ f (get_or xs i d)
    → after ≡ map f (take (i + 1) xs)
value_more {X} {Y} f xs i d before after next within so_far put is =
    let whole : map f (take (i + 1) xs) ≡ map f (take i xs) ++ f (get_or xs i d) ∷ [] =
    ap (map f) (taken_more xs i d within) ∙ map-append f (take i xs) (get_or xs i d ∷ []) in
    put ∙ ap (λ (l : List Y). l ++ next ∷ []) so_far ∙ ap (λ (y : Y). map f (take i xs) ++ y ∷ []) is ∙ sym whole

-- the value of the next place is put behind those before it
pub place_more : {A : Type 0} → (f : ℕ → A) (n : ℕ) (old before after : List A) (next : A) → before ≡ old ++ of_places f n
    → after ≡ before ++ next ∷ [] → next ≡ f n → after ≡ old ++ of_places f (n + 1)
place_more {A} f n old before after next so_far put is =
    let whole : of_places f (n + 1) ≡ of_places f n ++ f n ∷ [] = rw (add-one n) refl in
    put ∙ ap (λ (l : List A). l ++ next ∷ []) so_far ∙ ap (λ (x : A). (old ++ of_places f n) ++ x ∷ []) is
    ∙ append_assoc old (of_places f n) (f n ∷ []) ∙ ap (λ (l : List A). old ++ l) (sym whole)

-- what a list of values has at a place is the value of what stands there
pub value_at : {X Y : Type 0} → (f : X → Y) (xs : List X) (ys : List Y) (i : ℕ) (x : X) (y : Y) → i < length xs
    → ys ≡ map f xs → x ≡ get_or xs i x → y ≡ get_or ys i y → y ≡ f x
value_at {X} {Y} f xs ys i x y within are here there =
    there ∙ ap (λ (l : List Y). get_or l i y) are ∙ get_or-map f xs i x y within ∙ ap f (sym here)
