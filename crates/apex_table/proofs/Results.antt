-- Facts about the value of a reading that gives one.
use Rattle.std.proofs.Common.{◌≡◌, ℕ, zero, suc, ◌+◌, ◌<◌, slice_index_or, Bool, true, false, List, [], ◌∷◌, ◌++◌, length, map, Result, Ok, Err, IfOk, refl, sym, ap, subst, ◌∙◌, if◌then◌else◌, arith, length-append}
use Rattle.std.specs.List.{AllByRecursion}
use Rattle.std.proofs.lemmas.List.{append-nil, append_assoc, map-append}
use Rattle.std.proofs.lemmas.Result.{IfOk-at_ok, IfOk-weaker}
use Rattle.apex_table.specs.Terms.{TableFault}
use Rattle.apex_words.specs.Outcome.{◌>>=◌, each}

-- after a reading that gave x
pub ok_then : {A B : Type 0} (r : Result A TableFault) (f : A → Result B TableFault) (P : B → Type 0) → ((x : A) → r ≡ Ok x → IfOk (f x) P) → IfOk (r >>= f) P
ok_then (Ok x) f P h = h x refl
ok_then (Err e) f P h = tt

pub ok_if : {A : Type 0} (b : Bool) (fault : TableFault) (x : A) (P : A → Type 0) → (b ≡ true → P x) → IfOk (if b then Ok x else Err fault) P
ok_if true fault x P h = h refl
ok_if false fault x P h = tt

pub ok_unless : {A : Type 0} (b : Bool) (fault : TableFault) (x : A) (P : A → Type 0) → (b ≡ false → P x) → IfOk (if b then Err fault else Ok x) P
ok_unless true fault x P h = tt
ok_unless false fault x P h = h refl

pub both_ok : {A : Type 0} (r : Result A TableFault) (P Q : A → Type 0) {R : A → Type 0} → ((x : A) → P x → Q x → R x) → IfOk r P → IfOk r Q → IfOk r R
both_ok (Ok x) P Q gives left right = gives x left right
both_ok (Err e) P Q gives left right = tt

-- a fact that each reading keeps holds of all that was read
pub each_keeps : {A B : Type 0} (read : List A → B → Result A TableFault) (P : List A → Type 0) → ((done : List A) (y : B) → P done → IfOk (read done y) (λ x. P (done ++ x ∷ []))) → (done : List A) (ys : List B) → P done → IfOk (each read done ys) P
each_keeps read P keeps done [] h = h
each_keeps read P keeps done (y ∷ ys) h =
    ok_then (read done y) _ P (λ x e. each_keeps read P keeps (done ++ x ∷ []) ys (IfOk-at_ok (λ x. P (done ++ x ∷ [])) e (keeps done y h)))

pub each_length : {A B : Type 0} (read : List A → B → Result A TableFault) (done : List A) (ys : List B) → IfOk (each read done ys) (λ xs. length xs ≡ length done + length ys)
each_length read done [] = omega arith
each_length read done (y ∷ ys) =
    ok_then (read done y) _ (λ xs. length xs ≡ length done + length (y ∷ ys)) (λ x e.
    IfOk-weaker (each read (done ++ x ∷ []) ys) _ _ (λ xs h. omega (arith, length-append done (x ∷ []))) (each_length read (done ++ x ∷ []) ys))

pub all_push : {A : Type 0} (P : A → Type 0) (xs : List A) (x : A) → AllByRecursion P xs → P x → AllByRecursion P (xs ++ x ∷ [])
all_push P [] x all here = (here, tt)
all_push P (y ∷ ys) x all here = (all.0, all_push P ys x all.1 here)

pub all_append : {A : Type 0} (P : A → Type 0) (xs ys : List A) → AllByRecursion P xs → AllByRecursion P ys → AllByRecursion P (xs ++ ys)
all_append P [] ys left right = right
all_append P (x ∷ xs) ys left right = (left.0, all_append P xs ys left.1 right)

-- a fact of each element and its place; the first one is at place k
abbrev pub AllFrom : {A : Type 0} → (ℕ → A → Type 0) → ℕ → List A → Type 0
AllFrom P k [] = Unit {0}
AllFrom P k (x ∷ xs) = P k x × AllFrom P (k + 1) xs

pub all_from_push : {A : Type 0} (P : ℕ → A → Type 0) (k : ℕ) (xs : List A) (x : A) → AllFrom P k xs → P (k + length xs) x → AllFrom P k (xs ++ x ∷ [])
all_from_push P k [] x all here = let z : k + 0 ≡ k = omega arith in (rw z at here, tt)
all_from_push P k (y ∷ ys) x all here =
    let z : k + suc (length ys) ≡ k + 1 + length ys = omega arith in
    (all.0, all_from_push P (k + 1) ys x all.1 (rw z at here))

all_from_at : {A : Type 0} (P : ℕ → A → Type 0) (k : ℕ) (xs : List A) → AllFrom P k xs → (i : ℕ) (default : A) → i < length xs → P (k + i) (slice_index_or xs i default)
all_from_at P k [] all i default below = absurd (omega (arith, below))
all_from_at P k (x ∷ xs) all zero default below = let z : k + 0 ≡ k = omega arith in rw z all.0
all_from_at P k (x ∷ xs) all (suc i) default below =
    let z : k + suc i ≡ k + 1 + i = omega arith in
    rw z (all_from_at P (k + 1) xs all.1 i default (omega (arith, below)))

pub all_from_start : {A : Type 0} (P : ℕ → A → Type 0) (xs : List A) → AllFrom P 0 xs → (i : ℕ) (default : A) → i < length xs → P i (slice_index_or xs i default)
all_from_start P xs all i default below =
    let z : 0 + i ≡ i = omega arith in subst (λ n. P n (slice_index_or xs i default)) z (all_from_at P 0 xs all i default below)

-- each element, by its place
pub all_by_place : {A : Type 0} (P : A → Type 0) (default : A) (xs : List A) → ((i : ℕ) → i < length xs → P (slice_index_or xs i default)) → AllByRecursion P xs
all_by_place P default [] all = tt
all_by_place P default (x ∷ xs) all = (all 0 (omega arith), all_by_place P default xs (λ i below. all (suc i) (omega arith)))

pub all_any : {A : Type 0} (xs : List A) → AllByRecursion (λ x. Unit {0}) xs
all_any [] = tt
all_any (x ∷ xs) = (tt, all_any xs)

-- if it holds at each place
pub all_from_any : {A : Type 0} (P : ℕ → A → Type 0) (k : ℕ) (xs : List A) → AllByRecursion (λ x. (i : ℕ) → P i x) xs → AllFrom P k xs
all_from_any P k [] all = tt
all_from_any P k (x ∷ xs) all = (all.0 k, all_from_any P (k + 1) xs all.1)

-- a fact of each element that is read at its place
pub each_from : {A B : Type 0} (read : List A → B → Result A TableFault) (P : ℕ → A → Type 0) (Q : B → Type 0) → ((done : List A) (y : B) → Q y → IfOk (read done y) (P (length done))) → (done : List A) (ys : List B) → AllFrom P 0 done → AllByRecursion Q ys → IfOk (each read done ys) (AllFrom P 0)
each_from read P Q gives done [] all sound = all
each_from read P Q gives done (y ∷ ys) all sound =
    ok_then (read done y) _ (AllFrom P 0) (λ x e.
    let z : 0 + length done ≡ length done = omega arith in
    let here : P (0 + length done) x = rw z (IfOk-at_ok (P (length done)) e (gives done y sound.0)) in
    each_from read P Q gives (done ++ x ∷ []) ys (all_from_push P 0 done x all here) sound.1)

-- a part of each element that its reading leaves as it was
pub each_map : {A B C : Type 0} (read : List A → B → Result A TableFault) (f : A → C) (g : B → C) → ((done : List A) (y : B) → IfOk (read done y) (λ x. f x ≡ g y)) → (done : List A) (ys : List B) → IfOk (each read done ys) (λ xs. map f xs ≡ map f done ++ map g ys)
each_map read f g same done [] = sym (append-nil (map f done))
each_map read f g same done (y ∷ ys) =
    ok_then (read done y) _ (λ xs. map f xs ≡ map f done ++ map g (y ∷ ys)) (λ x e.
    IfOk-weaker (each read (done ++ x ∷ []) ys) _ _ (λ xs h.
    h ∙ ap (λ l. l ++ map g ys) (map-append f done (x ∷ [])) ∙ append_assoc (map f done) (f x ∷ []) (map g ys)
    ∙ ap (λ z. map f done ++ z ∷ map g ys) (IfOk-at_ok (λ x. f x ≡ g y) e (same done y)))
    (each_map read f g same (done ++ x ∷ []) ys))
