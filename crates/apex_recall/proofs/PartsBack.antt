-- The words of a part stand at its place.
use Rattle.std.proofs.Common.{◌≡◌, ℕ, ◌+◌, ◌*◌, ◌<◌, List, [], ◌∷◌, ◌++◌, length, get_or, take, drop, ap, sym, ◌∙◌, refl, arith, append_assoc, zero, suc, inl, inr, subst}
use Rattle.std.specs.List.{flat_map}
use Rattle.std.proofs.lemmas.Bool.{cases_eq}
use Rattle.std.proofs.lemmas.List.{drop_at, ext_get_or, length-append, take_at}
use Rattle.apex_machine.specs.processes.Roster.{nobody}
use Rattle.apex_machine.specs.services.ProcessServices.{ProcessObject}
use Rattle.apex_pace.specs.Pace.{Paced}
use Rattle.apex_types.specs.Places.{map_places}
use Rattle.apex_types.proofs.Places.{get_or-map_places, length-map_places}
use Rattle.apex_forms.proofs.Lengths.{length-core, length-cores}
use Rattle.apex_recall.specs.Restored.{part}
use Rattle.apex_forms.specs.Records.{record_words}
use Rattle.apex_forms.specs.Stored.{core_words, cores_words, records_words}
use Rattle.apex_recall.specs.Terms.{Record}

-- the words between those before and those behind
middle : (front words tail : List ℕ) (from many : ℕ) → length front ≡ from → length words ≡ many
    → take many (drop from (front ++ (words ++ tail))) ≡ words
middle front words tail from many is_from is_many =
    ap (take many) (drop_at front (words ++ tail) from is_from) ∙ take_at words tail many is_many

pub part_of : {X : Type 0} (f : X → List ℕ) (many : ℕ) → ((x : X) → length (f x) ≡ many)
    → (xs : List X) (front tail : List ℕ) (from k : ℕ) (d : X) → length front ≡ from
    → k < length xs → part (front ++ flat_map f xs ++ tail) from k many ≡ f (get_or xs k d)
part_of f many each [] front tail from k d is within = absurd (omega arith)
part_of f many each (x ∷ xs) front tail from zero d is within =
    let e : from + 0 * many ≡ from = omega arith in
    let shape : front ++ (f x ++ flat_map f xs) ++ tail
    ≡ front ++ (f x ++ (flat_map f xs ++ tail)) = simp append_assoc in
    rw (e, shape) (middle front (f x) (flat_map f xs ++ tail) from many is (each x))
part_of f many each (x ∷ xs) front tail from (suc k) d is within =
    let e : from + suc k * many ≡ from + many + k * many = omega arith in
    let shape : front ++ (f x ++ flat_map f xs) ++ tail
    ≡ (front ++ f x) ++ flat_map f xs ++ tail = simp append_assoc in
    let one = each x in
    rw (e, shape) (part_of f many each xs (front ++ f x) tail (from + many) k d
    (length-append front (f x) ∙ omega arith) (omega arith))

pub record_part_of : (os : List ProcessObject) (rs : List Record) (front tail : List ℕ)
    (from k : ℕ) (d : ProcessObject) → length front ≡ from → k < length os → k < length rs
    → part (front ++ records_words os rs ++ tail) from k 11
    ≡ record_words (get_or os k d).created (get_or rs k nobody)
record_part_of [] rs front tail from k d is in_os in_rs = absurd (omega arith)
record_part_of (o ∷ os) [] front tail from k d is in_os in_rs = absurd (omega arith)
record_part_of (o ∷ os) (r ∷ rs) front tail from zero d is in_os in_rs =
    let e : from + 0 * 11 ≡ from = omega arith in
    let shape : front ++ (record_words o.created r ++ records_words os rs) ++ tail
    ≡ front ++ (record_words o.created r ++ (records_words os rs ++ tail)) =
    append_assoc front (record_words o.created r ++ records_words os rs) tail
    ∙ ap (λ l. front ++ l) (append_assoc (record_words o.created r) (records_words os rs) tail) in
    ap (λ l. take 11 (drop (from + 0 * 11) l)) shape
    ∙ ap (λ k. take 11 (drop k (front ++ (record_words o.created r ++ (records_words os rs ++ tail))))) e
    ∙ middle front (record_words o.created r) (records_words os rs ++ tail) from 11 is refl
record_part_of (o ∷ os) (r ∷ rs) front tail from (suc k) d is in_os in_rs =
    let e : from + suc k * 11 ≡ from + 11 + k * 11 = omega arith in
    let shape : front ++ (record_words o.created r ++ records_words os rs) ++ tail
    ≡ (front ++ record_words o.created r) ++ records_words os rs ++ tail =
    ap (λ l. l ++ tail) (sym (append_assoc front (record_words o.created r) (records_words os rs))) in
    ap (λ l. take 11 (drop (from + suc k * 11) l)) shape
    ∙ ap (λ k. take 11 (drop k ((front ++ record_words o.created r) ++ records_words os rs ++ tail))) e
    ∙ record_part_of os rs (front ++ record_words o.created r) tail (from + 11) k d
    (length-append front (record_words o.created r) ∙ ap (λ n. n + 11) is) (omega arith) (omega arith)

pub core_part_of : (n : ℕ) (s : Paced) (front tail : List ℕ) (from k : ℕ) → length front ≡ from
    → k < n → part (front ++ cores_words n s ++ tail) from k 5
    ≡ core_words (s.situation.works k) (s.turns k) (s.worked k)
core_part_of zero s front tail from k is within = absurd (omega arith)
core_part_of (suc n) s front tail from k is within =
    let core = core_words (s.situation.works n) (s.turns n) (s.worked n) in
    let before = cores_words n s in
    elim (cases_eq k n) as (λ _. part (front ++ cores_words (suc n) s ++ tail) from k 5
    ≡ core_words (s.situation.works k) (s.turns k) (s.worked k)) [
      | inl same ↦
          let many = length-cores n s in
          let shape : front ++ (before ++ core) ++ tail ≡ (front ++ before) ++ (core ++ tail) =
          ap (λ l. l ++ tail) (sym (append_assoc front before core))
          ∙ append_assoc (front ++ before) core tail in
          let e : from + n * 5 ≡ from + n * 5 = refl in
          let here : length (front ++ before) ≡ from + n * 5 =
          length-append front before ∙ omega arith in
          subst (λ (j : ℕ). part (front ++ cores_words (suc n) s ++ tail) from j 5
          ≡ core_words (s.situation.works j) (s.turns j) (s.worked j)) (sym same)
          (ap (λ l. take 5 (drop (from + n * 5) l)) shape
          ∙ middle (front ++ before) core tail (from + n * 5) 5 here
          (length-core (s.situation.works n) (s.turns n) (s.worked n)))
      | inr differs ↦
          let shape : front ++ (before ++ core) ++ tail ≡ front ++ before ++ (core ++ tail) =
          ap (λ l. l ++ tail) (sym (append_assoc front before core))
          ∙ append_assoc (front ++ before) core tail in
          ap (λ l. take 5 (drop (from + k * 5) l)) shape
          ∙ core_part_of n s front (core ++ tail) from k is (omega arith)
    ]

-- values that are those of their elements
pub values_same : {A : Type 0} (f : ℕ → A → A) (xs : List A) (d : A)
    → ((k : ℕ) → k < length xs → f k (get_or xs k d) ≡ get_or xs k d) → map_places f 0 xs ≡ xs
values_same f xs d each = ext_get_or d (map_places f 0 xs) xs (length-map_places f 0 xs)
    (λ i within.
    let known : i < length xs = omega (arith, length-map_places f 0 xs) in
    let z : 0 + i ≡ i = omega arith in
    get_or-map_places f 0 xs i d d known ∙ ap (λ k. f k (get_or xs i d)) z ∙ each i known)

pub values_kept : {A : Type 0} (f : ℕ → A → A) (xs : List A)
    → ((k : ℕ) (d : A) → k < length xs → f k (get_or xs k d) ≡ get_or xs k d)
    → map_places f 0 xs ≡ xs
values_kept f [] each = refl
values_kept f (x ∷ xs) each = values_same f (x ∷ xs) x (λ k. each k x)
