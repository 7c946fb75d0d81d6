-- Rows of words, packed one behind the other.
use Rattle.std.proofs.Common.{◌≡◌, ℕ, zero, suc, ◌+◌, ◌*◌, ◌<◌, ◌≤◌, List, [], ◌∷◌, ◌++◌, length, take, drop, Some, refl, sym, ap, ◌∙◌, arith, length-drop}
use Rattle.std.proofs.Math.Nat.{mul-le-mul_right, suc-mul, zero-mul}
use Rattle.std.proofs.lemmas.List.{take-append-le, drop-append-le, drop-drop, take_all}
use Rattle.std.specs.List.{slice_get}
use Rattle.apex_states.specs.Rows.{rows_in}

pub rows_in-length : (width count : ℕ) (words : List ℕ) → length (rows_in width count words) ≡ count
rows_in-length width zero words = refl
rows_in-length width (suc count) words = ap suc (rows_in-length width count (drop width words))

-- the row at a place ends within the words
pub row_within : (width count place : ℕ) → place < count → place * width + width ≤ count * width
row_within width count place below =
    omega (arith, suc-mul place width, mul-le-mul_right {m = suc place} {n = count} width (omega arith))

pub rows_in-get : (width count : ℕ) (words : List ℕ) (place : ℕ) → place < count
    → slice_get (rows_in width count words) place ≡ Some (take width (drop (place * width) words))
rows_in-get width zero words place below = absurd (omega arith)
rows_in-get width (suc count) words zero below =
    let e : zero * width ≡ zero = zero-mul width in
    ap (λ n. Some (take width (drop n words))) (sym e)
rows_in-get width (suc count) words (suc place) below =
    let e : width + place * width ≡ suc place * width = omega (arith, suc-mul place width) in
    rows_in-get width count (drop width words) place (omega arith)
    ∙ (ap (λ ws. Some (take width ws)) (drop-drop (place * width) width words)
    ∙ ap (λ n. Some (take width (drop n words))) e)

-- words that are put behind those of the rows are one row more
pub rows_in-push : (width count : ℕ) (words row : List ℕ) → length words ≡ count * width → length row ≡ width
    → rows_in width (suc count) (words ++ row) ≡ rows_in width count words ++ row ∷ []
rows_in-push width zero [] row whole long = ap (λ r. r ∷ []) (take_all width row (omega arith))
rows_in-push width zero (w ∷ words) row whole long = absurd (omega (arith, zero-mul width))
rows_in-push width (suc count) words row whole long =
    let fits : width ≤ length words = omega (arith, suc-mul count width) in
    let rest : length (drop width words) ≡ count * width = omega (arith, suc-mul count width, length-drop width words) in
    let deeper = rows_in-push width count (drop width words) row rest long in
    rw (take-append-le width words row fits, drop-append-le width words row fits)
    (ap (λ rs. take width words ∷ rs) deeper)
