-- Parts that are put one behind the other.
use Rattle.std.proofs.Common.{◌≡◌, ℕ, ◌+◌, ◌<◌, ◌≤◌, List, [], ◌∷◌, ◌++◌, length, get_or, take, ap, sym, ◌∙◌, subst, arith, append_assoc, refl}
use Rattle.std.specs.List.{flat_map}
use Rattle.std.proofs.lemmas.List.{append-nil, flat_map_more, length-append, take_more}
use Rattle.std.proofs.lemmas.List.Folds.{length-flat_map-take}
use Rattle.apex_forms.specs.Parts.{IsPut}

-- nothing was put
pub none_put : (old : List ℕ) (at : ℕ) → IsPut [] at old at old
none_put old at =
    record { place = omega arith; words = sym (append-nil (take at old)); many = refl }

-- one part, and the other behind it
pub both_put : (one other : List ℕ) (at mid end : ℕ) (old between new : List ℕ)
    → IsPut one at old mid between → IsPut other mid between end new
    → IsPut (one ++ other) at old end new
both_put one other at mid end old between new first second = record {
  place = omega (arith, length-append one other);
  words = second.words ∙ ap (λ w. w ++ other) first.words ∙ append_assoc (take at old) one other;
  many = second.many ∙ first.many;
}

-- the words of one thing more
pub parts_more : {X : Type 0} (f : X → List ℕ) (xs : List X) (i : ℕ) (x : X)
    → i < length xs → x ≡ get_or xs i x
    → flat_map f (take (i + 1) xs) ≡ flat_map f (take i xs) ++ f x
parts_more f xs i x within is =
    ap (flat_map f) (take_more xs i x within ∙ ap (λ y. take i xs ++ y ∷ []) (sym is))
    ∙ sym (flat_map_more f [] (take i xs) x)

-- there is room for them
pub parts_room : {X : Type 0} (f : X → List ℕ) (xs : List X) (i : ℕ) (x : X)
    → i < length xs → x ≡ get_or xs i x
    → length (flat_map f (take i xs)) + length (f x) ≤ length (flat_map f xs)
parts_room f xs i x within is =
    subst (λ y. length (flat_map f (take i xs)) + length (f y) ≤ length (flat_map f xs)) (sym is)
    (length-flat_map-take f xs i x within)

-- one part more of a list of them
pub more_put : {X : Type 0} (f : X → List ℕ) (xs : List X) (i : ℕ) (x : X) (at mid end : ℕ)
    (old between new : List ℕ) → i < length xs → x ≡ get_or xs i x
    → IsPut (flat_map f (take i xs)) at old mid between → IsPut (f x) mid between end new
    → IsPut (flat_map f (take (i + 1) xs)) at old end new
more_put f xs i x at mid end old between new within is first second =
    subst (λ (part : List ℕ). IsPut part at old end new) (sym (parts_more f xs i x within is))
    (both_put (flat_map f (take i xs)) (f x) at mid end old between new first second)
