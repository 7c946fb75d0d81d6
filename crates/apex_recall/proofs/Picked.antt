-- What a test picks of a list, one element more.
use Rattle.std.proofs.Common.{◌≡◌, ℕ, ◌+◌, ◌<◌, List, [], ◌∷◌, ◌++◌, length, get_or, take, ap, ◌∙◌, Option, None, Some}
use Rattle.std.specs.List.{cons_option, filter_map}
use Rattle.std.proofs.lemmas.List.{take_more, append-nil}
use Rattle.std.proofs.lemmas.List.Elements.{filter_map-append}

more : {X Y : Type 0} (h : X → Option Y) (xs : List X) (i : ℕ) (d : X) → i < length xs
    → filter_map h (take (i + 1) xs)
    ≡ filter_map h (take i xs) ++ cons_option (h (get_or xs i d)) []
more h xs i d within =
    ap (filter_map h) (take_more xs i d within) ∙ filter_map-append h (take i xs) (get_or xs i d ∷ [])

-- the next element gives something
pub picked_more : {X Y : Type 0} (h : X → Option Y) (xs : List X) (i : ℕ) (d : X) (y : Y)
    → i < length xs → h (get_or xs i d) ≡ Some y
    → filter_map h (take (i + 1) xs) ≡ filter_map h (take i xs) ++ y ∷ []
picked_more h xs i d y within is =
    more h xs i d within ∙ ap (λ o. filter_map h (take i xs) ++ cons_option o []) is

-- the next element gives nothing
pub picked_same : {X Y : Type 0} (h : X → Option Y) (xs : List X) (i : ℕ) (d : X)
    → i < length xs → h (get_or xs i d) ≡ None
    → filter_map h (take (i + 1) xs) ≡ filter_map h (take i xs)
picked_same h xs i d within is =
    more h xs i d within ∙ ap (λ o. filter_map h (take i xs) ++ cons_option o []) is
    ∙ append-nil (filter_map h (take i xs))
