-- Texts that are written one behind the other.
use Rattle.std.proofs.Common.{◌≡◌, ◌∙◌, ℕ, ◌+◌, ◌<◌, List, [], ◌∷◌, ◌++◌, Option, flat_map, take, drop, length, get_or, ap, sym, subst, append-nil, take-append-drop}
use Rattle.std.proofs.KnownBytes.{Appends-trans}
use Rattle.std.proofs.lemmas.Grind.{flat_map-append}
use Rattle.std.proofs.lemmas.List.{take_more}
use Rattle.std.specs.Io.KnownBytes.{Appends}
use Rattle.apex_history.specs.Counted.{AppendsBeginning}
use Rattle.apex_history.proofs.Passing.{beginning_behind, beginning_longer}

module _ {X : Type 0} (line : X → List ℕ) (xs : List X) (i : ℕ) (x : X) (within : i < length xs) (here : x ≡ get_or xs i x) where
  lines_more : flat_map line (take (i + 1) xs) ≡ flat_map line (take i xs) ++ line x
  lines_more = ap (flat_map line) (take_more xs i x within ∙ ap (λ y. take i xs ++ y ∷ []) (sym here))
      ∙ flat_map-append line (take i xs) (x ∷ []) ∙ ap (λ l. flat_map line (take i xs) ++ l) (append-nil (line x))

  -- one line more
  pub line_written : (a b c : Option (List ℕ)) → Appends a b (flat_map line (take i xs)) → Appends b c (line x)
      → Appends a c (flat_map line (take (i + 1) xs))
  line_written a b c first second =
      subst (Appends a c) (sym lines_more) (Appends-trans a b c (flat_map line (take i xs)) (line x) first second)

  -- a prefix of one line more
  pub line_begun : (a b c : Option (List ℕ)) → Appends a b (flat_map line (take i xs)) → AppendsBeginning b c (line x)
      → AppendsBeginning a c (flat_map line xs)
  line_begun a b c first second =
      subst (AppendsBeginning a c)
      (sym (flat_map-append line (take (i + 1) xs) (drop (i + 1) xs)) ∙ ap (flat_map line) (take-append-drop (i + 1) xs))
      (beginning_longer a c (flat_map line (take (i + 1) xs)) (flat_map line (drop (i + 1) xs))
      (subst (AppendsBeginning a c) (sym lines_more) (beginning_behind a b c (flat_map line (take i xs)) (line x) first second)))
