-- What holds of each item of a list holds of the last one.
use Rattle.std.proofs.Common.{◌≡◌, List, [], ◌∷◌, None, Some, subst}
use Rattle.std.proofs.lemmas.List.Elements.{All-head, All-tail}
use Rattle.std.specs.List.{All, last_or}

module _ {A : Type 0} (P : A → Type 0) where
  last_behind : (first : A) (xs : List A) (x : A) → P first → All P xs → last_or (Some first) xs ≡ Some x → P x
  last_behind first [] x holds all is = let same : first ≡ x = cc in subst P same holds
  last_behind first (next ∷ xs) x holds all is = last_behind next xs x (All-head P next xs all) (All-tail P next xs all) is

  pub all_last : (xs : List A) (x : A) → All P xs → last_or None xs ≡ Some x → P x
  all_last [] x all is = cc
  all_last (first ∷ xs) x all is = last_behind first xs x (All-head P first xs all) (All-tail P first xs all) is
