-- What is made of each element of a list.
use Rattle.std.proofs.Common.{◌≡◌, ◌∙◌, ◌++◌, ◌+◌, ◌<◌, ℕ, List, [], ◌∷◌, ap, drop, length, map, refl, slice_index_or, sym}
use Rattle.std.proofs.lemmas.Bool.{false_from_ne_true}
use Rattle.std.proofs.lemmas.List.{append_assoc, drop_more, map-append}
use Rattle.std.proofs.lemmas.Str.{IsUtf8-from_is_utf8, is_utf8-from_IsUtf8}
use Rattle.std.specs.Str.{IsUtf8, is_utf8}
use Rattle.apex_remarks.specs.Details.{text_of}

module _ {A B C : Type 0} (f : A → B) (g : C → B) where
  -- what is made so far, and of the elements that are left, one element further
  pub one_further : (before after : List A) (next : A) (whole : List B) (elements : List C) (i : ℕ) (d : C)
      → map f before ++ map g (drop i elements) ≡ whole → i < length elements → f next ≡ g (slice_index_or elements i d)
      → after ≡ before ++ next ∷ [] → map f after ++ map g (drop (i + 1) elements) ≡ whole
  one_further before after next whole elements i d so_far within is more =
      let left = map g (drop (i + 1) elements) in
      ap (λ (xs : List A). map f xs ++ left) more
      ∙ ap (λ (ys : List B). ys ++ left) (map-append f before (next ∷ []))
      ∙ append_assoc (map f before) (f next ∷ []) left
      ∙ ap (λ (y : B). map f before ++ (y ∷ left)) is
      ∙ ap (λ (cs : List C). map f before ++ map g cs) (sym (drop_more elements i d within))
      ∙ so_far

-- what is made of each of the things that are made
pub heads_made : {X Y Z : Type 0} (f : Y → Z) (g : X → Y) (xs : List X) → map f (map g xs) ≡ map (λ x. f (g x)) xs
heads_made f g [] = refl
heads_made f g (x ∷ xs) = ap (λ zs. f (g x) ∷ zs) (heads_made f g xs)

-- the text of bytes that are one, and of others
pub text_stays : (bs : List ℕ) → IsUtf8 bs → text_of bs ≡ bs
text_stays bs is = rw (is_utf8-from_IsUtf8 bs is) refl

pub no_text_is_empty : (bs : List ℕ) → ¬ (IsUtf8 bs) → text_of bs ≡ []
no_text_is_empty bs broken = rw (false_from_ne_true (is_utf8 bs) (λ e. broken (IsUtf8-from_is_utf8 bs e))) refl
