-- The bytes in which two lines are the same, by a place in both.
use Rattle.std.proofs.Common.{◌≡◌, ◌∙◌, ℕ, ◌+◌, ◌≤◌, ◌<◌, List, [], ◌∷◌, false, true, refl, ap, length, drop, get_or}
use Rattle.std.specs.Prelude.{◌==◌}
use Rattle.std.specs.List.{common_prefix_len}
use Rattle.std.proofs.lemmas.List.{drop_all}
use Rattle.std.proofs.lemmas.List.Sums.{common_prefix_len-drop_no, common_prefix_len-drop_yes}

none_left : (one : List ℕ) → common_prefix_len ◌==◌ one [] ≡ 0
none_left [] = refl
none_left (byte ∷ rest) = refl

module _ (one other : List ℕ) (at : ℕ) where
  pub ends_one : length one ≤ at → common_prefix_len ◌==◌ (drop at one) (drop at other) ≡ 0
  ends_one end = ap (λ l. common_prefix_len ◌==◌ l (drop at other)) (drop_all at one end)

  pub ends_other : length other ≤ at → common_prefix_len ◌==◌ (drop at one) (drop at other) ≡ 0
  ends_other end = ap (common_prefix_len ◌==◌ (drop at one)) (drop_all at other end) ∙ none_left (drop at one)

  pub differs : (c d : ℕ) → at < length one → at < length other → (get_or one at c == get_or other at d) ≡ false
      → common_prefix_len ◌==◌ (drop at one) (drop at other) ≡ 0
  differs c d one_in other_in is = common_prefix_len-drop_no ◌==◌ one other at c d one_in other_in is

  pub one_more : (c d : ℕ) → at < length one → at < length other → (get_or one at c == get_or other at d) ≡ true
      → common_prefix_len ◌==◌ (drop at one) (drop at other) ≡ 1 + common_prefix_len ◌==◌ (drop (at + 1) one) (drop (at + 1) other)
  one_more c d one_in other_in is = common_prefix_len-drop_yes ◌==◌ one other at c d one_in other_in is
