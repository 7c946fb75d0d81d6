-- Texts that are put one behind the other are put as one.
use Rattle.std.proofs.Common.{◌≡◌, ℕ, List, ◌++◌, ap, ◌∙◌, append_assoc}

-- four texts
pub four_joined : (line a b c d : List ℕ) → line ++ a ++ b ++ c ++ d ≡ line ++ (a ++ b ++ c ++ d)
four_joined line a b c d =
    ap (λ (l : List ℕ). l ++ c ++ d) (append_assoc line a b) ∙ ap (λ (l : List ℕ). l ++ d) (append_assoc line (a ++ b) c)
    ∙ append_assoc line (a ++ b ++ c) d

-- five texts
pub five_joined : (line a b c d e : List ℕ) → line ++ a ++ b ++ c ++ d ++ e ≡ line ++ (a ++ b ++ c ++ d ++ e)
five_joined line a b c d e =
    ap (λ (l : List ℕ). l ++ e) (four_joined line a b c d) ∙ append_assoc line (a ++ b ++ c ++ d) e
