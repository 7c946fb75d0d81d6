-- A text that is put together of parts.
use Rattle.std.proofs.Common.{◌≡◌, ◌∙◌, ℕ, List, ◌++◌, ap, append_assoc}

-- the next part follows those before it
pub more : (begun so_far text next part : List ℕ) → text ≡ begun ++ so_far → next ≡ text ++ part → next ≡ begun ++ (so_far ++ part)
more begun so_far text next part is put = put ∙ ap (λ l. l ++ part) is ∙ append_assoc begun so_far part
