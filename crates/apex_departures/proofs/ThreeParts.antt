-- Parts that were put, one behind the other.
use Rattle.std.proofs.Common.{◌≡◌, ◌∙◌, ℕ, List, ◌++◌, Result, ap, append_assoc}
use Rattle.std.specs.Prelude.{OnOk}
use Rattle.std.proofs.lemmas.Result.{on_ok_weaker}

-- three parts, of which the last was put if its call went well
pub three_parts : {T E : Type 0} (r : Result T E) (old one two three first second new : List ℕ) → first ≡ old ++ one → second ≡ first ++ two
    → OnOk r (new ≡ second ++ three) → OnOk r (new ≡ old ++ (one ++ (two ++ three)))
three_parts r old one two three first second new front middle last =
    let before : second ≡ (old ++ one) ++ two = middle ∙ ap (λ (l : List ℕ). l ++ two) front in
    on_ok_weaker r (λ is. is ∙ ap (λ (l : List ℕ). l ++ three) before ∙ append_assoc (old ++ one) two three ∙ append_assoc old one (two ++ three)) last
