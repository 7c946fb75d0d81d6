-- Laws of truth values that the other files use.
use Rattle.std.proofs.Common.{◌≡◌, ◌≢◌, ℕ, Bool, true, false, ◌&&◌, ◌||◌, ◌==◌, refl, inl, inr}
use Rattle.std.proofs.lemmas.Bool.Decides.{eqb_tells}

pub or_false : (b : Bool) → (b || false) ≡ b
or_false true = refl
or_false false = refl

pub or_true : (b : Bool) → (b || true) ≡ true
or_true true = refl
or_true false = refl

pub and_false : (b : Bool) → (b && false) ≡ false
and_false true = refl
and_false false = refl

pub and_true : (b : Bool) → (b && true) ≡ b
and_true true = refl
and_true false = refl

-- if one of two does not hold, neither does
pub neither : (a b : Bool) → (a || b) ≡ false → (a ≡ false) × (b ≡ false)
neither true b e = cc
neither false b e = (refl, e)

-- two numbers that differ
pub other : (a b : ℕ) → a ≢ b → (a == b) ≡ false
other a b differs =
    elim (eqb_tells a b) [ inl same ↦ absurd (differs same.1) | inr apart ↦ apart.0 ]
