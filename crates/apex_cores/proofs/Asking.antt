-- Threads that are asked for, one after the other.
use Rattle.std.proofs.Common.{◌≡◌, ℕ, zero, suc, ◌+◌, ◌<◌, Bool, true, refl, subst, sym, arith, ◌∙◌}
use Rattle.apex_cores.specs.Starts.{HaveAgreed, LacksThread}

agreed_next : {S : Type 0} (asks : S → ℕ → Bool → S → Type 0) (number n k : ℕ) (before middle after : S) → k ≡ number + n
    → HaveAgreed asks number n before middle → asks middle k true after → HaveAgreed asks number (suc n) before after
agreed_next asks number zero k before middle after is same next =
    (after, subst (λ s. asks s number true after) (sym same) (subst (λ j. asks middle j true after) (is ∙ omega arith) next), refl)
agreed_next asks number (suc n) k before middle after is (first, here, rest) next =
    (first, here, agreed_next asks (number + 1) n k first middle after (is ∙ omega arith) rest next)

-- one thread more is agreed to
pub agreed_more : {S : Type 0} (asks : S → ℕ → Bool → S → Type 0) (n k : ℕ) (before middle after : S)
    → HaveAgreed asks 0 n before middle → asks middle k true after → k ≡ n → HaveAgreed asks 0 (n + 1) before after
agreed_more asks n k before middle after begun next is =
    let same : suc n ≡ n + 1 = omega arith in
    let first : n ≡ 0 + n = omega arith in
    subst (λ m. HaveAgreed asks 0 m before after) same (agreed_next asks 0 n k before middle after (is ∙ first) begun next)

-- the thread that was asked for last did not start
pub lacks_this : {S : Type 0} (asks : S → ℕ → Bool → S → Type 0) (threads n k : ℕ) (before middle after : S)
    → HaveAgreed asks 0 n before middle → (answer : Bool) × asks middle k answer after → k ≡ n → n < threads
    → LacksThread asks threads before after
lacks_this asks threads n k before middle after agreed asked is below = record {
  number = n;
  below = below;
  last = middle;
  agreed = agreed;
  answer = asked.0;
  asked = subst (λ j. asks middle j asked.0 after) is asked.1;
}
