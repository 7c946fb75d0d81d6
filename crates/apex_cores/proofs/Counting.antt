-- The length of a history is the number of the entries of its cores and of its ticker.
use Rattle.std.proofs.Common.{◌≡◌, ◌≢◌, ℕ, zero, suc, ◌+◌, ◌*◌, ◌<◌, ◌≤◌, ◌⊎◌, ◌==◌, Bool, true, false, List, [], ◌∷◌, length, refl, inl, inr, arith, rules, nat_lt, if◌then◌else◌}
use Rattle.std.proofs.lemmas.Bool.Decides.{nat_tests}
use Rattle.std.specs.List.{AllByRecursion}
use Rattle.apex_types.specs.declared.entries.Entry.{Entry}
use Rattle.apex_types.specs.declared.entries.Who.{Who}
use Rattle.apex_types.specs.declared.entries.Who.TheVariants.{Core, Ticker}
use Rattle.apex_receipts.specs.Receipts.{count_who, is_who}
use Rattle.apex_partition.specs.Seats.{IsOneOf}
use Rattle.apex_cores.specs.Plans.{IsDone, IsWithinPlan, Plan, planned}

-- the number of entries of the cores below n
abbrev pub owned : ℕ → List Entry → ℕ
owned zero history = 0
owned (suc n) history = owned n history + count_who (Core n) history

-- the maker is a core below n
abbrev pub is_below : ℕ → Who → Bool
is_below n (Core core) = nat_lt core n
is_below n Ticker = false

-- 1 if the test passes, else 0
abbrev pub one_if : Bool → ℕ
one_if b = if b then 1 else 0

count_cons : (who : Who) (e : Entry) (es : List Entry) → count_who who (e ∷ es) ≡ one_if (is_who who e.who) + count_who who es
count_cons who e es = at (is_who who e.who) refl where
  at : (b : Bool) → is_who who e.who ≡ b → count_who who (e ∷ es) ≡ one_if (is_who who e.who) + count_who who es
  at true is = rw is (search rules)
  at false is = rw is (search rules)

-- one core more has one entry more if the entry is its own
below_more : (n : ℕ) (who : Who) → one_if (is_below (suc n) who) ≡ one_if (is_below n who) + one_if (is_who (Core n) who)
below_more n (Core core) = grind (arith, nat_tests)
below_more n Ticker = refl

owned_cons : (n : ℕ) (e : Entry) (es : List Entry) → owned n (e ∷ es) ≡ one_if (is_below n e.who) + owned n es
owned_cons zero e es = at e.who where
  at : (who : Who) → 0 ≡ one_if (is_below 0 who) + 0
  at (Core core) = grind (arith, nat_tests)
  at Ticker = refl
owned_cons (suc n) e es = omega (arith, owned_cons n e es, count_cons (Core n) e es, below_more n e.who)

-- a history of n cores and of the ticker is as long as their entries are many
pub counted : (n : ℕ) (es : List Entry) → AllByRecursion (λ e. IsOneOf n e.who) es → length es ≡ owned n es + count_who Ticker es
counted n [] all = none n where
  none : (n : ℕ) → 0 ≡ owned n [] + 0
  none zero = refl
  none (suc n) = omega (arith, none n)
counted n (e ∷ es) all =
    let rest = counted n es all.1 in
    let one : one_if (is_below n e.who) + one_if (is_who Ticker e.who) ≡ 1 = of e.who all.0 in
    omega (arith, rest, one, owned_cons n e es, count_cons Ticker e es) where
      of : (who : Who) → IsOneOf n who → one_if (is_below n who) + one_if (is_who Ticker who) ≡ 1
      of (Core core) below = grind (arith, nat_tests)
      of Ticker below = refl

-- if no core has more than t entries, n cores have n * t at the most
pub owned_most : (n t : ℕ) (es : List Entry) → ((i : ℕ) → i < n → count_who (Core i) es ≤ t) → owned n es ≤ n * t
owned_most zero t es few = omega arith
owned_most (suc n) t es few =
    let one : count_who (Core n) es ≤ t = few n (omega arith) in
    let rest : owned n es ≤ n * t = owned_most n t es (λ i below. few i (omega arith)) in
    let product : suc n * t ≡ n * t + t = search rules in
    omega (arith, one, rest, product)

-- if they have n * t in all, each has t
pub owned_all : (n t : ℕ) (es : List Entry) → ((i : ℕ) → i < n → count_who (Core i) es ≤ t) → n * t ≤ owned n es
    → (i : ℕ) → i < n → count_who (Core i) es ≡ t
owned_all zero t es few many i below = absurd (omega arith)
owned_all (suc n) t es few many i below = at (owned_all n t es (λ k low. few k (omega arith))) (i == n) refl where
  one : count_who (Core n) es ≤ t
  one = few n (omega arith)

  product : suc n * t ≡ n * t + t
  product = search rules

  most : owned n es ≤ n * t
  most = owned_most n t es (λ k low. few k (omega arith))

  at : (n * t ≤ owned n es → (k : ℕ) → k < n → count_who (Core k) es ≡ t) → (b : Bool) → (i == n) ≡ b → count_who (Core i) es ≡ t
  at lower true is =
      let same : i ≡ n = grind (arith, nat_tests) in
      let here : count_who (Core n) es ≡ t = omega (arith, one, product, most, many) in
      rw same here
  at lower false is =
      let low : i < n = grind (arith, nat_tests) in
      lower (omega (arith, one, product, most, many)) i low

-- if each has t, they have n * t in all
pub owned_exact : (n t : ℕ) (es : List Entry) → ((i : ℕ) → i < n → count_who (Core i) es ≡ t) → owned n es ≡ n * t
owned_exact zero t es each = omega arith
owned_exact (suc n) t es each =
    let one : count_who (Core n) es ≡ t = each n (omega arith) in
    let rest : owned n es ≡ n * t = owned_exact n t es (λ i below. each i (omega arith)) in
    let product : suc n * t ≡ n * t + t = search rules in
    omega (arith, one, rest, product)

-- a worker has as many entries as were planned for it, or fewer if the history is at its limit
pub record IsWorked (most limit : ℕ) (history : List Entry) (count : ℕ) : Type 0 where
  pub few : count ≤ most
  pub whole : (count ≡ most) ⊎ (length history ≡ limit)

-- if all have worked, the plan is done or the history is at its limit
pub record HaveWorked (plan : Plan) (limit : ℕ) (es : List Entry) : Type 0 where
  pub planned_only : AllByRecursion (λ e. IsOneOf plan.cores e.who) es
  pub room : length es ≤ limit
  pub cores : (i : ℕ) → i < plan.cores → IsWorked plan.turns limit es (count_who (Core i) es)
  pub ticker : IsWorked plan.ticks limit es (count_who Ticker es)

-- if the history has room, the worker has made all
made : (n m limit : ℕ) (es : List Entry) → length es ≢ limit → (n ≡ m) ⊎ (length es ≡ limit) → n ≡ m
made n m limit es short (inl same) = same
made n m limit es short (inr full) = absurd (short full)

pub stays_within : (plan : Plan) (limit : ℕ) (es : List Entry) → HaveWorked plan limit es → IsWithinPlan plan es
stays_within plan limit es h = record { turns = λ i below. (h.cores i below).few; ticks = h.ticker.few }

-- a plan for which there is room is done
pub is_done : (plan : Plan) (limit : ℕ) (es : List Entry) → HaveWorked plan limit es → planned plan ≤ limit → IsDone plan es
is_done plan limit es h room = at (length es == limit) refl where
  all : length es ≡ owned plan.cores es + count_who Ticker es
  all = counted plan.cores es h.planned_only

  most : owned plan.cores es ≤ plan.cores * plan.turns
  most = owned_most plan.cores plan.turns es (λ i below. (h.cores i below).few)

  few : count_who Ticker es ≤ plan.ticks
  few = h.ticker.few

  at : (b : Bool) → (length es == limit) ≡ b → IsDone plan es
  at true is =
      let full : length es ≡ limit = grind (arith, nat_tests) in record {
        turns = owned_all plan.cores plan.turns es (λ i below. (h.cores i below).few) (omega (arith, full, all, most, few, room));
        ticks = omega (arith, full, all, most, few, room);
      }
  at false is =
      let short : length es ≢ limit = grind (arith, nat_tests) in record {
        turns = λ i below. made _ _ limit es short (h.cores i below).whole;
        ticks = made _ _ limit es short h.ticker.whole;
      }

-- and one for which there is none leaves the history at its limit
pub is_full : (plan : Plan) (limit : ℕ) (es : List Entry) → HaveWorked plan limit es → limit < planned plan → length es ≡ limit
is_full plan limit es h many = at (length es == limit) refl where
  at : (b : Bool) → (length es == limit) ≡ b → length es ≡ limit
  at true is = grind (arith, nat_tests)
  at false is =
      let short : length es ≢ limit = grind (arith, nat_tests) in
      let each : (i : ℕ) → i < plan.cores → count_who (Core i) es ≡ plan.turns = λ i below. made _ _ limit es short (h.cores i below).whole in
      let all = counted plan.cores es h.planned_only in
      let sum = owned_exact plan.cores plan.turns es each in
      let ticks : count_who Ticker es ≡ plan.ticks = made _ _ limit es short h.ticker.whole in
      let room : length es ≤ limit = h.room in
      absurd (omega (arith, all, sum, ticks, room, many))
