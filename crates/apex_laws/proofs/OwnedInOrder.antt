-- Each mutex is owned in order, in the subject's own words.
use Rattle.std.proofs.Common.{◌≡◌, ℕ, ◌<◌, ◌≤◌, true, false, List, [], ◌∷◌, length, max, get_or, ◌+◌, Option, None, Some, refl, sym, ◌∙◌, ap, inl, inr, cond, subst, arith, Bool}
use Rattle.std.proofs.lemmas.Bool.{both_ways, cases_Bool, eqb-true, or_parts}
use Rattle.std.proofs.lemmas.List.{get_or-map}
use Rattle.std.proofs.lemmas.List.Sums.{sum_by-cons}
use Rattle.std.proofs.lemmas.Option.{none-some, same_Some}
use Rattle.std.specs.List.{count_by}
use Rattle.apex_laws.specs.Terms.{Holding}
use Rattle.apex_laws.specs.Laws.{MutexesAreOwnedInOrder}
use Rattle.apex_machine.specs.processes.Held.{holding_of, holds, is_of, raised}
use Rattle.apex_machine.specs.Machine.{Machine}
use Rattle.apex_machine.specs.processes.Owners.{AreLawful, HasOrderlyOwners, depth_of}
use Rattle.apex_machine.specs.processes.Roster.{MutexRules, Roster, record_at, rules_of}
use Rattle.apex_machine.specs.table.Table.{Table, MutexConfig, mutex_config, no_mutex}
use Rattle.apex_machine.proofs.Held.{is_held, none_held}
use Rattle.apex_machine.proofs.Owners.{nobody_owns}

-- a process that owns a mutex holds it
record Holds (m : ℕ) (owned : List Holding) : Type 0 where
  holding : Holding
  held : holding_of m owned ≡ Some holding

holds_so : (m : ℕ) (owned : List Holding) → holds m owned ≡ true → Holds m owned
holds_so m owned e = found (holding_of m owned) refl where
  found : (o : Option Holding) → holding_of m owned ≡ o → Holds m owned
  found None is = absurd (both_ways _ (none_held m owned is) e)
  found (Some holding) is = record { holding = holding; held = is }

-- the greatest of a base and of ceilings is at least the base, and at least each ceiling
above_base : (owned : List Holding) (base : ℕ) → base ≤ raised base owned
above_base [] base = omega arith
above_base (holding ∷ owned) base = let above = above_base owned (max base holding.ceiling) in omega (arith, above)

above_ceiling : (m : ℕ) (holding : Holding) (owned : List Holding) (base : ℕ) → holding_of m owned ≡ Some holding
    → holding.ceiling ≤ raised base owned
above_ceiling m holding [] base is = absurd (none-some holding is)
above_ceiling m holding (first ∷ owned) base is = elim (cases_Bool (is_of m first)) [
  | inl e ↦
      let same : first ≡ holding = same_Some first holding (sym (ap (λ (b : Bool). cond b (Some first) (holding_of m owned)) e) ∙ is) in
      let above = above_base owned (max base first.ceiling) in
      subst (λ (h : Holding). h.ceiling ≤ raised (max base first.ceiling) owned) same (omega (arith, above))
  | inr e ↦
      above_ceiling m holding owned (max base first.ceiling)
      (sym (ap (λ (b : Bool). cond b (Some first) (holding_of m owned)) e) ∙ is)
]

-- one holding more
counted : (m : ℕ) (holding : Holding) (owned : List Holding) (b : Bool) → is_of m holding ≡ b
    → count_by (is_of m) (holding ∷ owned) ≡ cond b 1 0 + count_by (is_of m) owned
counted m holding owned b is =
    sum_by-cons (λ (h : Holding). cond (is_of m h) 1 0) holding owned ∙ ap (λ (c : Bool). cond c 1 0 + count_by (is_of m) owned) is

-- a mutex that is not held is counted nowhere, and one that is held lawfully is counted once
counted_nowhere : (m : ℕ) (owned : List Holding) → holds m owned ≡ false → count_by (is_of m) owned ≡ 0
counted_nowhere m [] e = refl
counted_nowhere m (holding ∷ owned) e =
    let parts = or_parts (is_of m holding) (holds m owned) e in
    omega (arith, counted m holding owned false parts.0, counted_nowhere m owned parts.1)

counted_once : (roster : Roster) (m : ℕ) (owned : List Holding) → AreLawful roster owned → count_by (is_of m) owned ≤ 1
counted_once roster m [] lawful = omega arith
counted_once roster m (holding ∷ owned) lawful = elim (cases_Bool (is_of m holding)) [
  | inl is ↦
      let other : holds m owned ≡ false = subst (λ (n : ℕ). holds n owned ≡ false) (eqb-true holding.mutex m is) lawful.1 in
      omega (arith, counted_nowhere m owned other, counted m holding owned true is)
  | inr is ↦ omega (arith, counted_once roster m owned lawful.2, counted m holding owned false is)
]

-- the ceiling that the roster has of a mutex is its entry's
ceiling_is : (table : Table) (rules : MutexRules) (m : ℕ) → rules ≡ rules_of table → m < length table.mutexes
    → get_or rules.ceilings m 0 ≡ (mutex_config table m).ceiling
ceiling_is table rules m same inside =
    ap (λ (r : MutexRules). get_or r.ceilings m 0) same ∙ get_or-map (λ (entry : MutexConfig). entry.ceiling) table.mutexes m no_mutex 0 inside

pub owned_in_order : (table : Table) (machine : Machine) → machine.roster.rules ≡ rules_of table → HasOrderlyOwners machine.roster
    → MutexesAreOwnedInOrder table machine
owned_in_order table machine same orderly m inside = record {
  one = orderly.one m;
  once = λ p. counted_once machine.roster m (record_at machine.roster p).owned (orderly.owned p).lawful;
  ceiling = λ p holding held.
      let is = is_held m holding (record_at machine.roster p).owned held in
      let lawful = is.lawful machine.roster (orderly.owned p).lawful in
      lawful.ceiling ∙ ap (get_or_at machine.roster.rules.ceilings) is.mutex ∙ ceiling_is table machine.roster.rules m same inside;
  raised = λ p owning.
      let owned = (record_at machine.roster p).owned in
      let so = holds_so m owned owning in
      let is = is_held m so.holding owned so.held in
      let lawful = is.lawful machine.roster (orderly.owned p).lawful in
      let ceiling : so.holding.ceiling ≡ (mutex_config table m).ceiling =
      lawful.ceiling ∙ ap (get_or_at machine.roster.rules.ceilings) is.mutex ∙ ceiling_is table machine.roster.rules m same inside in
      omega (arith, ceiling, above_ceiling m so.holding owned (record_at machine.roster p).base so.held);
  depth = λ p owning.
      let owned = (record_at machine.roster p).owned in
      let so = holds_so m owned owning in
      let range = ((is_held m so.holding owned so.held).lawful machine.roster (orderly.owned p).lawful).depth in
      let deep = ap depth_of so.held in
      (omega (arith, deep, range), omega (arith, deep, range));
  most = λ p. subst (λ (rules : MutexRules). length (record_at machine.roster p).owned ≤ rules.most_owned) same (orderly.owned p).few;
  waiters = λ p waits. (orderly.waiters p m waits).without;
  free = λ none p waits.
      let found = orderly.waiters p m waits in
      both_ways _ (nobody_owns machine.roster m none found.owner) found.owning;
} where
  get_or_at : List ℕ → ℕ → ℕ
  get_or_at ceilings n = get_or ceilings n 0
