-- Owners and waiters of mutexes: the facts that changes of processes keep.
use Rattle.std.proofs.Common.{◌≡◌, ◌≢◌, ℕ, ◌≤◌, ◌⊎◌, true, false, List, [], ◌∷◌, length, get_or, Option, None, Some, refl, sym, ◌∙◌, ap, subst, inl, inr}
use Rattle.std.proofs.lemmas.List.{get_or_past}
use Rattle.std.proofs.lemmas.List.Quantifiers.{position-Some}
use Rattle.std.proofs.lemmas.Bool.{both_ways, cases_Bool, cases_eq, cases_lt, eqb-true, or_from, or_right}
use Rattle.apex_machine.specs.Terms.{Holding, Record, Wait}
use Rattle.apex_machine.specs.declared.records.Wait.TheVariants.{Mutex}
use Rattle.apex_machine.specs.processes.Held.{holds, is_of}
use Rattle.apex_machine.specs.processes.Owners.{AreLawful, AreLawfullyOwned, HasOrderlyOwners, IsLawfulHolding, WaitsForOwner, owner, owns}
use Rattle.apex_machine.specs.processes.Roster.{MutexRules, Roster, nobody, record_at}
use Rattle.apex_machine.proofs.Dues.{position_none}
use Rattle.apex_machine.proofs.Replaces.{Replaces, each_stays}

-- the owner that is found owns the mutex; if none is found, no process owns it
pub owner_owns : (roster : Roster) (m p : ℕ) → owner roster m ≡ Some p → owns m (record_at roster p) ≡ true
owner_owns roster m p e = (position-Some (owns m) roster.records p nobody e).1

pub nobody_owns : (roster : Roster) (m : ℕ) → owner roster m ≡ None → (q : ℕ) → owns m (record_at roster q) ≡ false
nobody_owns roster m none q = elim (cases_lt q (length roster.records)) [
  | inl within ↦ position_none (owns m) roster.records none q within
  | inr past ↦ ap (owns m) (get_or_past roster.records q nobody past)
]

-- each process owns what it owned, and a process that waits for a mutex waited for it
pub record KeepsOwners (old new : Roster) : Type 0 where
  pub rules : new.rules ≡ old.rules
  pub owned : (q : ℕ) → (record_at new q).owned ≡ (record_at old q).owned
  pub mutex : (q m : ℕ) → (record_at new q).wait ≡ Some (Mutex m) → (record_at old q).wait ≡ Some (Mutex m)

-- the rules stay, and so do lawful holdings
lawful_still : (old new : Roster) → new.rules ≡ old.rules → (holding : Holding) → IsLawfulHolding old holding → IsLawfulHolding new holding
lawful_still old new same holding lawful = record {
  ceiling = lawful.ceiling ∙ ap (λ (rules : MutexRules). get_or rules.ceilings holding.mutex 0) (sym same);
  depth = lawful.depth;
}

all_lawful_still : (old new : Roster) → new.rules ≡ old.rules → (held : List Holding) → AreLawful old held → AreLawful new held
all_lawful_still old new same [] lawful = tt
all_lawful_still old new same (holding ∷ held) lawful =
    (lawful_still old new same holding lawful.0, lawful.1, all_lawful_still old new same held lawful.2)

owned_still : (old new : Roster) → new.rules ≡ old.rules → (owned : List Holding) → AreLawfullyOwned old owned → AreLawfullyOwned new owned
owned_still old new same owned lawful = record {
  lawful = all_lawful_still old new same owned lawful.lawful;
  few = subst (λ (rules : MutexRules). length owned ≤ rules.most_owned) (sym same) lawful.few;
}

-- so the mutexes are owned in order as before
pub owners_kept : (old new : Roster) → KeepsOwners old new → HasOrderlyOwners old → HasOrderlyOwners new
owners_kept old new keeps before = record {
  most = subst (λ (rules : MutexRules). 1 ≤ rules.most_owned) (sym keeps.rules) before.most;
  owned = λ p.
      subst (AreLawfullyOwned new) (sym (keeps.owned p))
      (owned_still old new keeps.rules (record_at old p).owned (before.owned p));
  one = λ m p q first second. before.one m p q (sym (ap (holds m) (keeps.owned p)) ∙ first) (sym (ap (holds m) (keeps.owned q)) ∙ second);
  waiters = λ p m is.
      let waits = before.waiters p m (keeps.mutex p m is) in
      record { without = keeps.owned p ∙ waits.without; owner = waits.owner; owning = ap (holds m) (keeps.owned waits.owner) ∙ waits.owning };
}

-- the record owns what process p owned, and waits only for a mutex for which the process waited
pub record IsSameOwner (roster : Roster) (p : ℕ) (r : Record) : Type 0 where
  pub owned : r.owned ≡ (record_at roster p).owned
  pub mutex : (m : ℕ) → r.wait ≡ Some (Mutex m) → (record_at roster p).wait ≡ Some (Mutex m)

module _ {most : ℕ} {old new : Roster} {p : ℕ} {r : Record} (has : Replaces most old new p r) where
  pub same_owner : IsSameOwner old p r → KeepsOwners old new
  same_owner same = record {
    rules = has.rules;
    owned = each_stays has (λ s t. t.owned ≡ s.owned) (λ _. refl) same.owned;
    mutex = each_stays has (λ s t. (m : ℕ) → t.wait ≡ Some (Mutex m) → s.wait ≡ Some (Mutex m)) (λ _ m is. is) same.mutex;
  }

-- mutexes are owned in order but for these, which are held lawfully and which no process owns, so
-- that a process that waits for one of them has no owner to wait for
pub record AreOwnedBut (lost : List Holding) (roster : Roster) : Type 0 where
  pub most : 1 ≤ roster.rules.most_owned
  pub owned : (p : ℕ) → AreLawfullyOwned roster (record_at roster p).owned
  pub one : (n p q : ℕ) → owns n (record_at roster p) ≡ true → owns n (record_at roster q) ≡ true → p ≡ q
  pub without : (p n : ℕ) → (record_at roster p).wait ≡ Some (Mutex n) → (record_at roster p).owned ≡ []
  pub waiters : (p n : ℕ) → holds n lost ≡ false → (record_at roster p).wait ≡ Some (Mutex n) → WaitsForOwner roster p n
  pub lawful : AreLawful roster lost
  pub free : (n q : ℕ) → holds n lost ≡ true → owns n (record_at roster q) ≡ false

pub but_none : (roster : Roster) → HasOrderlyOwners roster → AreOwnedBut [] roster
but_none roster orderly = record {
  most = orderly.most;
  owned = orderly.owned;
  one = orderly.one;
  without = λ p n is. (orderly.waiters p n is).without;
  waiters = λ p n _ is. orderly.waiters p n is;
  lawful = tt;
  free = λ n q none. absurd (both_ways false refl none);
}

pub all_owned : (roster : Roster) → AreOwnedBut [] roster → HasOrderlyOwners roster
all_owned roster but = record {
  most = but.most;
  owned = but.owned;
  one = but.one;
  waiters = λ p n is. but.waiters p n refl is;
}

-- if no process waits for a mutex, it is no exception
pub none_waiting : (roster : Roster) (holding : Holding) (lost : List Holding) → AreOwnedBut (holding ∷ lost) roster
    → ((p : ℕ) → (record_at roster p).wait ≡ Some (Mutex holding.mutex) → ⊥) → AreOwnedBut lost roster
none_waiting roster holding lost but nobody_waits = record {
  most = but.most;
  owned = but.owned;
  one = but.one;
  without = but.without;
  waiters = λ p n apart is. elim (cases_Bool (is_of n holding)) [
    | inl same ↦ absurd (nobody_waits p (is ∙ ap (λ (k : ℕ). Some (Mutex k)) (sym (eqb-true holding.mutex n same))))
    | inr other ↦ but.waiters p n (or_from _ _ other apart) is
  ];
  lawful = but.lawful.2;
  free = λ n q is. but.free n q (or_right (is_of n holding) (holds n lost) is);
}

-- process p owns these mutexes from now on; `lost` were lost before and `left` are afterwards: a
-- mutex that it owns it owned, or no process did; and a mutex that it owned, or that was lost, it
-- owns or is lost
pub record Hands (roster : Roster) (p : ℕ) (owned lost left : List Holding) : Type 0 where
  pub lawful : AreLawfullyOwned roster owned
  pub others : AreLawful roster left
  pub fresh : (n : ℕ) → holds n owned ≡ true → (owns n (record_at roster p) ≡ true) ⊎ ((q : ℕ) → owns n (record_at roster q) ≡ false)
  pub gone : (n : ℕ) → holds n left ≡ true → (holds n owned ≡ false) × ((q : ℕ) → q ≢ p → owns n (record_at roster q) ≡ false)
  pub kept : (n : ℕ) → owns n (record_at roster p) ≡ true → holds n left ≡ false → holds n owned ≡ true
  pub taken : (n : ℕ) → holds n lost ≡ true → holds n left ≡ false → holds n owned ≡ true

-- so mutexes are owned in order but for those that are lost afterwards
module _ {most : ℕ} {old new : Roster} {p : ℕ} {r : Record} (has : Replaces most old new p r) (lost left : List Holding)
    (but : AreOwnedBut lost old) (hands : Hands old p r.owned lost left)
    (idle : (n : ℕ) → r.wait ≡ Some (Mutex n) → ⊥) where
  owns_here : (n : ℕ) → owns n (record_at new p) ≡ holds n r.owned
  owns_here n = ap (owns n) has.here

  owns_there : (n q : ℕ) → q ≢ p → owns n (record_at new q) ≡ owns n (record_at old q)
  owns_there n q apart = ap (owns n) (has.others q apart)

  owned_there : (q : ℕ) → AreLawfullyOwned new (record_at new q).owned
  owned_there q = elim (cases_eq q p) [
    | inl same ↦
        subst (λ (k : ℕ). AreLawfullyOwned new (record_at new k).owned) (sym same)
        (subst (λ (s : Record). AreLawfullyOwned new s.owned) (sym has.here) (owned_still old new has.rules r.owned hands.lawful))
    | inr apart ↦
        subst (λ (s : Record). AreLawfullyOwned new s.owned) (sym (has.others q apart))
        (owned_still old new has.rules (record_at old q).owned (but.owned q))
  ]

  alone : (n q : ℕ) → q ≢ p → owns n (record_at new p) ≡ true → owns n (record_at new q) ≡ true → ⊥
  alone n q apart mine its =
      let theirs : owns n (record_at old q) ≡ true = sym (owns_there n q apart) ∙ its in
      elim (hands.fresh n (sym (owns_here n) ∙ mine)) [
        | inl had ↦ apart (but.one n q p theirs had)
        | inr nobody_did ↦ both_ways _ (nobody_did q) theirs
      ]

  owns_as : (n q : ℕ) → q ≡ p → owns n (record_at new q) ≡ true → owns n (record_at new p) ≡ true
  owns_as n q same is = sym (ap (λ (k : ℕ). owns n (record_at new k)) same) ∙ is

  one_owner : (n q s : ℕ) → owns n (record_at new q) ≡ true → owns n (record_at new s) ≡ true → q ≡ s
  one_owner n q s first second = elim (cases_eq q p) [
    | inl at_p ↦ elim (cases_eq s p) [
      | inl there ↦ at_p ∙ sym there
      | inr apart ↦ absurd (alone n s apart (owns_as n q at_p first) second)
    ]
    | inr apart ↦ elim (cases_eq s p) [
      | inl there ↦ absurd (alone n q apart (owns_as n s there second) first)
      | inr other ↦ but.one n q s (sym (owns_there n q apart) ∙ first) (sym (owns_there n s other) ∙ second)
    ]
  ]

  waited_before : (q n : ℕ) → (record_at new q).wait ≡ Some (Mutex n) → (q ≢ p) × ((record_at old q).wait ≡ Some (Mutex n))
  waited_before q n is = elim (cases_eq q p) [
    | inl same ↦ absurd (idle n (sym (ap (λ (x : Record). x.wait) has.here) ∙ sym (ap (λ (k : ℕ). (record_at new k).wait) same) ∙ is))
    | inr apart ↦ (apart, sym (ap (λ (x : Record). x.wait) (has.others q apart)) ∙ is)
  ]

  owns_none : (q n : ℕ) → (record_at new q).wait ≡ Some (Mutex n) → (record_at new q).owned ≡ []
  owns_none q n is =
      let before = waited_before q n is in
      ap (λ (x : Record). x.owned) (has.others q before.0) ∙ but.without q n before.1

  waits_still : (q n : ℕ) → holds n left ≡ false → (record_at new q).wait ≡ Some (Mutex n) → WaitsForOwner new q n
  waits_still q n stays is =
      let before = waited_before q n is in
      elim (cases_Bool (holds n lost)) [
        | inl was ↦ record { without = owns_none q n is; owner = p; owning = owns_here n ∙ hands.taken n was stays }
        | inr was ↦
            let waits = but.waiters q n was before.1 in
            elim (cases_eq waits.owner p) [
              | inl same ↦
                  let had : owns n (record_at old p) ≡ true = sym (ap (λ (k : ℕ). owns n (record_at old k)) same) ∙ waits.owning in
                  record { without = owns_none q n is; owner = p; owning = owns_here n ∙ hands.kept n had stays }
              | inr another ↦ record {
                without = owns_none q n is;
                owner = waits.owner;
                owning = owns_there n waits.owner another ∙ waits.owning;
              }
            ]
      ]

  pub owned_then : AreOwnedBut left new
  owned_then = record {
    most = subst (λ (rules : MutexRules). 1 ≤ rules.most_owned) (sym has.rules) but.most;
    owned = owned_there;
    one = one_owner;
    without = owns_none;
    waiters = waits_still;
    lawful = all_lawful_still old new has.rules left hands.others;
    free = λ n q is. elim (cases_eq q p) [
      | inl same ↦ ap (λ (k : ℕ). owns n (record_at new k)) same ∙ owns_here n ∙ (hands.gone n is).0
      | inr apart ↦ owns_there n q apart ∙ (hands.gone n is).1 q apart
    ];
  }

-- the mutex that is waited for
abbrev mutex_of : Option Wait → ℕ
mutex_of (Some (Mutex m)) = m
mutex_of _ = 0

-- process p, which owns none, begins to wait for mutex m, which another owns
module _ {most : ℕ} {old new : Roster} {p : ℕ} {r : Record} (has : Replaces most old new p r) (m : ℕ) (orderly : HasOrderlyOwners old)
    (same : r.owned ≡ (record_at old p).owned) (without : (record_at old p).owned ≡ []) (waits : r.wait ≡ Some (Mutex m))
    (other : ℕ) (owning : owns m (record_at old other) ≡ true) where
  same_owned : (q : ℕ) → (record_at new q).owned ≡ (record_at old q).owned
  same_owned = each_stays has (λ s t. t.owned ≡ s.owned) (λ _. refl) same

  pub owners_waiting : HasOrderlyOwners new
  owners_waiting = record {
    most = subst (λ (rules : MutexRules). 1 ≤ rules.most_owned) (sym has.rules) orderly.most;
    owned = λ q.
        subst (AreLawfullyOwned new) (sym (same_owned q))
        (owned_still old new has.rules (record_at old q).owned (orderly.owned q));
    one = λ n q s first second. orderly.one n q s (sym (ap (holds n) (same_owned q)) ∙ first) (sym (ap (holds n) (same_owned s)) ∙ second);
    waiters = λ q n is. elim (cases_eq q p) [
      | inl e ↦
          let it : Some (Mutex m) ≡ Some (Mutex n) = sym (ap (λ (x : Record). x.wait) has.here ∙ waits) ∙ sym (ap (λ (k : ℕ). (record_at new k).wait) e) ∙ is in
          record {
            without = same_owned q ∙ ap (λ (k : ℕ). (record_at old k).owned) e ∙ without;
            owner = other;
            owning = ap (holds n) (same_owned other) ∙ ap (λ w. owns (mutex_of w) (record_at old other)) (sym it) ∙ owning;
          }
      | inr apart ↦
          let before = orderly.waiters q n (sym (ap (λ (x : Record). x.wait) (has.others q apart)) ∙ is) in
          record { without = same_owned q ∙ before.without; owner = before.owner; owning = ap (holds n) (same_owned before.owner) ∙ before.owning }
    ];
  }
