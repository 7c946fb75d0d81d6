-- The owner of each mutex: the bits of the words, and how they follow the records.
use Rattle.std.proofs.Common.{◌≡◌, ◌≢◌, ◌||◌, ◌++◌, drop, Bool, ℕ, zero, suc, ◌+◌, ◌-◌, ◌*◌, ◌/◌, ◌%◌, ◌^◌, ◌<◌, ◌≤◌, true, false, List, [], ◌∷◌, length, get_or, set, replicate, Option, None, Some, IfSome, inl, inr, refl, ap, sym, ◌∙◌, arith}
use Rattle.std.specs.Prelude.{◌==◌, if◌then◌else◌, bit_and, bit_or}
use Rattle.std.specs.Int.{bit_at, bit_not, w64}
use Rattle.std.specs.Option.{MatchOption}
use lib.Count.{count_leading_zeros}
use Rattle.std.proofs.lemmas.Bool.{cases_eq, cases_lt, cond_both, eq-eqb, false_from_ne_true, false≢true, ne_eqb, or_from, or_left, or_right, le-ltb, lt-ltb}
use Rattle.std.proofs.lemmas.List.{drop_all, get_or_default, get_or_past, get_or-set_other, get_or-set_same}
use Rattle.std.proofs.lemmas.List.Sums.{position_or_len_is}
use Rattle.std.proofs.lemmas.Nat.{leading_top}
use Rattle.std.proofs.Math.Nat.{div-eq_of_lt-le, pow-suc}
use Rattle.std.proofs.lemmas.Nat.Bits.{bit_at-zero, bit_at_above, bit_at_set_same, bit_at_set_other, bit_at_clear_same, bit_at_clear_other}
use Rattle.apex_types.specs.declared.limits.TheConstants.{MOST_PROCESSES}
use Rattle.apex_machine.specs.declared.holdings.Holding.{Holding}
use Rattle.apex_machine.specs.declared.records.Record.{Record}
use Rattle.apex_machine.specs.declared.records.Wait.TheVariants.{Normal, Start}
use Rattle.apex_machine.specs.processes.Held.{holds, is_of}
use Rattle.apex_machine.specs.processes.Owners.{owner, owns}
use Rattle.apex_machine.specs.processes.Roster.{Roster, nobody, record_at}
use Rattle.apex_machine.specs.processes.Stamps as stamps
use Rattle.apex_machine.proofs.Held.{holds_more, or_false}
use Rattle.apex_machine.proofs.Replaces.{Replaces, each_stays, replaces_newest, replaces_readied, replaces_record}
use Rattle.apex_links.specs.declared.numbers.TheConstants.{ID_PLACES}
use Rattle.apex_process.specs.Owners.{is_among, is_owner, most_owners, AreOwners, IsFirstAmong, IsFirstOwner, IsUnowned}
use Rattle.apex_process.proofs.Starting.{start_cases}

-- a bit of a word is set, or cleared
among_set : (word p q : ℕ) → p < most_owners → q < most_owners → is_among (bit_or word (1 * 2 ^ (63 - p) % 2 ^ 64)) q ≡ (if q == p then true else is_among word q)
among_set word p q low low' = elim (cases_eq q p) as (λ _. is_among (bit_or word (1 * 2 ^ (63 - p) % 2 ^ 64)) q ≡ (if q == p then true else is_among word q)) [
  | inl e ↦
      let here : (q == p) ≡ true = grind (arith, e) in
      let set : bit_at (bit_or word (1 * 2 ^ (63 - p) % 2 ^ 64)) (63 - p) ≡ 1 = bit_at_set_same w64 word (63 - p) (omega arith) in
      rw (here, e, set) refl
  | inr apart ↦
      let other : (q == p) ≡ false = grind (arith, apart) in
      rw (other, bit_at_set_other w64 word (63 - p) (omega arith) (63 - q) (λ e. apart (omega (arith, e, low, low')))) refl
]

among_clear : (word p q : ℕ) → p < most_owners → q < most_owners → is_among (bit_and word (bit_not w64 (1 * 2 ^ (63 - p) % 2 ^ 64))) q ≡ (if q == p then false else is_among word q)
among_clear word p q low low' = elim (cases_eq q p) as (λ _. is_among (bit_and word (bit_not w64 (1 * 2 ^ (63 - p) % 2 ^ 64))) q ≡ (if q == p then false else is_among word q)) [
  | inl e ↦
      let here : (q == p) ≡ true = grind (arith, e) in
      let clear : bit_at (bit_and word (bit_not w64 (1 * 2 ^ (63 - p) % 2 ^ 64))) (63 - p) ≡ 0 = bit_at_clear_same w64 word (63 - p) (omega arith) in
      rw (here, e, clear) refl
  | inr apart ↦
      let other : (q == p) ≡ false = grind (arith, apart) in
      rw (other, bit_at_clear_other w64 word (63 - p) (omega arith) (63 - q) (omega arith) (λ e. apart (omega (arith, e, low, low')))) refl
]

module _ (words : List ℕ) (m p : ℕ) (known : m < length words) (low : p < most_owners) where
  module _ (value : ℕ) (read : value ≡ get_or words m value) where
    is_value : get_or words m 0 ≡ value
    is_value = sym (read ∙ get_or_default words m value 0 known)

    pub added : (q : ℕ) → q < most_owners → is_owner (set words m (bit_or value (1 * 2 ^ (63 - p) % 2 ^ 64))) m q ≡ (if q == p then true else is_owner words m q)
    added q low' = rw (get_or-set_same words m (bit_or value (1 * 2 ^ (63 - p) % 2 ^ 64)) 0 known, is_value) (among_set value p q low low')

    pub removed_from : (q : ℕ) → q < most_owners → is_owner (set words m (bit_and value (bit_not w64 (1 * 2 ^ (63 - p) % 2 ^ 64)))) m q ≡ (if q == p then false else is_owner words m q)
    removed_from q low' = rw (get_or-set_same words m (bit_and value (bit_not w64 (1 * 2 ^ (63 - p) % 2 ^ 64))) 0 known, is_value) (among_clear value p q low low')

pub other_mutex : (words : List ℕ) (m n word p : ℕ) → n ≢ m → is_owner (set words m word) n p ≡ is_owner words n p
other_mutex words m n word p apart = rw (get_or-set_other words m n word 0 apart) refl

pub none_owned : (many m p : ℕ) → is_owner (replicate {A = ℕ} many 0) m p ≡ false
none_owned many m p = rw (zeros many m, bit_at-zero (63 - p)) refl where
  zeros : (many i : ℕ) → get_or (replicate {A = ℕ} many 0) i 0 ≡ 0
  zeros zero i = refl
  zeros (suc many) zero = refl
  zeros (suc many) (suc i) = zeros many i

-- the first owner is at the end of the word's zeros
top_bit : (word j : ℕ) → 2 ^ j ≤ word → word < 2 ^ suc j → bit_at word j ≡ 1
top_bit word j least most =
    let e : word / 2 ^ j ≡ 1 = div-eq_of_lt-le (2 ^ j) (omega (arith, least)) (omega (arith, most, pow-suc 2 j)) in
    rw e refl

pub first_among : (word : ℕ) → 0 < word → word < 2 ^ 64 → IsFirstAmong word (count_leading_zeros 64 word)
first_among word some fits =
    let top = leading_top 64 word some fits in
    let place : 63 - count_leading_zeros 64 word ≡ top.0 = omega (arith, top.1) in
    record {
      known = omega (arith, top.1);
      set = rw (place, top_bit word top.0 top.2 top.3) refl;
      first = λ q below. rw (bit_at_above word (suc top.0) (63 - q) top.3 (omega (arith, below, top.1))) refl;
    }

pub read_word : (words : List ℕ) (m value : ℕ) → m < length words → value ≡ get_or words m value → get_or words m 0 ≡ value
read_word words m value known read = sym (read ∙ get_or_default words m value 0 known)

pub none_among : (words : List ℕ) (m : ℕ) → get_or words m 0 ≡ 0 → IsUnowned words m
none_among words m none p low = rw (none, bit_at-zero (63 - p)) refl

-- process p, which owns none but these, no longer owns the first of them
pub leaves_one : (olds news : List ℕ) (p : ℕ) (holding : Holding) (rest : List Holding) → p < most_owners
    → ((m : ℕ) → m < ID_PLACES → is_owner olds m p ≡ true → holds m (holding ∷ rest) ≡ true)
    → ((q : ℕ) → q < most_owners → is_owner news holding.mutex q ≡ (if q == p then false else is_owner olds holding.mutex q))
    → ((m q : ℕ) → m ≢ holding.mutex → is_owner news m q ≡ is_owner olds m q)
    → (m : ℕ) → m < ID_PLACES → is_owner news m p ≡ true → holds m rest ≡ true
leaves_one olds news p holding rest low before same others m known e = elim (cases_eq m holding.mutex) [
  | inl it ↦ absurd (false≢true (sym (gone it) ∙ e))
  | inr apart ↦
      sym (ap (λ b. b || holds m rest) (ne_eqb holding.mutex m (λ s. apart (sym s))))
      ∙ before m known (sym (others m p apart) ∙ e)
] where
  gone : m ≡ holding.mutex → is_owner news m p ≡ false
  gone it = rw (it, same p low) (grind arith)

-- process p, which owns none but those that are left, owns none if none are left
pub none_left : (words : List ℕ) (p i : ℕ) (held : List Holding) → length held ≤ i
    → ((m : ℕ) → m < ID_PLACES → is_owner words m p ≡ true → holds m (drop i held) ≡ true)
    → (m : ℕ) → m < ID_PLACES → is_owner words m p ≡ false
none_left words p i held past owned m known =
    false_from_ne_true (is_owner words m p) (λ is. false≢true (ap (holds m) (sym (drop_all i held past)) ∙ owned m known is))

-- process p, which owns these, owns another one too
pub enters_one : (olds news : List ℕ) (p : ℕ) (held : List Holding) (holding : Holding) → p < most_owners
    → ((m : ℕ) → m < ID_PLACES → is_owner olds m p ≡ holds m held)
    → ((q : ℕ) → q < most_owners → is_owner news holding.mutex q ≡ (if q == p then true else is_owner olds holding.mutex q))
    → ((m q : ℕ) → m ≢ holding.mutex → is_owner news m q ≡ is_owner olds m q)
    → (m : ℕ) → m < ID_PLACES → is_owner news m p ≡ holds m (held ++ holding ∷ [])
enters_one olds news p held holding low before same others m known = elim (cases_eq m holding.mutex) [
  | inl it ↦
      owned it
      ∙ sym (holds_more holding m held ∙ or_right (holds m held) (is_of m holding) (eq-eqb holding.mutex m (sym it)))
  | inr apart ↦
      others m p apart ∙ before m known
      ∙ sym (holds_more holding m held ∙ ap (λ b. holds m held || b) (ne_eqb holding.mutex m (λ s. apart (sym s))) ∙ or_false (holds m held))
] where
  owned : m ≡ holding.mutex → is_owner news m p ≡ true
  owned it = rw (it, same p low) (grind arith)

-- what the change of one mutex leaves of another process
pub owns_as : (olds news : List ℕ) (p : ℕ) (n q : ℕ) (value : Bool) → q ≢ p
    → ((r : ℕ) → r < most_owners → is_owner news n r ≡ (if r == p then value else is_owner olds n r))
    → ((m r : ℕ) → m ≢ n → is_owner news m r ≡ is_owner olds m r) → q < most_owners → (m : ℕ) → is_owner news m q ≡ is_owner olds m q
owns_as olds news p n q value apart same others low m = elim (cases_eq m n) [
  | inl it ↦ owned it
  | inr other ↦ others m q other
] where
  owned : m ≡ n → is_owner news m q ≡ is_owner olds m q
  owned it = rw (it, same q low) (grind (arith, apart))

-- the owner of a mutex
module _ (roster : Roster) (words : List ℕ) (are : AreOwners roster words) (few : length roster.records ≤ MOST_PROCESSES) (m : ℕ) (known : m < ID_PLACES) where
  owning_known : (p : ℕ) → owns m (record_at roster p) ≡ true → p < length roster.records
  owning_known p e = elim (cases_lt p (length roster.records)) [
    | inl within ↦ within
    | inr past ↦ absurd (false≢true (rw (get_or_past roster.records p nobody past) at e))
  ]

  pub owner_is : (found : Option ℕ) → MatchOption found (IsUnowned words m) (λ p. IsFirstOwner words m p) → found ≡ owner roster m
  owner_is None none =
      let fails : (q : ℕ) → q < length roster.records → owns m (get_or roster.records q nobody) ≡ false = λ q within. sym (are m q known (omega (arith, within, few))) ∙ none q (omega (arith, within, few)) in
      let at = position_or_len_is (owns m) roster.records (length roster.records) nobody (omega arith) fails (λ beyond. absurd (omega (arith, beyond))) in
      sym (rw (at, le-ltb (length roster.records) (length roster.records) (omega arith)) refl)
  owner_is (Some p) first =
      let here : owns m (record_at roster p) ≡ true = sym (are m p known first.known) ∙ first.set in
      let within = owning_known p here in
      let fails : (q : ℕ) → q < p → owns m (get_or roster.records q nobody) ≡ false = λ q below. sym (are m q known (omega (arith, below, first.known))) ∙ first.first q below in
      let at = position_or_len_is (owns m) roster.records p nobody (omega (arith, within)) fails (λ _. here) in
      sym (rw (at, lt-ltb p (length roster.records) within) refl)

  pub owner_known : (found : Option ℕ) → MatchOption found (IsUnowned words m) (λ p. IsFirstOwner words m p) → IfSome found (λ p. p < length roster.records)
  owner_known None none = tt
  owner_known (Some p) first = owning_known p (sym (are m p known first.known) ∙ first.set)

-- each process owns the same in the two rosters
abbrev pub OwnAlike : Roster → Roster → Type 0
OwnAlike old new = (q : ℕ) → (record_at new q).owned ≡ (record_at old q).owned

pub owners_kept : (old new target : Roster) (words : List ℕ) → AreOwners old words → new ≡ target → OwnAlike old target → AreOwners new words
owners_kept old new target words are is alike m p known low = rw is (are m p known low ∙ sym (ap (holds m) (alike p)))

-- process p has another record, which owns the same
pub own_by : {most : ℕ} {old new : Roster} {p : ℕ} {r : Record} → Replaces most old new p r → r.owned ≡ (record_at old p).owned → OwnAlike old new
own_by has = each_stays has (λ s t. t.owned ≡ s.owned) (λ _. refl)

module _ (old : Roster) (p : ℕ) (known : p < length old.records) where
  pub own_resume : OwnAlike old (stamps.resume old p)
  own_resume = cond_both {A = Roster} (stamps.is_by_itself (record_at old p).suspended) _ _ (λ new. OwnAlike old new)
      (λ _. own_by (replaces_readied old p known (stamps.awake (record_at old p)) refl) refl) (λ _. own_by (replaces_readied old p known (stamps.unsuspended (record_at old p)) refl) refl)

  pub own_priority : (base : ℕ) → OwnAlike old (stamps.set_priority old p base)
  own_priority base = cond_both {A = Roster} _ _ _ (λ new. OwnAlike old new)
      (λ _. own_by (replaces_newest old p known (record (record_at old p) { base = base })) refl) (λ _. own_by (replaces_record old p known (record (record_at old p) { base = base }) refl 0) refl)

pub own_start : (old : Roster) (p delay : ℕ) → p < length old.records → OwnAlike old (stamps.start old p delay)
own_start old p delay known =
    let r = stamps.reset (record_at old p) in
    start_cases old p known delay (OwnAlike old)
    (λ _. own_by (replaces_readied old p known (stamps.released_at old.now r) refl) refl)
    (λ _. own_by (replaces_newest old p known (stamps.waiting r Start (Some (old.now + delay)))) refl)
    (own_by (replaces_newest old p known (stamps.waiting r (Normal delay) None)) refl)

-- process p has this holding from now on, or none, and the others keep their records
pub record Disowns (old new : Roster) (p : ℕ) (held : List Holding) : Type 0 where
  pub here : (record_at new p).owned ≡ held
  pub others : (q : ℕ) → q ≢ p → record_at new q ≡ record_at old q

pub owners_changed : (old new target : Roster) (words news : List ℕ) (p : ℕ) (held : List Holding) → AreOwners old words → new ≡ target → Disowns old target p held
    → ((m : ℕ) → m < ID_PLACES → is_owner news m p ≡ holds m held)
    → ((m q : ℕ) → m < ID_PLACES → q < most_owners → q ≢ p → is_owner news m q ≡ is_owner words m q) → AreOwners new news
owners_changed old new target words news p held are is disowns here others m q known low = rw is (elim (cases_eq q p) as (λ _. is_owner news m q ≡ owns m (record_at target q)) [
  | inl e ↦ rw e (here m known ∙ sym (ap (holds m) disowns.here))
  | inr apart ↦ others m q known low apart ∙ are m q known low ∙ sym (ap (λ (r : Record). owns m r) (disowns.others q apart))
])

pub disowns_by : {most : ℕ} {old new : Roster} {p : ℕ} {r : Record} → Replaces most old new p r → Disowns old new p r.owned
disowns_by has = record { here = ap (λ (s : Record). s.owned) has.here; others = has.others }

-- process p, which owned this or nothing, owns the mutex that it holds
pub owners_inherited : (old new target : Roster) (words mids news : List ℕ) (p : ℕ) (holding : Holding) → AreOwners old words → new ≡ target → Disowns old target p (holding ∷ [])
    → ((m : ℕ) → m < ID_PLACES → is_owner mids m p ≡ false)
    → ((m q : ℕ) → q < most_owners → q ≢ p → is_owner mids m q ≡ is_owner words m q)
    → ((q : ℕ) → q < most_owners → is_owner news holding.mutex q ≡ (if q == p then true else is_owner mids holding.mutex q))
    → ((m q : ℕ) → m ≢ holding.mutex → is_owner news m q ≡ is_owner mids m q) → p < most_owners → AreOwners new news
owners_inherited old new target words mids news p holding are is disowns gone stay same others low =
    owners_changed old new target words news p (holding ∷ []) are is disowns here elsewhere where
      owner_now : (m : ℕ) → m ≡ holding.mutex → is_owner news m p ≡ true
      owner_now m e = rw (e, same p low) (grind arith)

      here : (m : ℕ) → m < ID_PLACES → is_owner news m p ≡ holds m (holding ∷ [])
      here m known = elim (cases_eq m holding.mutex) as (λ _. is_owner news m p ≡ holds m (holding ∷ [])) [
        | inl e ↦ owner_now m e ∙ sym (or_left (is_of m holding) false (eq-eqb holding.mutex m (sym e)))
        | inr apart ↦
            others m p apart ∙ gone m known
            ∙ sym (or_from (is_of m holding) false (ne_eqb holding.mutex m (λ same. apart (sym same))) refl)
      ]

      elsewhere : (m q : ℕ) → m < ID_PLACES → q < most_owners → q ≢ p → is_owner news m q ≡ is_owner words m q
      elsewhere m q known low' apart = elim (cases_eq m holding.mutex) as (λ _. is_owner news m q ≡ is_owner words m q) [
        | inl e ↦ rw (e, same q low', stay holding.mutex q low' apart) (grind (arith, apart))
        | inr other ↦ others m q other ∙ stay m q low' apart
      ]
