-- Changes of single processes keep rosters alike.
use Rattle.std.proofs.Common.{◌≡◌, ◌≢◌, ℕ, ◌+◌, ◌<◌, ◌<ℤ◌, ℤ, Bool, true, false, ◌==◌, length, Some, refl, sym, ◌∙◌, ap, subst, inl, inr, arith, cond}
use Rattle.std.specs.Prelude.{int_lt}
use Rattle.std.proofs.lemmas.Bool.{and_from, and_parts, both_ways, cases_eq}
use Rattle.std.proofs.lemmas.Int.{ints}
use Rattle.apex_laws.specs.Terms.{Mode, Queue, Record}
use Rattle.apex_machine.specs.processes.Roster.{Roster, record_at, with_record}
use Rattle.apex_machine.specs.processes.Running.{is_eligible, is_older, current_priority, runs_on}
use Rattle.apex_machine.specs.processes.Waiters.{queue_in, waits_in}
use Rattle.apex_machine.specs.processes.Stamps.{is_level, levelled, newest, oldest, readied}
use Rattle.apex_machine.proofs.Rosters.{at_record}
use Rattle.apex_machine.proofs.Starts.{stands_in, waits_there}
use Rattle.apex_machine.proofs.Replaces.{Replaces, replaces_newest, replaces_oldest, replaces_record}
use Rattle.apex_alike.specs.Alike.{AreAlike, AreRivals, IsLater}

-- two choices by tests that agree
pub both_cond : {A B : Type 0} (P : A → B → Type 0) (b c : Bool) → c ≡ b → (x y : A) (z w : B)
    → (b ≡ true → P x z) → (b ≡ false → P y w) → P (cond b x y) (cond c z w)
both_cond P true true e x y z w on_true on_false = on_true refl
both_cond P false false e x y z w on_true on_false = on_false refl
both_cond P true false e x y z w on_true on_false = cc
both_cond P false true e x y z w on_true on_false = cc

-- a stamp is not older than itself
int_lt_same : (a : ℤ) → int_lt a a ≡ false
int_lt_same a = grind (arith, ints)

int_lt_true : (a b : ℤ) → a <ℤ b → int_lt a b ≡ true
int_lt_true a b e = grind (arith, ints, e)

int_lt_false : (a b : ℤ) → b <ℤ a → int_lt a b ≡ false
int_lt_false a b e = grind (arith, ints, e)

-- the records with these stamps
stamped_later : {d now : ℕ} {r s : Record} (a b : ℤ) → IsLater d now r s → IsLater d now (record r { since = a }) (record s { since = b })
stamped_later a b same = record {
  since = b;
  release = same.release;
  inbox = same.inbox;
  is = ap (λ (x : Record). record x { since = b }) same.is;
  released = same.released;
  undue = same.undue;
  before = same.before;
  spans = same.spans;
}

-- the stamp of a record does not make it a rival
runs_so : (mode : Mode) (core : ℕ) (x : Record) (a : ℤ) → runs_on mode core (record x { since = a }) ≡ true → runs_on mode core x ≡ true
unfolding runs_on
runs_so mode core x a h = h

waits_so : (queue : Queue) (x : Record) (a : ℤ) → waits_in queue (record x { since = a }) ≡ true → waits_in queue x ≡ true
unfolding waits_in
waits_so queue x a h = h

rivals_so : (mode : Mode) (x z : Record) (a : ℤ) → AreRivals mode (record x { since = a }) z → AreRivals mode x z
rivals_so mode x z a (inl both) = inl (both.0, runs_so mode both.0 x a both.1, both.2)
rivals_so mode x z a (inr both) = inr (both.0, waits_so both.0 x a both.1, both.2)

pub rivals_turned : (mode : Mode) (x z : Record) → AreRivals mode x z → AreRivals mode z x
rivals_turned mode x z (inl both) = inl (both.0, both.2, both.1)
rivals_turned mode x z (inr both) = inr (both.0, both.2, both.1)

-- a record is the rival of no process but of the rivals of another record
pub record JoinsNobody (mode : Mode) (x r : Record) : Type 0 where
  pub runs : (core : ℕ) → runs_on mode core x ≡ true → runs_on mode core r ≡ true
  pub waits : (queue : Queue) → waits_in queue x ≡ true → waits_in queue r ≡ true

rivals_joined : (mode : Mode) (x r z : Record) → JoinsNobody mode x r → AreRivals mode x z → AreRivals mode r z
rivals_joined mode x r z joins (inl both) = inl (both.0, joins.runs both.0 both.1, both.2)
rivals_joined mode x r z joins (inr both) = inr (both.0, joins.waits both.0 both.1, both.2)

-- it is eligible only if that one is, on its core, and waits in its queue if in any
pub joins_by : (mode : Mode) (x r : Record)
    → (is_eligible mode x ≡ true → (is_eligible mode r ≡ true) × (x.core ≡ r.core))
    → ((queue : Queue) → queue_in x ≡ Some queue → queue_in r ≡ Some queue) → JoinsNobody mode x r
unfolding runs_on
joins_by mode x r eligible queues = record { runs = runs; waits = λ queue h. waits_there queue r (queues queue (stands_in queue x h)) } where
  runs : (core : ℕ) → runs_on mode core x ≡ true → runs_on mode core r ≡ true
  runs core h =
      let parts = and_parts (is_eligible mode x) (x.core == core) h in
      let is = eligible parts.0 in
      and_from _ _ is.0 (rw is.1 at parts.1)

-- two stamps have the same place among those of the rivals of a record
record AreAlikeStamps (p : ℕ) (x : Record) (first second : Roster) (a b : ℤ) : Type 0 where
  younger : (q : ℕ) → q < length first.records → q ≢ p → AreRivals first.mode x (record_at first q)
      → int_lt b (record_at second q).since ≡ int_lt a (record_at first q).since
  older : (q : ℕ) → q < length first.records → q ≢ p → AreRivals first.mode x (record_at first q)
      → int_lt (record_at second q).since b ≡ int_lt (record_at first q).since a

module _ {d : ℕ} {first second : Roster} (alike : AreAlike d first second) (p : ℕ) (known : p < length first.records) where
  abbrev r : Record
  r = record_at first p

  abbrev s : Record
  s = record_at second p

  abbrev same : IsLater d first.now r s
  same = alike.each p

  pub known2 : p < length second.records
  known2 = omega (arith, known, alike.many)

  -- one process of each has another record, alike, with stamps that have the same place
  module _ {most : ℕ} {one other : Roster} {x y : Record} (has : Replaces most first one p x) (has2 : Replaces most second other p y)
      (cores : one.cores ≡ first.cores) (cores2 : other.cores ≡ second.cores)
      (is : IsLater d first.now x y) (stamps : AreAlikeStamps p x first second has.stamp has2.stamp) where
    each_then : (q : ℕ) → IsLater d first.now (record_at one q) (record_at other q)
    each_then q = elim (cases_eq q p) [
      | inl e ↦
          subst (λ (k : ℕ). IsLater d first.now (record_at one k) (record_at other k)) (sym e)
          (rw (has.here, has2.here) (stamped_later has.stamp has2.stamp is))
      | inr apart ↦ rw (has.others q apart, has2.others q apart) (alike.each q)
    ]

    since_here : (q : ℕ) → q ≡ p → (record_at one q).since ≡ has.stamp
    since_here q e = ap (λ (k : ℕ). (record_at one k).since) e ∙ ap (λ (z : Record). z.since) has.here

    since_here2 : (q : ℕ) → q ≡ p → (record_at other q).since ≡ has2.stamp
    since_here2 q e = ap (λ (k : ℕ). (record_at other k).since) e ∙ ap (λ (z : Record). z.since) has2.here

    since_there : (q : ℕ) → q ≢ p → (record_at one q).since ≡ (record_at first q).since
    since_there q apart = ap (λ (z : Record). z.since) (has.others q apart)

    since_there2 : (q : ℕ) → q ≢ p → (record_at other q).since ≡ (record_at second q).since
    since_there2 q apart = ap (λ (z : Record). z.since) (has2.others q apart)

    -- rivals afterwards, of which one or none is the process
    rivals_at : (q u : ℕ) (z w : Record) → record_at one q ≡ z → record_at one u ≡ w
        → AreRivals one.mode (record_at one q) (record_at one u) → AreRivals first.mode z w
    rivals_at q u z w here there rivals =
        subst (λ (k : Record). AreRivals first.mode z k) there
        (subst (λ (k : Record). AreRivals first.mode k (record_at one u)) here
        (subst (λ (m : Mode). AreRivals m (record_at one q) (record_at one u)) has.mode rivals))

    at_p : (q : ℕ) → q ≡ p → record_at one q ≡ record x { since = has.stamp }
    at_p q e = ap (record_at one) e ∙ has.here

    order_then : (q u : ℕ) → q < length first.records → u < length first.records
        → AreRivals one.mode (record_at one q) (record_at one u)
        → is_older (record_at other q) (record_at other u) ≡ is_older (record_at one q) (record_at one u)
    order_then q u here there rivals = elim (cases_eq q p) [
      | inl e ↦ elim (cases_eq u p) [
        | inl f ↦ rw (since_here q e, since_here2 q e, since_here u f, since_here2 u f, int_lt_same has.stamp) (int_lt_same has2.stamp)
        | inr apart ↦
            let still = rivals_so first.mode x (record_at first u) has.stamp (rivals_at q u _ _ (at_p q e) (has.others u apart) rivals) in
            rw (since_here q e, since_here2 q e, since_there u apart, since_there2 u apart) (stamps.younger u there apart still)
      ]
      | inr apart ↦ elim (cases_eq u p) [
        | inl f ↦
            let still = rivals_so first.mode x (record_at first q) has.stamp
            (rivals_turned first.mode (record_at first q) (record x { since = has.stamp }) (rivals_at q u _ _ (has.others q apart) (at_p u f) rivals)) in
            rw (since_there q apart, since_there2 q apart, since_here u f, since_here2 u f) (stamps.older q here apart still)
        | inr other_apart ↦
            let still = rivals_at q u _ _ (has.others q apart) (has.others u other_apart) rivals in
            rw (since_there q apart, since_there2 q apart, since_there u other_apart, since_there2 u other_apart) (alike.order q u here there still)
      ]
    ]

    alike_replaced : AreAlike d one other
    alike_replaced = record {
      cores = cores2 ∙ alike.cores ∙ sym cores;
      mode = has2.mode ∙ alike.mode ∙ sym has.mode;
      time = has2.time ∙ alike.time ∙ ap (λ t. t + d) (sym has.time);
      many = has2.many ∙ alike.many ∙ sym has.many;
      each = λ q. subst (λ (t : ℕ). IsLater d t (record_at one q) (record_at other q)) (sym has.time) (each_then q);
      order = λ q u here there rivals. order_then q u (rw has.many at here) (rw has.many at there) rivals;
      disciplines = has2.disciplines ∙ alike.disciplines ∙ sym has.disciplines;
      rules = has2.rules ∙ alike.rules ∙ sym has.rules;
      stamped = has.stamped alike.stamped;
      stamped2 = has2.stamped alike.stamped2;
    }

  -- the stamp that is given
  given_stamp : {most : ℕ} {roster new : Roster} {x : Record} (has : Replaces most roster new p x) (z : Record)
      → record_at new p ≡ z → has.stamp ≡ z.since
  given_stamp has z at = ap (λ (u : Record). u.since) (sym has.here ∙ at)

  -- its own stamp, the next one upwards, and the next one downwards
  own_stamps : (x : Record) → JoinsNobody first.mode x r → AreAlikeStamps p x first second r.since s.since
  own_stamps x joins = record {
    younger = λ q there apart rivals. alike.order p q known there (rivals_joined first.mode x r (record_at first q) joins rivals);
    older = λ q there apart rivals. alike.order q p there known
        (rivals_turned first.mode r (record_at first q) (rivals_joined first.mode x r (record_at first q) joins rivals));
  }

  young_stamps : (x : Record) → AreAlikeStamps p x first second first.young second.young
  young_stamps x = record {
    younger = λ q there apart rivals.
        int_lt_false second.young (record_at second q).since (alike.stamped2.given q (omega (arith, there, alike.many)))
        ∙ sym (int_lt_false first.young (record_at first q).since (alike.stamped.given q there));
    older = λ q there apart rivals.
        int_lt_true (record_at second q).since second.young (alike.stamped2.given q (omega (arith, there, alike.many)))
        ∙ sym (int_lt_true (record_at first q).since first.young (alike.stamped.given q there));
  }

  old_stamps : (x : Record) → AreAlikeStamps p x first second first.old second.old
  old_stamps x = record {
    younger = λ q there apart rivals.
        int_lt_true second.old (record_at second q).since (alike.stamped2.newer q (omega (arith, there, alike.many)))
        ∙ sym (int_lt_true first.old (record_at first q).since (alike.stamped.newer q there));
    older = λ q there apart rivals.
        int_lt_false (record_at second q).since second.old (alike.stamped2.newer q (omega (arith, there, alike.many)))
        ∙ sym (int_lt_false (record_at first q).since first.old (alike.stamped.newer q there));
  }

  module _ {x y : Record} (is : IsLater d first.now x y) where
    pub alike_newest : AreAlike d (newest first p x) (newest second p y)
    alike_newest =
        let has = replaces_newest first p known x in
        let has2 = replaces_newest second p known2 y in
        alike_replaced has has2 refl refl is
        (rw (given_stamp has _ (at_record first p known (record x { since = first.young })), given_stamp has2 _ (at_record second p known2 (record y { since = second.young }))) (young_stamps x))

    pub alike_oldest : AreAlike d (oldest first p x) (oldest second p y)
    alike_oldest =
        let has = replaces_oldest first p known x in
        let has2 = replaces_oldest second p known2 y in
        alike_replaced has has2 refl refl is
        (rw (given_stamp has _ (at_record first p known (record x { since = first.old })), given_stamp has2 _ (at_record second p known2 (record y { since = second.old }))) (old_stamps x))

    -- records that have the processes' own stamps
    module _ (own : x.since ≡ r.since) (own2 : y.since ≡ s.since) where
      pub alike_record : JoinsNobody first.mode x r → AreAlike d (with_record first p x) (with_record second p y)
      alike_record joins =
          let has = replaces_record first p known x own 0 in
          let has2 = replaces_record second p known2 y own2 0 in
          alike_replaced has has2 refl refl is
          (rw (given_stamp has x (at_record first p known x) ∙ own, given_stamp has2 y (at_record second p known2 y) ∙ own2) (own_stamps x joins))

      same_eligible : is_eligible second.mode y ≡ is_eligible first.mode x
      same_eligible = ap (λ (m : Mode). is_eligible m y) alike.mode ∙ ap (is_eligible first.mode) is.is

      pub alike_readied : ((queue : Queue) → queue_in x ≡ Some queue → queue_in r ≡ Some queue)
          → AreAlike d (readied first p x) (readied second p y)
      alike_readied queues =
          both_cond {A = Roster} {B = Roster} (AreAlike d) (is_eligible first.mode x) (is_eligible second.mode y) same_eligible _ _ _ _
          (λ _. alike_newest) (λ idle. alike_record (joins_by first.mode x r (λ h. absurd (both_ways _ idle h)) queues))

      same_level : is_level y s ≡ is_level x r
      same_level = rw (ap current_priority is.is, ap current_priority same.is) refl

      pub alike_levelled : JoinsNobody first.mode x r → AreAlike d (levelled first p x) (levelled second p y)
      alike_levelled joins =
          both_cond {A = Roster} {B = Roster} (AreAlike d) (is_level x r) (is_level y s) same_level _ _ _ _
          (λ _. alike_record joins) (λ _. alike_oldest)
