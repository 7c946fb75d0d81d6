-- Mutexes that change hands: the facts that changes of processes keep.
use Rattle.std.proofs.Common.{lit≤, ◌≡◌, ◌≢◌, ℕ, ◌+◌, ◌<◌, ◌≤◌, Bool, true, false, ◌||◌, List, [], ◌∷◌, ◌++◌, Option, None, Some, length, refl, sym, ◌∙◌, ap, inl, inr, arith}
use Rattle.std.specs.Option.{option_and_then}
use Rattle.std.proofs.lemmas.Bool.{both_ways, cases_Bool, eq-eqb, eqb-true, false_from_ne_true, or_left, or_right}
use Rattle.std.proofs.lemmas.List.{length-append}
use Rattle.std.proofs.lemmas.Option.{none-some}
use Rattle.apex_machine.specs.Terms.{Holding, Queue, Record, Wait}
use Rattle.apex_machine.specs.declared.records.Queue.TheVariants as queues
use Rattle.apex_machine.specs.declared.records.Wait.TheVariants.{Mutex}
use Rattle.apex_machine.specs.processes.Dues.{IsFrom}
use Rattle.apex_machine.specs.processes.Held.{holding_of, holds, in_order, is_of, with_depth, without}
use Rattle.apex_types.specs.declared.limits.TheConstants.{MOST_DEPTH}
use Rattle.apex_machine.specs.services.Handovers.{hand_over, hand_to, halted, hand_on}
use Rattle.apex_machine.specs.processes.Owners.{HasOrderlyOwners, IsLawfulHolding, owns}
use Rattle.apex_machine.specs.processes.Queues.{queue_of}
use Rattle.apex_types.specs.Modes.{is_normal}
use Rattle.apex_machine.specs.processes.Roster.{Roster, record_at}
use Rattle.apex_machine.specs.processes.Stamps.{HasOrderlyStarts, awake, block, own, readied, stop, stopped, waiting}
use Rattle.apex_machine.specs.processes.Waiters.{first_waiter}
use Rattle.apex_machine.proofs.Held.{fewer_without, held_before, holds_apart, holds_at_depth, holds_gone, holds_in_order, holds_more, is_held, lawful_at_depth, lawful_in_order, lawful_more, lawful_without, many_at_depth, many_in_order, nothing_held, or_false}
use Rattle.apex_machine.proofs.Owners.{AreOwnedBut, Hands, all_owned, but_none, none_waiting, owned_then, owners_waiting}
use Rattle.apex_machine.proofs.Reaches.{Moves, Reaches, moves_by, moves_more, moves_then, moves_stop, moves_block, periods_by, periods_stop, own_stays, reaches_none, awake_fits, own_fits}
use Rattle.apex_machine.proofs.Replaces.{Replaces, replaces_levelled, replaces_newest, replaces_readied, replaces_record}
use Rattle.apex_machine.proofs.Periods.{KeepsPeriods, stays_same, stays_then}
use Rattle.apex_machine.proofs.Starts.{first_stands, first_within, queued_normal, waits_there}
use Rattle.apex_machine.proofs.Waking.{none_waits}

-- a process in the queue of a mutex waits for it
pub mutex_wait : (w : Option Wait) (m : ℕ) → option_and_then queue_of w ≡ Some (queues.Mutex m) → w ≡ Some (Mutex m)
mutex_wait (Some (Mutex n)) m e = cc
mutex_wait _ m e = cc

-- a mutex that no process owns goes to its first waiter
module _ (roster : Roster) (holding : Holding) where
  abbrev queue : Queue
  queue = queues.Mutex holding.mutex

  abbrev first : Holding
  first = record holding { depth = 1 }

  few_told : (found : Option ℕ) → length (hand_to roster holding found).notices ≤ 1
  few_told None = lit≤ tt
  few_told (Some q) = lit≤ tt

  pub few_handed_over : length (hand_over roster holding).notices ≤ 1
  few_handed_over = few_told (first_waiter roster queue)

  -- the record with which a waiter owns it
  abbrev heir : ℕ → Record
  heir q = awake (record (record_at roster q) { owned = first ∷ [] })

  inherits : (q : ℕ) → first_waiter roster queue ≡ Some q → Replaces 1 roster (readied roster q (heir q)) q (heir q)
  inherits q is = replaces_readied roster q (first_within roster queue q is) (heir q) refl

  moves_to : (found : Option ℕ) → first_waiter roster queue ≡ found → HasOrderlyStarts roster
      → Moves (length (hand_to roster holding found).notices) roster (hand_to roster holding found).roster
  moves_to None is starts = (reaches_none 0 roster).moves
  moves_to (Some q) is starts =
      let r : Record = record (record_at roster q) { owned = first ∷ [] } in
      moves_by (inherits q is) (awake_fits roster q (first_within roster queue q is) r refl refl
      (queued_normal roster starts q queue (first_stands roster queue q is) refl))

  periods_to : (found : Option ℕ) → first_waiter roster queue ≡ found → KeepsPeriods roster (hand_to roster holding found).roster
  periods_to None is = λ p. stays_same (record_at roster p)
  periods_to (Some q) is =
      periods_by (inherits q is) (own_stays roster q (first_within roster queue q is) (heir q) refl refl refl refl (λ _. refl))

  pub periods_hand_over : KeepsPeriods roster (hand_over roster holding).roster
  periods_hand_over = periods_to (first_waiter roster queue) refl

  -- it gives at most one stamp for each notice
  pub moves_hand_over : HasOrderlyStarts roster
      → Moves (length (hand_over roster holding).notices) roster (hand_over roster holding).roster
  moves_hand_over = moves_to (first_waiter roster queue) refl

  -- it is one of those that no process owns, and were held lawfully
  module _ (lost : List Holding) (but : AreOwnedBut (holding ∷ lost) roster) where
    differs : (n : ℕ) → holds n lost ≡ true → is_of n holding ≡ false
    differs n is = elim (cases_Bool (is_of n holding)) [
      | inl same ↦
          absurd (both_ways _ but.lawful.1 (ap (λ (k : ℕ). holds k lost) (eqb-true holding.mutex n same) ∙ is))
      | inr apart ↦ apart
    ]

    hands_heir : (q : ℕ) → (record_at roster q).owned ≡ [] → Hands roster q (first ∷ []) (holding ∷ lost) lost
    hands_heir q unowned = record {
      lawful = record {
        lawful = (record { ceiling = but.lawful.0.ceiling; depth = (lit≤ tt, lit≤ tt) }, refl, tt);
        few = but.most;
      };
      others = but.lawful.2;
      fresh = λ n is.
          inr (λ s. but.free n s (or_left (is_of n holding) (holds n lost) (sym (or_false (is_of n holding)) ∙ is)));
      gone = λ n is.
          (or_false (is_of n holding) ∙ differs n is, λ s _. but.free n s (or_right (is_of n holding) (holds n lost) is));
      kept = λ n had _. absurd (both_ways _ (nothing_held (record_at roster q).owned unowned n) had);
      taken = λ n was stays. ap (λ (b : Bool). is_of n holding || b) (sym stays) ∙ was;
    }

    inherits_to : (found : Option ℕ) → first_waiter roster queue ≡ found → AreOwnedBut lost (hand_to roster holding found).roster
    inherits_to None is = none_waiting roster holding lost but (λ p waits.
        both_ways _ (none_waits roster queue is p) (waits_there queue (record_at roster p) (ap (option_and_then queue_of) waits)))
    inherits_to (Some q) is =
        let waits = mutex_wait (record_at roster q).wait holding.mutex (first_stands roster queue q is) in
        let hands = hands_heir q (but.without q holding.mutex waits) in
        owned_then (inherits q is) (holding ∷ lost) lost but hands (λ n e. none-some (Mutex n) e)

    pub inherits_hand_over : AreOwnedBut lost (hand_over roster holding).roster
    inherits_hand_over = inherits_to (first_waiter roster queue) refl

-- mutexes that no process owns go on one after the other
pub few_handed_on : (held : List Holding) (roster : Roster) → length (hand_on held roster).notices ≤ length held
few_handed_on [] roster = lit≤ tt
few_handed_on (holding ∷ held) roster =
    let handed = hand_over roster holding in
    let others = hand_on held handed.roster in
    let few = few_handed_over roster holding in
    let fewer = few_handed_on held handed.roster in
    omega (arith, length-append handed.notices others.notices, few, fewer)

moves_hand_on : (held : List Holding) (roster : Roster) → HasOrderlyStarts roster
    → Moves (length (hand_on held roster).notices) roster (hand_on held roster).roster
moves_hand_on [] roster starts = (reaches_none 0 roster).moves
moves_hand_on (holding ∷ held) roster starts =
    let handed = hand_over roster holding in
    let others = hand_on held handed.roster in
    let moves = moves_hand_over roster holding starts in
    moves_more (length handed.notices + length others.notices) (length (handed.notices ++ others.notices))
    (omega (arith, length-append handed.notices others.notices))
    (moves_then (length handed.notices) (length others.notices) moves (moves_hand_on held handed.roster (moves.starts starts)))

periods_hand_on : (held : List Holding) (roster : Roster) → KeepsPeriods roster (hand_on held roster).roster
periods_hand_on [] roster q = stays_same (record_at roster q)
periods_hand_on (holding ∷ held) roster q =
    stays_then (periods_hand_over roster holding q) (periods_hand_on held (hand_over roster holding).roster q)

owned_hand_on : (held : List Holding) (roster : Roster) → AreOwnedBut held roster → HasOrderlyOwners (hand_on held roster).roster
owned_hand_on [] roster but = all_owned roster but
owned_hand_on (holding ∷ held) roster but =
    owned_hand_on held (hand_over roster holding).roster (inherits_hand_over roster holding held but)

module _ (roster : Roster) (p : ℕ) (known : p < length roster.records) where
  abbrev mine : List Holding
  mine = (record_at roster p).owned

  -- process p owns these from now on
  owns_now : (owned : List Holding)
      → Replaces 1 roster (own roster p owned) p (record (record_at roster p) { owned = owned })
  owns_now owned = replaces_levelled roster p known (record (record_at roster p) { owned = owned }) refl

  pub moves_own : (owned : List Holding) → Moves 1 roster (own roster p owned)
  moves_own owned =
      moves_by (owns_now owned) (own_fits roster p known _
      (record { attributes = refl; started = refl; wait = refl; due = refl; deadline = refl; release = refl }) (λ h. h))

  periods_own : (owned : List Holding) → KeepsPeriods roster (own roster p owned)
  periods_own owned = periods_by (owns_now owned) (own_stays roster p known _ refl refl refl refl (λ e. e))

  -- if it waits for none
  owned_own : (owned left : List Holding) → (record_at roster p).wait ≡ None → HasOrderlyOwners roster
      → Hands roster p owned [] left → AreOwnedBut left (own roster p owned)
  owned_own owned left free orderly hands =
      owned_then (owns_now owned) [] left (but_none roster orderly) hands (λ n is. none-some (Mutex n) (sym free ∙ is))

  pub reaches_own : (owned : List Holding) → (record_at roster p).wait ≡ None
      → (HasOrderlyOwners roster → Hands roster p owned [] []) → Reaches 1 roster (own roster p owned)
  reaches_own owned free hands = record {
    moves = moves_own owned;
    owners = λ orderly. all_owned (own roster p owned) (owned_own owned [] free orderly (hands orderly));
    periods = periods_own owned;
  }

  none_lost : {A : Type 0} (n : ℕ) → holds n [] ≡ true → A
  none_lost n is = absurd (both_ways false refl is)

  -- a mutex more, which no process owned
  pub hands_more : (holding : Holding) → IsLawfulHolding roster holding → length mine < roster.rules.most_owned
      → ((q : ℕ) → owns holding.mutex (record_at roster q) ≡ false) → HasOrderlyOwners roster
      → Hands roster p (mine ++ holding ∷ []) [] []
  hands_more holding lawful few nobody_did orderly = record {
    lawful = record {
      lawful = lawful_more holding roster lawful mine (nobody_did p) (orderly.owned p).lawful;
      few = omega (arith, length-append mine (holding ∷ []), few);
    };
    others = tt;
    fresh = λ n is. elim (cases_Bool (holds n mine)) [
      | inl had ↦ inl had
      | inr not_had ↦
          let same : is_of n holding ≡ true = sym (ap (λ (b : Bool). b || is_of n holding) not_had) ∙ sym (holds_more holding n mine) ∙ is in
          inr (λ q. ap (λ (k : ℕ). owns k (record_at roster q)) (sym (eqb-true holding.mutex n same)) ∙ nobody_did q)
    ];
    gone = λ n is. none_lost n is;
    kept = λ n had _. holds_more holding n mine ∙ or_left (holds n mine) (is_of n holding) had;
    taken = λ n is _. none_lost n is;
  }

  -- a mutex at another depth
  pub hands_at_depth : (m depth : ℕ) → (1 ≤ depth) × (depth ≤ MOST_DEPTH) → HasOrderlyOwners roster
      → Hands roster p (with_depth m depth mine) [] []
  hands_at_depth m depth range orderly = record {
    lawful = record {
      lawful = lawful_at_depth m depth roster range mine (orderly.owned p).lawful;
      few = omega (arith, many_at_depth m depth mine, (orderly.owned p).few);
    };
    others = tt;
    fresh = λ n is. inl (sym (holds_at_depth m depth n mine) ∙ is);
    gone = λ n is. none_lost n is;
    kept = λ n had _. holds_at_depth m depth n mine ∙ had;
    taken = λ n is _. none_lost n is;
  }

  -- the other processes own none of the mutexes that process p owned
  not_others : (n : ℕ) → HasOrderlyOwners roster → owns n (record_at roster p) ≡ true → (q : ℕ) → q ≢ p
      → owns n (record_at roster q) ≡ false
  not_others n orderly had q apart = false_from_ne_true _ (λ its. apart (orderly.one n q p its had))

  -- process p gives up mutex m, of this holding
  module _ (m : ℕ) (holding : Holding) (held : holding_of m mine ≡ Some holding) (free : (record_at roster p).wait ≡ None) where
    hands_without : HasOrderlyOwners roster → Hands roster p (without m mine) [] (holding ∷ [])
    hands_without orderly =
        let is = is_held m holding mine held in
        let lawful = orderly.owned p in
        let the_one : (n : ℕ) → holds n (holding ∷ []) ≡ true → m ≡ n =
        λ n same. sym is.mutex ∙ eqb-true holding.mutex n (sym (or_false (is_of n holding)) ∙ same) in
        record {
          lawful = record {
            lawful = lawful_without m roster mine lawful.lawful;
            few = omega (arith, fewer_without m mine, lawful.few);
          };
          others = (is.lawful roster lawful.lawful, refl, tt);
          fresh = λ n its. inl (held_before m n mine its);
          gone = λ n same. (
            ap (λ (k : ℕ). holds k (without m mine)) (sym (the_one n same)) ∙ holds_gone m mine,
            not_others n orderly (ap (λ (k : ℕ). holds k mine) (sym (the_one n same)) ∙ is.held),
          );
          kept = λ n had apart.
              holds_apart m n (λ same. both_ways _ apart (or_left (is_of n holding) false (eq-eqb holding.mutex n (is.mutex ∙ sym same)))) mine
              ∙ had;
          taken = λ n is _. none_lost n is;
        }

    pub reaches_give_up : HasOrderlyStarts roster → Reaches 2 roster (hand_over (own roster p (without m mine)) holding).roster
    reaches_give_up starts =
        let given = own roster p (without m mine) in
        let handed = hand_over given holding in
        let moves = moves_own (without m mine) in
        record {
          moves = moves_more (1 + length handed.notices) 2 (omega (arith, few_handed_over given holding))
              (moves_then 1 (length handed.notices) moves (moves_hand_over given holding (moves.starts starts)));
          owners = λ orderly.
              all_owned handed.roster (inherits_hand_over given holding []
              (owned_own (without m mine) (holding ∷ []) free orderly (hands_without orderly)));
          periods = λ q. stays_then (periods_own (without m mine) q) (periods_hand_over given holding q);
        }

  -- process p is stopped, and the mutexes that it owned go on
  hands_all : HasOrderlyOwners roster → Hands roster p [] [] (in_order mine)
  hands_all orderly = record {
    lawful = record { lawful = tt; few = omega arith };
    others = lawful_in_order roster mine (orderly.owned p).lawful;
    fresh = λ n is. none_lost n is;
    gone = λ n is. (refl, not_others n orderly (sym (holds_in_order n mine) ∙ is));
    kept = λ n had stays. absurd (both_ways _ stays (holds_in_order n mine ∙ had));
    taken = λ n is _. none_lost n is;
  }

  owned_stopped : HasOrderlyOwners roster → HasOrderlyOwners (halted roster p).roster
  owned_stopped orderly =
      owned_hand_on (in_order mine) (stop roster p)
      (owned_then (replaces_record roster p known (stopped (record_at roster p)) refl 0) [] (in_order mine) (but_none roster orderly)
      (hands_all orderly) (λ n is. none-some (Mutex n) is))

  -- a stop gives at most one notice for each mutex that the process owned, and at most one stamp
  -- for each notice
  pub few_halted : length (halted roster p).notices ≤ length mine
  few_halted =
      let few = few_handed_on (in_order mine) (stop roster p) in
      omega (arith, few, many_in_order mine)

  pub reaches_halted : HasOrderlyStarts roster → Reaches (length (halted roster p).notices) roster (halted roster p).roster
  reaches_halted starts =
      let stops = moves_stop roster p known in
      let told = length (halted roster p).notices in
      record {
        moves = moves_more (0 + told) told (omega arith)
            (moves_then 0 told stops (moves_hand_on (in_order mine) (stop roster p) (stops.starts starts)));
        owners = owned_stopped;
        periods = λ q. stays_then (periods_stop roster p known q) (periods_hand_on (in_order mine) (stop roster p) q);
      }

  -- process p, which owns no mutex, waits for one that another owns
  pub reaches_await : (m : ℕ) (due : Option ℕ) → IsFrom roster.now due → (record_at roster p).started ≡ true → (is_normal roster.mode ≡ false → ⊥)
      → (record_at roster p).owned ≡ [] → (other : ℕ) → owns m (record_at roster other) ≡ true
      → Reaches 1 roster (block roster p (Mutex m) due)
  reaches_await m due later begun normal without other owning =
      let has = replaces_newest roster p known (waiting (record_at roster p) (Mutex m) due) in
      record {
        moves = moves_block roster p known (Mutex m) due later (λ e. cc) begun normal;
        owners = λ orderly. owners_waiting has m orderly refl without refl other owning;
        periods = periods_by has (own_stays roster p known _ refl refl refl refl (λ _. refl));
      }
