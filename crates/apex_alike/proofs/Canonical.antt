-- The canonical form of a situation is alike to it.
use Rattle.std.proofs.Common.{◌≡◌, ℕ, zero, suc, ◌+◌, ◌-◌, ◌*◌, ◌/◌, ◌%◌, ◌<◌, ◌≤◌, ◌⊎◌, ◌==◌, ◌&&◌, Bool, true, false, not, nat_lt, if◌then◌else◌, List, [], ◌∷◌, length, get_or, sum_by, Option, None, Some, pos, ◌<ℤ◌, ℤ, inl, inr, refl, sym, ◌∙◌, ap, subst, arith}
use Rattle.std.specs.Prelude.{int_lt}
use Rattle.std.proofs.Math.Nat.{add-mul, mul-le-mul_right}
use Rattle.std.proofs.lemmas.Bool.{and_from, and_parts, and_right, cases_Bool, cases_lt, cases_order, cond-false, cond-true, cond_both, eq-eqb, eqb-true, ltb-true, not_from_false}
use Rattle.std.proofs.lemmas.Int.{ints}
use Rattle.std.proofs.lemmas.List.{get_or_past}
use Rattle.std.proofs.lemmas.List.Sums.{count_by-le-length, sum_by-cons, sum_by-le-sum_by}
use Rattle.std.proofs.lemmas.Nat.{div-add-mod'}
use Rattle.std.proofs.lemmas.Option.{none-some}
use Rattle.apex_laws.specs.Terms.{Mode, Queue, Record}
use Rattle.apex_machine.specs.processes.Dues.{IsFrom}
use Rattle.apex_machine.specs.processes.Periods.{awaits_first}
use Rattle.apex_machine.specs.processes.Queues.{is_queue}
use Rattle.apex_machine.specs.processes.Roster.{Roster, nobody, record_at}
use Rattle.apex_machine.specs.processes.Running.{is_eligible, is_older, runs_on}
use Rattle.apex_machine.specs.processes.Waiters.{queue_in, waits_in}
use Rattle.apex_machine.specs.processes.Distinct.{IsStamped}
use Rattle.apex_types.proofs.Places.{get_or-map_places, length-map_places}
use Rattle.apex_machine.proofs.Starts.{queue_itself, runnable, stands_in}
use Rattle.apex_alike.specs.Alike.{AreAlike, AreRivals, IsLater, ServesAs, ServesFor, later}
use Rattle.apex_alike.specs.Canonical.{IsFit, age, canonical, canonical_record, canonical_roster, earlier, oldest_age, rank, recent, vies}
use Rattle.apex_alike.specs.AlikeSteps.{AreAlikeSituations}
use Rattle.apex_machine.specs.Situations.{Situation}
use Rattle.apex_alike.proofs.Changes.{rivals_turned}
use Rattle.apex_alike.proofs.Rows.{nobody_later}

-- counts by two tests, of which the first passes no more
module _ {X : Type 0} (f g : X → ℕ) (less : (x : X) → f x ≤ g x) where
  sum_less : (xs : List X) (k : ℕ) (d : X) → k < length xs → f (get_or xs k d) < g (get_or xs k d) → sum_by f xs < sum_by g xs
  sum_less [] k d within here = absurd (omega (arith, within))
  sum_less (x ∷ xs) zero d within here =
      omega (arith, sum_by-cons f x xs, sum_by-cons g x xs, here, sum_by-le-sum_by f g xs less)
  sum_less (x ∷ xs) (suc k) d within here =
      omega (arith, sum_by-cons f x xs, sum_by-cons g x xs, less x, sum_less xs k d (omega (arith, within)) here)

one_if : Bool → ℕ
one_if b = if b then 1 else 0

fewer : (b c : Bool) → (b ≡ true → c ≡ true) → (if b then 1 else 0) ≤ (if c then 1 else 0)
fewer false c h = omega arith
fewer true c h = rw (h refl) (omega arith)

-- rivals have the same rivals
module _ (mode : Mode) where
  vies_eligible : (r t : Record) → is_eligible mode r ≡ true → vies mode r t ≡ (is_eligible mode t && t.core == r.core)
  vies_eligible r t e = rw e refl

  vies_queued : (r t : Record) (queue : Queue) → is_eligible mode r ≡ false → queue_in r ≡ Some queue
      → vies mode r t ≡ (not (is_eligible mode t) && is_queue queue (queue_in t))
  vies_queued r t queue e is = rw (e, is) refl

  -- a process that waits in a queue is not eligible
  queued_idle : (r : Record) (queue : Queue) → queue_in r ≡ Some queue → is_eligible mode r ≡ false
  queued_idle r queue is = elim (cases_Bool (is_eligible mode r)) [
    | inl e ↦ absurd (none-some queue (rw ((runnable mode r e).free) at is))
    | inr e ↦ e
  ]

  same_rivals : (r s t : Record) → AreRivals mode r s → vies mode r t ≡ vies mode s t
  unfolding runs_on
  same_rivals r s t (inl both) =
      let one = and_parts (is_eligible mode r) (r.core == both.0) both.1 in
      let other = and_parts (is_eligible mode s) (s.core == both.0) both.2 in
      let core : r.core ≡ s.core = eqb-true _ _ one.1 ∙ sym (eqb-true _ _ other.1) in
      vies_eligible r t one.0 ∙ ap (λ (c : ℕ). is_eligible mode t && t.core == c) core ∙ sym (vies_eligible s t other.0)
  same_rivals r s t (inr both) =
      let one = stands_in both.0 r both.1 in
      let other = stands_in both.0 s both.2 in
      vies_queued r t both.0 (queued_idle r both.0 one) one ∙ sym (vies_queued s t both.0 (queued_idle s both.0 other) other)

  -- a rival vies
  rival_vies : (r s : Record) → AreRivals mode r s → vies mode r s ≡ true
  unfolding runs_on
  rival_vies r s (inl both) =
      let one = and_parts (is_eligible mode r) (r.core == both.0) both.1 in
      let other = and_parts (is_eligible mode s) (s.core == both.0) both.2 in
      vies_eligible r s one.0 ∙ and_from _ _ other.0 (eq-eqb _ _ (eqb-true _ _ other.1 ∙ sym (eqb-true _ _ one.1)))
  rival_vies r s (inr both) =
      let one = stands_in both.0 r both.1 in
      let other = stands_in both.0 s both.2 in
      vies_queued r s both.0 (queued_idle r both.0 one) one
      ∙ and_from _ _ (not_from_false _ (queued_idle s both.0 other)) (ap (is_queue both.0) other ∙ queue_itself both.0)

int_lt_true : (a b : ℤ) → a <ℤ b → int_lt a b ≡ true
int_lt_true a b e = grind (arith, ints, e)

older_than : (a b : ℤ) → int_lt a b ≡ true → a <ℤ b
older_than a b e = grind (arith, ints, e)

chain : (a b c : ℤ) → int_lt a b ≡ true → int_lt b c ≡ true → int_lt a c ≡ true
chain a b c e f = grind (arith, ints, e, f)

not_itself : (a : ℤ) → int_lt a a ≡ false
not_itself a = grind (arith, ints)

level : (a b : ℤ) → int_lt a b ≡ false → int_lt b a ≡ false → a ≡ b
level a b e f = grind (arith, ints, e, f)

three_ways : (a b : ℤ) → (int_lt a b ≡ true) ⊎ ((a ≡ b) ⊎ (int_lt b a ≡ true))
three_ways a b = elim (cases_Bool (int_lt a b)) [
  | inl e ↦ inl e
  | inr e ↦ elim (cases_Bool (int_lt b a)) [
    | inl f ↦ inr (inr f)
    | inr f ↦ inr (inl (level a b e f))
  ]
]

-- an older rival has the lower rank
rank_less : (roster : Roster) (p q : ℕ) → p < length roster.records → AreRivals roster.mode (record_at roster p) (record_at roster q)
    → int_lt (record_at roster p).since (record_at roster q).since ≡ true
    → rank roster (record_at roster p) < rank roster (record_at roster q)
rank_less roster p q within rivals older =
    let r = record_at roster p in
    let s = record_at roster q in
    sum_less (λ t. if vies roster.mode r t && is_older t r then 1 else 0) (λ t. if vies roster.mode s t && is_older t s then 1 else 0)
    (λ t. fewer (vies roster.mode r t && is_older t r) (vies roster.mode s t && is_older t s)
    (λ h. let parts = and_parts (vies roster.mode r t) (is_older t r) h in
    and_from _ _ (sym (same_rivals roster.mode r s t rivals) ∙ parts.0) (chain t.since r.since s.since parts.1 older)))
    roster.records p nobody within
    (rw (not_older r, itself r s rivals older) (omega arith)) where
      not_older : (r : Record) → (vies roster.mode r r && is_older r r) ≡ false
      not_older r = and_right (vies roster.mode r r) (is_older r r) (not_itself r.since)

      itself : (r s : Record) → AreRivals roster.mode r s → is_older r s ≡ true → (vies roster.mode s r && is_older r s) ≡ true
      itself r s rivals older = and_from _ _ (rival_vies roster.mode s r (rivals_turned roster.mode r s rivals)) older

-- two stamps by ranks, and then by numbers
stamps_less : (i j n p q : ℕ) → i < j → p < n → i * n + p < j * n + q
stamps_less i j n p q less within =
    let more : (i + 1) * n ≤ j * n = mul-le-mul_right n (omega (arith, less)) in
    let split : (i + 1) * n ≡ i * n + 1 * n = add-mul i 1 n in
    omega (arith, more, split, within)

lt_pos : (a b : ℕ) → a < b → int_lt (pos (1 + a)) (pos (1 + b)) ≡ true
lt_pos a b e = grind (arith, ints, e)

ge_pos : (a b : ℕ) → b ≤ a → int_lt (pos (1 + a)) (pos (1 + b)) ≡ false
ge_pos a b e = grind (arith, ints, e)

-- instants that are not past, earlier and then later again
again : (d now : ℕ) (instant : Option ℕ) → d ≤ now → IsFrom now instant → later d (earlier d instant) ≡ instant
again d now None less from = refl
again d now (Some t) less from = let e : t - d + d ≡ t = omega (arith, from t refl, less) in ap Some e

-- the ages of releases
recent_less : (ticks : ℕ) (period : Option ℕ) → ((n : ℕ) → period ≡ Some n → 1 ≤ n) → recent ticks period ≤ ticks
recent_less ticks None some = omega arith
recent_less ticks (Some n) some =
    cond_both (nat_lt n ticks) (n + 1 + (ticks - (n + 1)) % n) ticks (λ x. x ≤ ticks)
    (λ long. let above = ltb-true n ticks long in
    let whole = div-add-mod' (ticks - (n + 1)) n in omega (arith, above, whole)) (λ _. omega arith)

age_less : (now : ℕ) (r : Record) → ((n : ℕ) → r.attributes.period ≡ Some n → 1 ≤ n) → age now r ≤ now
age_less now r some =
    cond_both (r.started && not (awaits_first r.wait)) (recent (now - r.release) r.attributes.period) 0 (λ x. x ≤ now)
    (λ _. omega (arith, recent_less (now - r.release) r.attributes.period some)) (λ _. omega arith)

oldest_least : (now : ℕ) (rs : List Record) (p : ℕ) → p < length rs → age now (get_or rs p nobody) ≤ oldest_age now rs
oldest_least now [] p within = absurd (omega (arith, within))
oldest_least now (r ∷ rs) zero within = omega arith
oldest_least now (r ∷ rs) (suc p) within = omega (arith, oldest_least now rs p (omega (arith, within)))

pub oldest_less : (now : ℕ) (rs : List Record) → ((p n : ℕ) → (get_or rs p nobody).attributes.period ≡ Some n → 1 ≤ n) → oldest_age now rs ≤ now
oldest_less now [] some = omega arith
oldest_less now (r ∷ rs) some = omega (arith, age_less now r (some 0), oldest_less now rs (λ p. some (suc p)))

-- a release by its age serves
serves_recent : (now start release : ℕ) (period : Option ℕ) → ((n : ℕ) → period ≡ Some n → 1 ≤ n) → release ≤ now
    → recent (now - release) period ≤ start → start ≤ now
    → ServesFor (now - start) start period (start - recent (now - release) period) release
serves_recent now start release None some before within less = tt
serves_recent now start release (Some n) some before within less = by_long (cases_Bool (nat_lt n (now - release))) where
  by_long : (nat_lt n (now - release) ≡ true) ⊎ (nat_lt n (now - release) ≡ false)
      → ServesAs (now - start) start n (start - recent (now - release) (Some n)) release
  by_long (inl long) =
      let ticks = now - release in
      let left = (ticks - (n + 1)) % n in
      let value : recent ticks (Some n) ≡ n + 1 + left = cond-true (nat_lt n ticks) (n + 1 + left) ticks long in
      let above = ltb-true n ticks long in
      let whole = div-add-mod' (ticks - (n + 1)) n in
      record {
        periods = (ticks - (n + 1)) / n;
        is = omega (arith, value, above, whole, before, within, less);
        past = inr (omega (arith, value, within));
      }
  by_long (inr short) =
      let ticks = now - release in
      let value : recent ticks (Some n) ≡ ticks = cond-false (nat_lt n ticks) (n + 1 + (ticks - (n + 1)) % n) ticks short in
      record { periods = 0; is = omega (arith, value, before, within, less); past = inl refl }

-- a change of the fields that the canonical form changes makes and ends no rivals
runs_still : (mode : Mode) (core : ℕ) (roster : Roster) (now p : ℕ) (r : Record)
    → runs_on mode core (canonical_record roster now p r) ≡ true → runs_on mode core r ≡ true
unfolding runs_on
runs_still mode core roster now p r h = h

waits_still : (queue : Queue) (roster : Roster) (now p : ℕ) (r : Record)
    → waits_in queue (canonical_record roster now p r) ≡ true → waits_in queue r ≡ true
unfolding waits_in
waits_still queue roster now p r h = h

module _ (roster : Roster) (fit : IsFit roster) where
  abbrev n : ℕ
  n = length roster.records

  abbrev start : ℕ
  start = oldest_age roster.now roster.records

  abbrev new : Roster
  new = canonical_roster roster

  many : length new.records ≡ n
  many = length-map_places (canonical_record roster start) 0 roster.records

  start_less : start ≤ roster.now
  start_less = oldest_less roster.now roster.records fit.spans

  at : (p : ℕ) → p < n → record_at new p ≡ canonical_record roster start p (record_at roster p)
  at p within =
      let z : 0 + p ≡ p = omega arith in
      rw (get_or-map_places (canonical_record roster start) 0 roster.records p nobody nobody within, z) refl

  canonical_later : (p : ℕ) → p < n → IsLater (roster.now - start) start (canonical_record roster start p (record_at roster p)) (record_at roster p)
  canonical_later p within =
      let r = record_at roster p in
      let d = roster.now - start in
      let few : d ≤ roster.now = omega arith in
      record {
        since = r.since;
        release = r.release;
        inbox = r.inbox;
        is = ap (λ (t : Option ℕ). record r { due = t }) (sym (again d roster.now r.due few (fit.dues p)))
            ∙ ap (λ (t : Option ℕ). record r { due = later d (earlier d r.due); deadline = t }) (sym (again d roster.now r.deadline few (fit.deadlines p)));
        released = λ begun free.
            let aged : age roster.now r ≡ recent (roster.now - r.release) r.attributes.period =
            cond-true (r.started && not (awaits_first r.wait)) (recent (roster.now - r.release) r.attributes.period) 0
            (and_from _ _ begun (not_from_false _ free)) in
            let oldest = oldest_least roster.now roster.records p within in
            subst (λ (a : ℕ). ServesFor d start r.attributes.period (start - a) r.release) (sym aged)
            (serves_recent roster.now start r.release r.attributes.period (fit.spans p) (fit.before p) (omega (arith, aged, oldest)) start_less);
        undue = λ waits. ap (earlier d) (fit.undue p waits);
        before = omega arith;
        spans = fit.spans p;
      }

  each_later : (p : ℕ) → IsLater (roster.now - start) start (record_at new p) (record_at roster p)
  each_later p = elim (cases_lt p n) [
    | inl within ↦ rw (at p within) (canonical_later p within)
    | inr past ↦
        let past2 : length new.records ≤ p = omega (arith, many, past) in
        rw (get_or_past new.records p nobody past2, get_or_past roster.records p nobody past) (nobody_later (roster.now - start) start)
  ]

  -- the stamps
  place : ℕ → ℕ
  place p = rank roster (record_at roster p) * n + p

  same_order : (p q : ℕ) → p < n → q < n → AreRivals roster.mode (record_at roster p) (record_at roster q)
      → is_older (record_at roster p) (record_at roster q) ≡ int_lt (pos (1 + (rank roster (record_at roster p) * n + p))) (pos (1 + (rank roster (record_at roster q) * n + q)))
  same_order p q here there rivals = elim (three_ways (record_at roster p).since (record_at roster q).since) [
    | inl older ↦
        older ∙ sym (lt_pos (rank roster (record_at roster p) * n + p) (rank roster (record_at roster q) * n + q)
        (stamps_less (rank roster (record_at roster p)) (rank roster (record_at roster q)) n p q (rank_less roster p q here rivals older) here))
    | inr other ↦ elim other [
      | inl level ↦
          let same : p ≡ q = fit.stamped.distinct.distinct p q here there level in
          ap (λ (x : ℤ). int_lt x (record_at roster q).since) level ∙ not_itself (record_at roster q).since
          ∙ sym (ge_pos (rank roster (record_at roster p) * n + p) (rank roster (record_at roster q) * n + q) (rw same (omega arith)))
      | inr younger ↦
          let turned = rivals_turned roster.mode (record_at roster p) (record_at roster q) rivals in
          let less = stamps_less (rank roster (record_at roster q)) (rank roster (record_at roster p)) n q p (rank_less roster q p there turned younger) there in
          younger_not (record_at roster p).since (record_at roster q).since younger
          ∙ sym (ge_pos (rank roster (record_at roster p) * n + p) (rank roster (record_at roster q) * n + q) (omega (arith, less)))
    ]
  ] where
    younger_not : (a b : ℤ) → int_lt b a ≡ true → int_lt a b ≡ false
    younger_not a b e = grind (arith, ints, e)

  since_at : (p : ℕ) → p < n → (record_at new p).since ≡ pos (1 + (rank roster (record_at roster p) * n + p))
  since_at p within = ap (λ (r : Record). r.since) (at p within)

  new_order : (p q : ℕ) → p < length new.records → q < length new.records → AreRivals new.mode (record_at new p) (record_at new q)
      → is_older (record_at roster p) (record_at roster q) ≡ is_older (record_at new p) (record_at new q)
  new_order p q here there rivals =
      let inside : p < n = omega (arith, here, many) in
      let inside2 : q < n = omega (arith, there, many) in
      rw (since_at p inside, since_at q inside2)
      (same_order p q inside inside2 (before p q inside inside2 rivals)) where
        before : (p q : ℕ) → p < n → q < n → AreRivals new.mode (record_at new p) (record_at new q) → AreRivals roster.mode (record_at roster p) (record_at roster q)
        before p q within within2 (inl both) = inl (
          both.0,
          runs_still roster.mode both.0 roster start p (record_at roster p) (subst (λ (r : Record). runs_on roster.mode both.0 r ≡ true) (at p within) both.1),
          runs_still roster.mode both.0 roster start q (record_at roster q) (subst (λ (r : Record). runs_on roster.mode both.0 r ≡ true) (at q within2) both.2),
        )
        before p q within within2 (inr both) = inr (
          both.0,
          waits_still both.0 roster start p (record_at roster p) (subst (λ (r : Record). waits_in both.0 r ≡ true) (at p within) both.1),
          waits_still both.0 roster start q (record_at roster q) (subst (λ (r : Record). waits_in both.0 r ≡ true) (at q within2) both.2),
        )

  new_stamped : IsStamped new
  new_stamped = record {
    given = λ p within.
        let inside : p < n = omega (arith, within, many) in
        let few = count_by-le-length (λ s. vies roster.mode (record_at roster p) s && is_older s (record_at roster p)) roster.records in
        let less = stamps_less (rank roster (record_at roster p)) (n + 1) n p 0 (omega (arith, few)) inside in
        rw (since_at p inside) (below (rank roster (record_at roster p) * n + p) ((n + 1) * n) (omega (arith, less)));
    newer = λ p within.
        let inside : p < n = omega (arith, within, many) in
        rw (since_at p inside) (above (rank roster (record_at roster p) * n + p));
    distinct = record {
      distinct = λ p q within there e.
          let inside : p < n = omega (arith, within, many) in
          let inside2 : q < n = omega (arith, there, many) in
          apart (rank roster (record_at roster p)) (rank roster (record_at roster q)) p q inside inside2
          (from_pos _ _ (sym (since_at p inside) ∙ e ∙ since_at q inside2));
    };
  } where
    below : (a b : ℕ) → a < b → pos (1 + a) <ℤ pos (1 + b)
    below a b e = omega (arith, ints, e)

    above : (a : ℕ) → pos 0 <ℤ pos (1 + a)
    above a = omega (arith, ints)

    from_pos : (a b : ℕ) → pos (1 + a) ≡ pos (1 + b) → a ≡ b
    from_pos a b e = omega (arith, ints, e)

    apart : (i j p q : ℕ) → p < n → q < n → i * n + p ≡ j * n + q → p ≡ q
    apart i j p q here there e = elim (cases_order i j) [
      | inl same ↦ let product : i * n ≡ j * n = ap (λ (k : ℕ). k * n) same in omega (arith, e, product)
      | inr other ↦ elim other [
        | inl less ↦ absurd (omega (arith, e, stamps_less i j n p q less here))
        | inr more ↦ absurd (omega (arith, e, stamps_less j i n q p more there))
      ]
    ]

  pub canonical_alike : AreAlike (roster.now - start) new roster
  canonical_alike = record {
    cores = refl;
    mode = refl;
    time = omega (arith, start_less);
    many = sym many;
    each = each_later;
    order = new_order;
    disciplines = refl;
    rules = refl;
    stamped = new_stamped;
    stamped2 = fit.stamped;
  }

-- a situation's
pub canonical_situation : (s : Situation) → IsFit s.roster
    → AreAlikeSituations (s.roster.now - oldest_age s.roster.now s.roster.records) (canonical s) s
canonical_situation s fit = record {
  rosters = canonical_alike s.roster fit;
  objects = refl;
  works = λ core. refl;
  made = refl;
}
