-- Situations that are alike have the same canonical form.
use Rattle.std.proofs.Common.{◌≡◌, ℕ, ◌+◌, ◌-◌, ◌*◌, ◌%◌, ◌<◌, ◌≤◌, ◌⊎◌, ◌==◌, ◌&&◌, Bool, true, false, not, nat_lt, cond, List, [], ◌∷◌, length, Option, None, Some, pos, inl, inr, refl, sym, ◌∙◌, ap, subst, arith}
use Rattle.std.proofs.Math.Nat.{add-mul-mod_self_right}
use Rattle.std.proofs.lemmas.Bool.{and_from, and_parts, both_ways, cases_Bool, cases_lt, cond-true, eq-eqb, lt-ltb}
use Rattle.std.proofs.lemmas.List.{ext_get_or, get_or_past}
use Rattle.apex_laws.specs.Terms.{Mode, Queue, Record}
use Rattle.apex_machine.specs.processes.Periods.{awaits_first}
use Rattle.apex_machine.specs.processes.Roster.{Disciplines, MutexRules, Roster, nobody, record_at}
use Rattle.apex_machine.specs.processes.Running.{is_eligible, is_older, runs_on}
use Rattle.apex_machine.specs.processes.Waiters.{queue_in, waits_in}
use Rattle.apex_types.specs.Places.{map_places}
use Rattle.apex_types.proofs.Places.{get_or-map_places, length-map_places}
use Rattle.apex_machine.proofs.Starts.{waits_there}
use Rattle.apex_alike.specs.Alike.{AreAlike, AreRivals, IsLater, ServesFor, later}
use Rattle.apex_alike.specs.Canonical.{age, canonical_record, canonical_roster, earlier, oldest_age, rank, recent, shares, vies}
use Rattle.apex_types.specs.declared.modes.Mode.TheVariants.{Idle, ColdStart, Normal}
use Rattle.apex_alike.proofs.Canonical.{oldest_less}
use Rattle.apex_alike.proofs.Chains.{unmoved}
use Rattle.apex_alike.proofs.Changes.{rivals_turned}
use Rattle.apex_alike.proofs.Choices.{all}
use Rattle.apex_alike.proofs.Lists.{Each, each_of, same_count}

-- the ages of releases that serve alike
recent_long : (n ticks : ℕ) → n < ticks → recent ticks (Some n) ≡ n + 1 + (ticks - (n + 1)) % n
recent_long n ticks long = cond-true (nat_lt n ticks) (n + 1 + (ticks - (n + 1)) % n) ticks (lt-ltb n ticks long)

same_recent : (d now first second : ℕ) (period : Option ℕ) → first ≤ now → ServesFor d now period first second
    → recent (now + d - second) period ≡ recent (now - first) period
same_recent d now first second None before serves = refl
same_recent d now first second (Some n) before serves = by_past serves.past where
  by_past : (serves.periods ≡ 0) ⊎ (first + n < now) → recent (now + d - second) (Some n) ≡ recent (now - first) (Some n)
  by_past (inl none) =
      let same : now + d - second ≡ now - first = omega (arith, serves.is, unmoved serves.periods n none) in
      ap (λ (t : ℕ). recent t (Some n)) same
  by_past (inr past) =
      let long : n < now - first = omega (arith, past) in
      let more : now + d - second ≡ now - first + serves.periods * n = omega (arith, serves.is, before) in
      let longer : n < now - first + serves.periods * n = omega (arith, long) in
      let left : now - first + serves.periods * n - (n + 1) ≡ now - first - (n + 1) + serves.periods * n = omega (arith, long) in
      ap (λ (t : ℕ). recent t (Some n)) more ∙ recent_long n (now - first + serves.periods * n) longer
      ∙ ap (λ (t : ℕ). n + 1 + t % n) left ∙ ap (λ (t : ℕ). n + 1 + t) (add-mul-mod_self_right (now - first - (n + 1)) serves.periods n)
      ∙ sym (recent_long n (now - first) long)

same_age : {d now : ℕ} {r s : Record} → IsLater d now r s → age (now + d) s ≡ age now r
same_age {d} {now} {r} {s} is = ap (age (now + d)) is.is ∙ by_cases (r.started) (awaits_first r.wait) refl refl where
  by_cases : (begun waits : Bool) → r.started ≡ begun → awaits_first r.wait ≡ waits
      → cond (r.started && not (awaits_first r.wait)) (recent (now + d - is.release) r.attributes.period) 0
      ≡ cond (r.started && not (awaits_first r.wait)) (recent (now - r.release) r.attributes.period) 0
  by_cases true false e f =
      ap (λ (t : ℕ). cond (r.started && not (awaits_first r.wait)) t 0)
      (same_recent d now r.release is.release r.attributes.period is.before (is.released e f))
  by_cases false waits e f = rw e refl
  by_cases true true e f = rw (e, f) refl

same_oldest : (d now : ℕ) (rs ss : List Record) → Each (IsLater d now) rs ss → oldest_age (now + d) ss ≡ oldest_age now rs
same_oldest d now [] [] each = refl
same_oldest d now [] (s ∷ ss) each = absurd each
same_oldest d now (r ∷ rs) [] each = absurd each
same_oldest d now (r ∷ rs) (s ∷ ss) each = rw (same_age each.0, same_oldest d now rs ss each.1) refl

-- a process that vies with another is its rival
vies_rival : (mode : Mode) (r s : Record) → vies mode r s ≡ true → AreRivals mode r s
unfolding runs_on waits_in
vies_rival mode r s h = by_eligible (cases_Bool (is_eligible mode r)) where
  by_queue : (found : Option Queue) → queue_in r ≡ found → shares found (queue_in s) ≡ true → AreRivals mode r s
  by_queue None is e = cc
  by_queue (Some queue) is e = inr (queue, waits_there queue r is, e)

  by_eligible : (is_eligible mode r ≡ true) ⊎ (is_eligible mode r ≡ false) → AreRivals mode r s
  by_eligible (inl e) =
      let parts = and_parts (is_eligible mode s) (s.core == r.core) (rw e at h) in inl (r.core, and_from _ _ e (eq-eqb r.core r.core refl), and_from _ _ parts.0 parts.1)
  by_eligible (inr e) =
      let parts = and_parts (not (is_eligible mode s)) (shares (queue_in r) (queue_in s)) (rw e at h) in by_queue (queue_in r) refl parts.1

-- two processes vie in the one roster as in the other
same_vies : {d now : ℕ} {r s x y : Record} (mode mode2 : Mode) → mode2 ≡ mode → IsLater d now r s → IsLater d now x y → vies mode2 s y ≡ vies mode r x
same_vies {d} {now} {r} {s} {x} {y} mode mode2 e one other =
    ap (λ (m : Mode). vies m s y) e ∙ ap (λ (z : Record). vies mode z y) one.is ∙ ap (vies mode r) other.is

-- nobody vies
nobody_vies : (mode : Mode) (r : Record) → vies mode r nobody ≡ true → ⊥
nobody_vies mode r h = by_eligible (cases_Bool (is_eligible mode r)) where
  idle : (m : Mode) → is_eligible m nobody ≡ false
  idle Idle = refl
  idle ColdStart = refl
  idle Normal = refl

  by_queue : (found : Option Queue) → shares found (queue_in nobody) ≡ true → ⊥
  by_queue None e = both_ways false refl e
  by_queue (Some queue) e = both_ways false refl e

  by_eligible : (is_eligible mode r ≡ true) ⊎ (is_eligible mode r ≡ false) → ⊥
  by_eligible (inl e) = both_ways _ (idle mode) (and_parts (is_eligible mode nobody) (nobody.core == r.core) (rw e at h)).0
  by_eligible (inr e) = by_queue (queue_in r) (and_parts (not (is_eligible mode nobody)) (shares (queue_in r) (queue_in nobody)) (rw e at h)).1

module _ {d : ℕ} {first second : Roster} (alike : AreAlike d first second) where
  -- ranks
  module _ (p : ℕ) (known : p < length first.records) where
    abbrev r : Record
    r = record_at first p

    abbrev s : Record
    s = record_at second p

    -- the records of one place, whose stamps are alike if they vie with process p
    abbrev Sides : Record → Record → Type 0
    Sides x y = IsLater d first.now x y × (vies first.mode r x ≡ true → is_older y s ≡ is_older x r)

    side : (q : ℕ) → Sides (record_at first q) (record_at second q)
    side q = (alike.each q, older) where
      older : vies first.mode r (record_at first q) ≡ true → is_older (record_at second q) s ≡ is_older (record_at first q) r
      older h = elim (cases_lt q (length first.records)) [
        | inl within ↦
            alike.order q p within known (rivals_turned first.mode r (record_at first q) (vies_rival first.mode r (record_at first q) h))
        | inr past ↦
            absurd (nobody_vies first.mode r (subst (λ (x : Record). vies first.mode r x ≡ true) (get_or_past first.records q nobody past) h))
      ]

    same_test : (x y : Record) → Sides x y → (vies second.mode s y && is_older y s) ≡ (vies first.mode r x && is_older x r)
    same_test x y sides =
        let same = same_vies first.mode second.mode alike.mode (alike.each p) sides.0 in
        ap (λ (b : Bool). b && is_older y s) same ∙ by_vies (vies first.mode r x) refl where
          by_vies : (b : Bool) → vies first.mode r x ≡ b → (vies first.mode r x && is_older y s) ≡ (vies first.mode r x && is_older x r)
          by_vies true e = ap (λ (b : Bool). vies first.mode r x && b) (sides.1 e)
          by_vies false e = rw e refl

    same_rank : rank second s ≡ rank first r
    same_rank =
        same_count Sides (λ t. vies first.mode r t && is_older t r) (λ t. vies second.mode s t && is_older t s) same_test
        first.records second.records (each_of Sides first.records second.records alike.many side)

  abbrev start : ℕ
  start = oldest_age first.now first.records

  same_start : oldest_age second.now second.records ≡ start
  same_start =
      ap (λ (t : ℕ). oldest_age t second.records) alike.time
      ∙ same_oldest d first.now first.records second.records (all alike)

  same_earlier : (start : ℕ) → start ≤ first.now → (instant : Option ℕ)
      → earlier (second.now - start) (later d instant) ≡ earlier (first.now - start) instant
  same_earlier start within None = refl
  same_earlier start within (Some t) =
      let e : t + d - (second.now - start) ≡ t - (first.now - start) = omega (arith, alike.time, within) in ap Some e

  -- the canonical record, by what it takes from the roster
  abbrev formed : ℕ → ℕ → ℕ → ℕ → Option ℕ → Option ℕ → ℕ → Record → Record
  formed start p n k due deadline ticks x = record x {
    since = pos (1 + (k * n + p));
    due = due;
    deadline = deadline;
    release = start - ticks;
    inbox = None;
  }

  same_record : (start : ℕ) → start ≤ first.now → (p : ℕ) → p < length first.records
      → canonical_record second start p (record_at second p) ≡ canonical_record first start p (record_at first p)
  same_record start within p known =
      let r = record_at first p in
      let s = record_at second p in
      let is = alike.each p in
      let due : earlier (second.now - start) s.due ≡ earlier (first.now - start) r.due =
      ap (λ (x : Record). earlier (second.now - start) x.due) is.is ∙ same_earlier start within r.due in
      let deadline : earlier (second.now - start) s.deadline ≡ earlier (first.now - start) r.deadline =
      ap (λ (x : Record). earlier (second.now - start) x.deadline) is.is ∙ same_earlier start within r.deadline in
      let ticks : age second.now s ≡ age first.now r = ap (λ (t : ℕ). age t s) alike.time ∙ same_age is in
      ap (λ (n : ℕ). formed start p n (rank second s) (earlier (second.now - start) s.due) (earlier (second.now - start) s.deadline) (age second.now s) s) alike.many
      ∙ ap (λ (k : ℕ). formed start p (length first.records) k (earlier (second.now - start) s.due) (earlier (second.now - start) s.deadline) (age second.now s) s) (same_rank p known)
      ∙ ap (λ (t : Option ℕ). formed start p (length first.records) (rank first r) t (earlier (second.now - start) s.deadline) (age second.now s) s) due
      ∙ ap (λ (t : Option ℕ). formed start p (length first.records) (rank first r) (earlier (first.now - start) r.due) t (age second.now s) s) deadline
      ∙ ap (λ (a : ℕ). formed start p (length first.records) (rank first r) (earlier (first.now - start) r.due) (earlier (first.now - start) r.deadline) a s) ticks
      ∙ ap (formed start p (length first.records) (rank first r) (earlier (first.now - start) r.due) (earlier (first.now - start) r.deadline) (age first.now r)) is.is

  same_records : (start : ℕ) → start ≤ first.now
      → map_places (canonical_record second start) 0 second.records ≡ map_places (canonical_record first start) 0 first.records
  same_records start within =
      let many2 = length-map_places (canonical_record second start) 0 second.records in
      let many = length-map_places (canonical_record first start) 0 first.records in
      ext_get_or nobody _ _ (many2 ∙ alike.many ∙ sym many) (λ p below.
      let known : p < length first.records = omega (arith, below, many2, alike.many) in
      let known2 : p < length second.records = omega (arith, below, many2) in
      let z : 0 + p ≡ p = omega arith in
      rw (
        get_or-map_places (canonical_record second start) 0 second.records p nobody nobody known2,
        get_or-map_places (canonical_record first start) 0 first.records p nobody nobody known,
        z,
      )
      (same_record start within p known))

  -- the canonical roster, by its parts
  abbrev shaped : ℕ → Mode → ℕ → List Record → ℕ → Disciplines → MutexRules → Roster
  shaped cores mode now records n disciplines rules = record {
    cores = cores;
    mode = mode;
    now = now;
    records = records;
    young = pos (1 + (n + 1) * n);
    old = pos 0;
    disciplines = disciplines;
    rules = rules;
  }

  pub same_canonical : canonical_roster second ≡ canonical_roster first
  same_canonical =
      let before : start ≤ first.now = oldest_less first.now first.records (λ p. (alike.each p).spans) in
      let records : map_places (canonical_record second (oldest_age second.now second.records)) 0 second.records ≡ map_places (canonical_record first start) 0 first.records =
      ap (λ (t : ℕ). map_places (canonical_record second t) 0 second.records) same_start ∙ same_records start before in
      ap (λ c. shaped c second.mode (oldest_age second.now second.records) (canonical_roster second).records (length second.records) second.disciplines second.rules) alike.cores
      ∙ ap (λ m. shaped first.cores m (oldest_age second.now second.records) (canonical_roster second).records (length second.records) second.disciplines second.rules) alike.mode
      ∙ ap (λ t. shaped first.cores first.mode t (canonical_roster second).records (length second.records) second.disciplines second.rules) same_start
      ∙ ap (λ rs. shaped first.cores first.mode start rs (length second.records) second.disciplines second.rules) records
      ∙ ap (λ n. shaped first.cores first.mode start (canonical_roster first).records n second.disciplines second.rules) alike.many
      ∙ ap (λ x. shaped first.cores first.mode start (canonical_roster first).records (length first.records) x second.rules) alike.disciplines
      ∙ ap (shaped first.cores first.mode start (canonical_roster first).records (length first.records) first.disciplines) alike.rules
