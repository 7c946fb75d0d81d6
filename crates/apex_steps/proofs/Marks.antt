-- The marks of a session while its history grows and is cut.
use Rattle.std.proofs.Common.{◌≡◌, ◌∙◌, ℕ, zero, suc, ◌<◌, ◌≤◌, Bool, true, false, None, Some, nat_lt, ltb-true, arith, refl, sym, ap, inl, inr, List, [], ◌∷◌, ◌++◌, length, length-append, take, drop, map, append_assoc, take-append-drop, rules}
use Rattle.std.specs.List.{position, position_or_len}
use Rattle.std.proofs.lemmas.Bool.{cases_lt, lt-ltb}
use Rattle.std.proofs.lemmas.List.{drop-map, drop_all, length-map, length-take-le, take-append-le, take-map, take_all}
use Rattle.apex_steps.specs.Terms.{Entry, Event}
use Rattle.apex_types.specs.declared.entries.Event.TheVariants.{Turn, Tick}
use Rattle.apex_machine.specs.table.Table.{Table}
use Rattle.apex_machine.specs.Machine.{Machine, accept, event_of, events_of, happen, opening, replay, run, tick, turn}
use Rattle.apex_laws.proofs.Runs.{accept-full, accept-room, run-append}
use Rattle.apex_console.proofs.ItemRuns.{length-run}
use Rattle.apex_dispatch.specs.Kernel.{KernelState, kernel_in}
use Rattle.apex_steps.specs.Kept.{AreKept, is_kept_as, mark_kept, session_kept}
use Rattle.apex_steps.specs.Sessions.{Mark, after_events, gone_back, in_state_of, is_named, marks_from}
use Rattle.apex_steps.specs.declared.sessions.Mark.{Mark as MarkKept}

-- a history grew by these entries
pub record Grows (old new : List Entry) : Type 0 where
  pub more : List Entry
  pub is : new ≡ old ++ more

grows_event : (table : Table) (machine : Machine) (event : Event) → Grows machine.history (happen table machine event).history
unfolding turn tick
grows_event table machine (Turn core) = record { more = _; is = refl }
grows_event table machine (Tick n) = record { more = _; is = refl }

grows_none : (history : List Entry) → Grows history history
grows_none history = record { more = []; is = search rules }

grows_accept : (table : Table) (machine : Machine) (event : Event) → Grows machine.history (accept table machine event).history
grows_accept table machine event = elim (cases_lt (length machine.history) table.limit) [
  | inl room ↦ rw (accept-room table machine event room) (grows_event table machine event)
  | inr full ↦ rw (accept-full table machine event full) (grows_none machine.history)
]

grows_more : (first second third : List Entry) → Grows first second → Grows second third → Grows first third
grows_more first second third one two = record {
  more = one.more ++ two.more;
  is = two.is ∙ ap (λ l. l ++ two.more) one.is ∙ append_assoc first one.more two.more;
}

-- a run adds entries
pub grows_run : (table : Table) (machine : Machine) (events : List Event) → Grows machine.history (run table machine events).history
grows_run table machine [] = grows_none machine.history
grows_run table machine (event ∷ events) =
    grows_more _ _ _ (grows_accept table machine event) (grows_run table (accept table machine event) events)

-- marks have no more entries than a longer history
pub kept_longer : (n more : ℕ) (marks : List MarkKept) → n ≤ more → AreKept n marks → AreKept more marks
kept_longer n more [] less kept = tt
kept_longer n more (mark ∷ older) less kept = (omega (arith, kept.0, less), kept.1)

-- the marks stay while the history grows
pub marks_stay : (table : Table) (old new : List Entry) (marks : List MarkKept) (n : ℕ) → Grows old new → n ≤ length old → AreKept n marks
    → map (mark_kept table new) marks ≡ map (mark_kept table old) marks
marks_stay table old new [] n grows few kept = refl
marks_stay table old new (mark ∷ older) n grows few kept =
    let same : take mark.entries new ≡ take mark.entries old =
    ap (take mark.entries) grows.is ∙ take-append-le mark.entries old grows.more (omega (arith, kept.0, few)) in
    let first : mark_kept table new mark ≡ mark_kept table old mark =
    ap (λ (l : List Entry). record { name = mark.name.items; machine = replay table l }) same in
    let rest = marks_stay table old new older mark.entries grows (omega (arith, kept.0, few)) kept.1 in
    ap (λ (m : Mark). m ∷ map (mark_kept table new) older) first ∙ ap (λ l. mark_kept table old mark ∷ l) rest

-- the state after the first entries of a history has these as its history
pub history_cut : (table : Table) (machine : Machine) (n : ℕ) → replay table machine.history ≡ machine
    → length machine.history ≤ table.limit → n ≤ length machine.history
    → (run table (opening table) (take n (events_of machine.history))).history ≡ take n machine.history
history_cut table machine n again within few =
    let events = events_of machine.history in
    let early = run table (opening table) (take n events) in
    let many : length events ≡ length machine.history = length-map machine.history event_of in
    let count : length (take n events) ≡ n = length-take-le n events (omega (arith, many, few)) in
    let long : length early.history ≡ n = omega (arith, count, length-run table (opening table) (take n events) (omega (arith, count, within, few))) in
    let whole : run table early (drop n events) ≡ machine =
    sym (run-append table (opening table) (take n events) (drop n events))
    ∙ ap (λ l. run table (opening table) l) (take-append-drop n events) ∙ again in
    let grows = grows_run table early (drop n events) in
    let is : machine.history ≡ early.history ++ grows.more = ap (λ (m : Machine). m.history) (sym whole) ∙ grows.is in
    sym (ap (take n) is ∙ take-append-le n early.history grows.more (omega (arith, long)) ∙ take_all n early.history (omega (arith, long)))

-- the first entries of a history grow to it
pub grows_cut : (n : ℕ) (history : List Entry) → Grows (take n history) history
grows_cut n history = record { more = drop n history; is = sym (take-append-drop n history) }

-- the older marks are kept as all are
pub kept_drop : (n i : ℕ) (marks : List MarkKept) → AreKept n marks → AreKept n (drop i marks)
kept_drop n zero marks kept = kept
kept_drop n (suc i) [] kept = tt
kept_drop n (suc i) (mark ∷ older) kept = kept_drop n i older (kept_longer mark.entries n older kept.0 kept.1)

-- ---- the session that a kernel and its marks are

grows_length : (old new : List Entry) → Grows old new → length old ≤ length new
grows_length old new grows = omega (arith, ap length grows.is, length-append old grows.more)

-- after events
module _ {S : Type 0} (old new : KernelState S) (marks : List MarkKept) (events : List Event) (store : S)
    (done : new ≡ kernel_in old.table (run old.table old.machine events) store) (kept : AreKept (length old.machine.history) marks) where
  grows : Grows old.machine.history (run old.table old.machine events).history
  grows = grows_run old.table old.machine events

  pub kept_grown : AreKept (length new.machine.history) marks
  kept_grown = rw done (kept_longer (length old.machine.history) _ marks (grows_length _ _ grows) kept)

  pub session_grown : session_kept new.table new.machine marks ≡ after_events (session_kept old.table old.machine marks) events
  session_grown = rw done (ap (λ ms. record { table = old.table; machine = run old.table old.machine events; marks = ms })
      (marks_stay old.table old.machine.history _ marks (length old.machine.history) grows (omega arith) kept))

-- back at a mark
pub session_back : (name : List ℕ) (table : Table) (machine new : Machine) (mark : MarkKept) (older marks : List MarkKept) (i : ℕ)
    → replay table machine.history ≡ machine → length machine.history ≤ table.limit
    → AreKept (length machine.history) marks → drop i marks ≡ mark ∷ older
    → position_or_len (is_named name) (map (mark_kept table machine.history) marks) ≡ i
    → new ≡ run table (opening table) (take mark.entries (events_of machine.history))
    → gone_back name (session_kept table machine marks) ≡ Some (session_kept table new (drop i marks))
session_back name table machine new mark older marks i again within kept here place made =
    let history = machine.history in
    let n = mark.entries in
    let some : AreKept (length history) (mark ∷ older) = rw here at (kept_drop (length history) i marks kept) in
    let cut : new.history ≡ take n history = rw made (history_cut table machine n again within some.0) in
    let is : new ≡ replay table (take n history) = made ∙ ap (run table (opening table)) (take-map event_of n history) in
    let stay : map (mark_kept table new.history) (mark ∷ older) ≡ map (mark_kept table history) (mark ∷ older) =
    ap (λ (h : List Entry). map (mark_kept table h) (mark ∷ older)) cut
    ∙ sym (marks_stay table (take n history) history (mark ∷ older) n (grows_cut n history)
    (omega (arith, length-take-le n history some.0)) (omega arith, some.1)) in
    let from : marks_from name (map (mark_kept table history) marks) ≡ map (mark_kept table history) (mark ∷ older) =
    ap (λ k. drop k (map (mark_kept table history) marks)) place ∙ drop-map (mark_kept table history) i marks ∙ ap (map (mark_kept table history)) here in
    ap (in_state_of (session_kept table machine marks)) from
    ∙ ap (λ m. Some (record { table = table; machine = m; marks = map (mark_kept table history) (mark ∷ older) })) (sym is)
    ∙ ap (λ ms. Some (record { table = table; machine = new; marks = ms })) (sym stay)
    ∙ ap (λ l. Some (session_kept table new l)) (sym here)

-- and its marks
pub kept_back : (machine : Machine) (n : ℕ) (mark : MarkKept) (older marks : List MarkKept) (i : ℕ) → AreKept n marks → drop i marks ≡ mark ∷ older
    → mark.entries ≤ length machine.history → AreKept (length machine.history) (drop i marks)
kept_back machine n mark older marks i kept here few =
    let some : AreKept n (mark ∷ older) = rw here at (kept_drop n i marks kept) in
    rw here (few, some.1)

-- ---- the place of a name

found_at : {X : Type 0} (p : X → Bool) (xs : List X) (i : ℕ) → position p xs ≡ Some i
    → (position_or_len p xs ≡ i) × (position_or_len p xs < length xs)
found_at p xs i found = go (nat_lt (position_or_len p xs) (length xs)) refl
  where
    go : (b : Bool) → nat_lt (position_or_len p xs) (length xs) ≡ b
        → (position_or_len p xs ≡ i) × (position_or_len p xs < length xs)
    go true t =
        let here : Some (position_or_len p xs) ≡ Some i = rw t at found in
        (cc, ltb-true _ _ t)
    go false t =
        let nowhere : None ≡ Some i = rw t at found in
        cc

missed : {X : Type 0} (p : X → Bool) (xs : List X) → position p xs ≡ None → length xs ≤ position_or_len p xs
missed p xs missing = elim (cases_lt (position_or_len p xs) (length xs)) [
  | inl within ↦
      let some : Some (position_or_len p xs) ≡ None = rw (lt-ltb _ _ within) at missing in
      cc
  | inr past ↦ past
]

-- marks that are kept have their names at the same places
named_places : (name : List ℕ) (table : Table) (history : List Entry) (marks : List MarkKept)
    → position_or_len (is_named name) (map (mark_kept table history) marks) ≡ position_or_len (is_kept_as name) marks
named_places name table history [] = refl
named_places name table history (mark ∷ older) = rw (named_places name table history older) refl

pub place_found : (name : List ℕ) (table : Table) (history : List Entry) (marks : List MarkKept) (i : ℕ)
    → position (is_kept_as name) marks ≡ Some i
    → (position_or_len (is_named name) (map (mark_kept table history) marks) ≡ i) × (i < length marks)
place_found name table history marks i found =
    let (place, within) = found_at (is_kept_as name) marks i found in
    (named_places name table history marks ∙ place, omega (arith, place, within))

-- no mark has the name
pub none_named : (name : List ℕ) (table : Table) (machine : Machine) (marks : List MarkKept) → position (is_kept_as name) marks ≡ None
    → gone_back name (session_kept table machine marks) ≡ None
none_named name table machine marks missing =
    let kept = map (mark_kept table machine.history) marks in
    let past : length marks ≤ position_or_len (is_kept_as name) marks = missed (is_kept_as name) marks missing in
    let none : marks_from name kept ≡ [] =
    drop_all (position_or_len (is_named name) kept) kept
    (omega (arith, past, named_places name table machine.history marks, length-map marks (mark_kept table machine.history))) in
    ap (in_state_of (session_kept table machine marks)) none
