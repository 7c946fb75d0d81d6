-- The dump of a run, one step more each time.
use Rattle.std.proofs.Common.{◌≡◌, ◌∙◌, ℕ, zero, suc, ◌+◌, ◌<◌, ◌≤◌, List, [], ◌∷◌, ◌++◌, refl, sym, ap, arith, add-one, get_or, length, subst, append-nil, append_assoc, length-append, inl, inr}
use Rattle.std.proofs.Math.Seq.{get_or-append_seam, take-length}
use Rattle.std.proofs.lemmas.Bool.{cases_lt}
use Rattle.std.proofs.lemmas.List.{get_or_append_left, take-append-le}
use Rattle.std.specs.Prelude.{take}
use Rattle.apex_machine.specs.Machine.{Machine, accept, events_of, objects_after, opening, replay, run}
use Rattle.apex_machine.specs.processes.Roster.{Roster, opening_roster}
use Rattle.apex_machine.specs.table.Table.{Table}
use Rattle.apex_machine.specs.text.Listing.{texts_of}
use Rattle.apex_laws.proofs.Runs.{accept-full, accept-room}
use Rattle.apex_moments.specs.Instants.{instant_after}
use Rattle.apex_waves.specs.Instants.{units}
use Rattle.apex_types.specs.declared.entries.Entry.{Entry}
use Rattle.apex_types.specs.declared.entries.Event.{Event}
use Rattle.apex_moments.proofs.Pictured.{event_adds, longer}
use Rattle.apex_waves.specs.Dumps.{entry_text, step_text, steps_text, time_after}
use Rattle.apex_waves.specs.Snapshots.{Snapshot, roster_after, snapshot_after, snapshot_in, snapshot_of}
use Rattle.apex_waves.specs.Printing.{IsFollowed}

texts_same : (f g : ℕ → List ℕ) (n : ℕ) → ((k : ℕ) → k < n → f k ≡ g k) → texts_of f n ≡ texts_of g n
texts_same f g zero same = refl
texts_same f g (suc n) same =
    ap (λ (l : List ℕ). l ++ f n) (texts_same f g n (λ k within. same k (omega (arith, within))))
    ∙ ap (λ (l : List ℕ). texts_of g n ++ l) (same n (omega arith))

-- the snapshot after all entries is the machine's
snapshot_now : (table : Table) (machine : Machine) → IsFollowed table machine
    → snapshot_after table machine (length machine.history) ≡ snapshot_in table machine
snapshot_now table machine followed =
    ap (λ (r : Roster). snapshot_of r (objects_after table (take (length machine.history) machine.history))) followed.last
    ∙ ap (λ (l : List Entry). snapshot_of machine.roster (objects_after table l)) (take-length machine.history)

-- a machine with one entry more
module _ (table : Table) (machine : Machine) (followed : IsFollowed table machine) where
  module _ (entry : Entry) (roster : Roster) where
    abbrev more : Machine
    more = longer machine entry roster

    many : length more.history ≡ length machine.history + 1
    many = length-append machine.history (entry ∷ [])

    snapshot_kept : (k : ℕ) → k ≤ length machine.history → snapshot_after table more k ≡ snapshot_after table machine k
    snapshot_kept k within =
        ap (λ (r : Roster). snapshot_of r (objects_after table (take k more.history)))
        (get_or_append_left (opening_roster table ∷ machine.past) (roster ∷ []) (opening_roster table) k
        (omega (arith, within, followed.many)))
        ∙ ap (λ (l : List Entry). snapshot_of (roster_after table machine k) (objects_after table l))
        (take-append-le k machine.history (entry ∷ []) within)

    time_kept : (k : ℕ) → k ≤ length machine.history → time_after more k ≡ time_after machine k
    time_kept k within =
        ap (λ (l : List Entry). units (instant_after l)) (take-append-le k machine.history (entry ∷ []) within)

    entry_kept : (k : ℕ) → k < length machine.history → entry_text table more k ≡ entry_text table machine k
    unfolding entry_text
    entry_kept k within =
        ap (λ (t : ℕ). step_text table t (snapshot_after table more k) (snapshot_after table more (k + 1))) (time_kept (k + 1) (omega (arith, within)))
        ∙ ap (λ (m : Snapshot). step_text table (time_after machine (k + 1)) m (snapshot_after table more (k + 1))) (snapshot_kept k (omega (arith, within)))
        ∙ ap (λ (m : Snapshot). step_text table (time_after machine (k + 1)) (snapshot_after table machine k) m) (snapshot_kept (k + 1) (omega (arith, within)))

    followed_longer : IsFollowed table more
    followed_longer = record {
      many = rw (length-append, length-append) (omega (arith, followed.many));
      last =
          let seam : get_or ((opening_roster table ∷ machine.past) ++ roster ∷ []) (length (opening_roster table ∷ machine.past)) (opening_roster table) ≡ roster =
          get_or-append_seam (opening_roster table ∷ machine.past) roster [] (opening_roster table) in
          let at : length (opening_roster table ∷ machine.past) ≡ length more.history = omega (arith, many, followed.many) in
          subst (λ (k : ℕ). roster_after table more k ≡ roster) at seam;
    }

    -- the step of the last entry
    entry_last : entry_text table more (length machine.history)
        ≡ step_text table (units (instant_after more.history)) (snapshot_in table machine) (snapshot_in table more)
    unfolding entry_text
    entry_last =
        let n = length machine.history in
        let whole : take (n + 1) more.history ≡ more.history =
        ap (λ (k : ℕ). take k more.history) (sym many) ∙ take-length more.history in
        let last : snapshot_after table more (n + 1) ≡ snapshot_in table more =
        ap (snapshot_after table more) (sym many) ∙ snapshot_now table more followed_longer in
        ap (λ (l : List Entry). step_text table (units (instant_after l)) (snapshot_after table more n) (snapshot_after table more (n + 1))) whole
        ∙ ap (λ (m : Snapshot). step_text table (units (instant_after more.history)) m (snapshot_after table more (n + 1)))
        (snapshot_kept n (omega arith) ∙ snapshot_now table machine followed)
        ∙ ap (λ (m : Snapshot). step_text table (units (instant_after more.history)) (snapshot_in table machine) m) last

    steps_longer : steps_text table more ≡ steps_text table machine
        ++ step_text table (units (instant_after more.history)) (snapshot_in table machine) (snapshot_in table more)
    steps_longer =
        let n = length machine.history in
        let next : texts_of (entry_text table more) (n + 1) ≡ texts_of (entry_text table more) n ++ entry_text table more n = rw (add-one n) refl in
        ap (texts_of (entry_text table more)) many ∙ next
        ∙ ap (λ (l : List ℕ). l ++ entry_text table more n) (texts_same (entry_text table more) (entry_text table machine) n entry_kept)
        ∙ ap (λ (l : List ℕ). steps_text table machine ++ l) entry_last

  pub followed_accept : (event : Event) → IsFollowed table (accept table machine event)
  followed_accept event = elim (cases_lt (length machine.history) table.limit) [
    | inl room ↦
        let (entry, roster, is) = event_adds table machine event in
        subst (IsFollowed table) (sym (accept-room table machine event room ∙ is)) (followed_longer entry roster)
    | inr full ↦ subst (IsFollowed table) (sym (accept-full table machine event full)) followed
  ]

  -- the step that an event adds, for which there was room
  pub step_more : (event : Event) (new : Machine) → length machine.history < table.limit → new ≡ accept table machine event
      → steps_text table new ≡ steps_text table machine
      ++ step_text table (units (instant_after new.history)) (snapshot_in table machine) (snapshot_in table new)
  step_more event new room is =
      let (entry, roster, adds) = event_adds table machine event in
      let whole : new ≡ longer machine entry roster = is ∙ accept-room table machine event room ∙ adds in
      ap (steps_text table) whole ∙ steps_longer entry roster
      ∙ ap (λ (m : Machine). steps_text table machine
      ++ step_text table (units (instant_after m.history)) (snapshot_in table machine) (snapshot_in table m)) (sym whole)

  -- an event adds steps
  accept_grows : (event : Event) → (more : List ℕ) × (steps_text table (accept table machine event) ≡ steps_text table machine ++ more)
  accept_grows event = elim (cases_lt (length machine.history) table.limit) [
    | inl room ↦ (_, step_more event (accept table machine event) room refl)
    | inr full ↦ ([], ap (steps_text table) (accept-full table machine event full) ∙ sym (append-nil (steps_text table machine)))
  ]

-- a run adds steps
pub run_grows : (table : Table) (events : List Event) (machine : Machine) → IsFollowed table machine
    → (more : List ℕ) × (steps_text table (run table machine events) ≡ steps_text table machine ++ more)
run_grows table [] machine followed = ([], sym (append-nil (steps_text table machine)))
run_grows table (event ∷ events) machine followed =
    let (first, one) = accept_grows table machine followed event in
    let (others, rest) = run_grows table events (accept table machine event) (followed_accept table machine followed event) in
    (first ++ others, rest ∙ ap (λ (l : List ℕ). l ++ others) one ∙ append_assoc (steps_text table machine) first others)

followed_run : (table : Table) (events : List Event) (machine : Machine) → IsFollowed table machine
    → IsFollowed table (run table machine events)
followed_run table [] machine followed = followed
followed_run table (event ∷ events) machine followed =
    followed_run table events (accept table machine event) (followed_accept table machine followed event)

pub followed_opening : (table : Table) → IsFollowed table (opening table)
followed_opening table = record { many = refl; last = refl }

-- the machine of a history is followed
pub followed_machine : (table : Table) (machine : Machine) → replay table machine.history ≡ machine → IsFollowed table machine
followed_machine table machine again =
    subst (IsFollowed table) again (followed_run table (events_of machine.history) (opening table) (followed_opening table))
