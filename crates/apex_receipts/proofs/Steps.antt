-- Each kind of step keeps the rule of the book.
use Rattle.std.proofs.Common.{◌≡◌, ℕ, ◌<◌, ◌⊎◌, ◌==◌, true, false, List, [], ◌∷◌, ◌++◌, length, slice_set, refl, ap, sym, ◌∙◌, subst, arith, inl, inr, None, Option, Bool, if◌then◌else◌}
use Rattle.std.proofs.lemmas.Bool.Decides.{nat_tests}
use Rattle.std.proofs.lemmas.List.{append-nil}
use mathlib.Core.List.{IsPrefix}
use prog.Atomic.{either}
use Rattle.logbook.specs.Pages.{Cell, Nib, Step, View, cell, gives, adds, no_nib, may_write, step, Moves}
use Rattle.apex_receipts.specs.declared.law.Note.{Note}
use Rattle.apex_receipts.specs.Notes.{AllUsed, IsAlone, IsFair, IsHome, is_by, key_of, keys_after, next_keys, said, written}
use Rattle.apex_receipts.specs.Rules.{HasHeard, HasSaid, Hears, IsKept, MaySay, Says, Takes}
use Rattle.apex_receipts.proofs.Homes.{more_keeps, set_home, set_keeps, set_length, used_keeps, used_snoc}
use Rattle.apex_receipts.proofs.Counts.{count_append, fair_snoc, said_grows}
use Rattle.apex_receipts.proofs.Alone.{alone, alone_key, alone_written, keys_append}
use Rattle.apex_receipts.proofs.Prefixes.{prefix_trans}

abbrev pub shown : List Note → List Note
shown log = []

abbrev pub moved : List Note → List Note → ℕ → Type 0
moved xs ys n = Unit {0}

-- the word stays 0 if it was 0
abbrev pub found : ℕ → ℕ
found n = either (n == 0) 0 n

pub takes_moves : (v : List Note) (ask : Note)
    → Moves IsKept shown moved 0 (v, (no_nib, None)) (λ n. either (n == 0) 0 n) (Takes (step 0 0 0 ask) (v, (no_nib, None)))
takes_moves v ask cells log kept begins away =
    let all : log ++ [] ≡ log = append-nil log in
    let later : List Cell = slice_set cells 0 (found (cell cells 0).0, true) in
    let keep : (k : ℕ) → IsHome cells k → IsHome (later ++ (0, false) ∷ []) k =
    λ k h. more_keeps later ((0, false) ∷ []) k (set_keeps cells 0 (found (cell cells 0).0) k h) in (
      kept.head.0,
      kept.head.1,
      (
        adds,
        [],
        None,
        tt,
        record {
          head = keep 0 kept.head;
          used = subst (λ (l : List Note). AllUsed (later ++ (0, false) ∷ []) (λ (k : ℕ). k) l) (sym all)
              (used_keeps cells (later ++ (0, false) ∷ []) keep (λ (k : ℕ). k) log kept.used);
          fair = subst IsFair (sym all) kept.fair;
        },
        inl (refl, refl),
        refl,
      ),
    )

-- the note may still be added to the log as it is
pub may_still : (own known log : List Note) (n : Note) → IsAlone n.by own log → IsPrefix known log → MaySay own known n
    → (n.of ≡ n.by) ⊎ (written n.by n.of log < said n.of log)
may_still own known log n a begins (inl own_note) = inl own_note
may_still own known log n a begins (inr less) =
    inr (omega (arith, less, alone_written n.by n.of own log a, ap (λ (l : List Note). said n.of l) begins.1, count_append (is_by n.of) known begins.0))

pub says_moves : (own known : List Note) (p : Nib) (n : Note) → p.right ≡ may_write → p.key ≡ key_of n.by own
    → IsPrefix own known → MaySay own known n
    → Moves IsKept shown moved 0 (known, (p, None)) (λ n. either (n == 0) 0 n) (Says (step 0 0 0 n) (known, (p, None)))
says_moves own known p n right key first may cells log kept begins away =
    let there = away right in
    let whole : IsPrefix own log = prefix_trans own known log first begins in
    let a : IsAlone n.by own log = alone cells n.by p.key own log kept.used whole key there.1 in
    let set1 : List Cell = slice_set cells 0 (found (cell cells 0).0, true) in
    let set2 : List Cell = slice_set set1 p.key (p.value, true) in
    let keep : (k : ℕ) → IsHome cells k → IsHome set2 k =
    λ k h. set_keeps set1 p.key p.value k (set_keeps cells 0 (found (cell cells 0).0) k h) in
    let long : p.key < length set1 = omega (arith, there.0, set_length cells 0 (found (cell cells 0).0, true)) in
    let home : IsHome set2 p.key = set_home set1 p.key p.value long in
    let next : IsHome set2 (keys_after (λ (k : ℕ). k) log n.by) =
    subst (λ (k : ℕ). IsHome set2 k) (key ∙ sym (alone_key n.by own log a)) home in (
      kept.head.0,
      kept.head.1,
      (
        gives,
        n ∷ [],
        None,
        right,
        record {
          head = keep 0 kept.head;
          used = used_snoc set2 (λ (k : ℕ). k) log n (used_keeps cells set2 keep (λ (k : ℕ). k) log kept.used) next;
          fair = fair_snoc log n kept.fair (may_still own known log n a begins may);
        },
        inl (refl, refl),
        record { cells = cells; before = log; kept = kept; away = there.1; begins = begins; added = refl },
      ),
    )

-- the note that was added names the next pen
pub key_snoc : (o : ℕ) (before : List Note) (n : Note) → n.by ≡ o → key_of o (before ++ n ∷ []) ≡ n.key
key_snoc o before n by =
    let is : (n.by == o) ≡ true = grind (arith, nat_tests) in
    let old : ℕ → ℕ = keys_after (λ (k : ℕ). k) before in
    let last : next_keys old n o ≡ n.key = ap (λ (b : Bool). if b then n.key else old o) is in
    ap (λ (keys : ℕ → ℕ). keys o) (keys_append (λ (k : ℕ). k) before (n ∷ [])) ∙ last

-- a step that adds the note has said it
pub has_said : (own known : List Note) (p : Nib) (t : Option ℕ) (s : Step Note) (n : Note) (k : ℕ) (w : View Note ℕ) → s.ask ≡ n
    → p.key ≡ key_of n.by own → IsPrefix own known → Says s (known, (p, t)) k w → HasSaid own known n w.0
has_said own known p t s n k w ask key first told =
    record {
      before = told.before;
      heard = record {
        alone = alone told.cells n.by p.key own told.before told.kept.used (prefix_trans own known told.before first told.begins) key told.away;
        knew = told.begins;
        fair = told.kept.fair;
      };
      added = told.added ∙ ap (λ (m : Note). told.before ++ m ∷ []) ask;
    }

pub has_heard : (own known all : List Note) (p : Nib) (o : ℕ) (t : Option ℕ) (s : Step Note) (k : ℕ) (w : View Note ℕ)
    → p.key ≡ key_of o own → IsPrefix own all → IsPrefix known all → IsPrefix all w.0
    → Hears s (all, (p, t)) k w → HasHeard own known w.0 o
has_heard own known all p o t s k w key first second third told =
    record {
      alone = alone told.cells o p.key own w.0 told.kept.used (prefix_trans own all w.0 first third) key told.away;
      knew = prefix_trans known all w.0 second third;
      fair = told.kept.fair;
    }

-- the same of fewer notes that were known
pub has_said_less : (own known all : List Note) (n m : Note) (log : List Note) → IsPrefix known all → n ≡ m
    → HasSaid own all n log → HasSaid own known m log
has_said_less own known all n m log begins same h =
    subst (λ (k : Note). HasSaid own known k log) same (record {
      before = h.before;
      heard = record {
        alone = h.heard.alone;
        knew = prefix_trans known all h.before begins h.heard.knew;
        fair = h.heard.fair;
      };
      added = h.added;
    })

-- a note for a speaker that has said more than was written for it may be added
pub may_write_for : (own known all : List Note) (l o : ℕ) (n : Note) → n.by ≡ l → n.of ≡ o → IsPrefix known all
    → written l o own < said o known → MaySay own all n
may_write_for own known all l o n by of begins less =
    inr (rw (by, of) (omega (arith, less, said_grows o known all begins)))
