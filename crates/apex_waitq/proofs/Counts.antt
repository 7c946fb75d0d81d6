-- The counts stay those of the lists as one process enters a list or leaves it.
use Rattle.std.proofs.Common.{◌≡◌, ◌≢◌, ℕ, suc, ◌+◌, ◌-◌, ◌<◌, ◌≤◌, false, List, [], ◌∷◌, length, set, get_or, inl, inr, sym, subst, ◌∙◌, arith}
use Rattle.std.proofs.lemmas.Bool.{cases_eq}
use Rattle.std.proofs.lemmas.Grind.{get_or-set_at}
use Rattle.std.proofs.lemmas.List.{get_or_default, get_or-set_other, length-append}
use Rattle.apex_types.specs.declared.modes.Discipline.{Discipline}
use Rattle.apex_types.specs.declared.modes.Discipline.TheVariants.{Fifo, Priority}
use Rattle.apex_links.specs.declared.numbers.TheConstants.{ALL_LISTS, QUEUE_LISTS, READY_LISTS}
use Rattle.apex_links.specs.Neighbours.{stands_in}
use Rattle.apex_links.specs.Links.{Links, list_at, with_list, removed, IsFree, IsOnlyIn}
use Rattle.apex_waitq.specs.WaitQueues.{is_lower, queued, AreCounted}
use Rattle.apex_links.proofs.Places.{at_removed, length_placed, length_without, only_there, without_out}

-- a list is longer by one with one process more
pub length_queued : (d : Discipline) (ps : List ℕ) (p priority : ℕ) (xs : List ℕ) → length (queued d ps p priority xs) ≡ suc (length xs)
length_queued Fifo ps p priority xs = omega (arith, length-append xs (p ∷ []))
length_queued Priority ps p priority xs = length_placed (is_lower ps priority) p xs

-- the value that is read of the counts is the length of the list
pub count_is : (counts : List ℕ) (links : Links) (l value : ℕ) → AreCounted counts links → length counts ≡ QUEUE_LISTS
    → READY_LISTS ≤ l → l < ALL_LISTS → value ≡ get_or counts (l - READY_LISTS) value → value ≡ length (list_at links l)
count_is counts links l value counted long from to read =
    let place : READY_LISTS + (l - READY_LISTS) ≡ l = omega (arith, from) in
    let known : l - READY_LISTS < QUEUE_LISTS = omega (arith, from, to) in
    let here : get_or counts (l - READY_LISTS) 0 ≡ length (list_at links l) =
    subst (λ (m : ℕ). get_or counts (l - READY_LISTS) 0 ≡ length (list_at links m)) place (counted (l - READY_LISTS) known) in
    read ∙ get_or_default counts (l - READY_LISTS) value 0 (omega (arith, long, known)) ∙ here

-- one queue has another list, and another count
module _ (counts : List ℕ) (links : Links) (n count : ℕ) (xs : List ℕ) (counted : AreCounted counts links) (long : length counts ≡ QUEUE_LISTS)
    (room : ALL_LISTS ≤ length links.lists) (known : n < QUEUE_LISTS) (e : count ≡ length xs) where
  pub change_counted : AreCounted (set counts n count) (with_list links (READY_LISTS + n) xs)
  change_counted m inside = elim (cases_eq m n) as (λ _. get_or (set counts n count) m 0 ≡ length (get_or (set links.lists (READY_LISTS + n) xs) (READY_LISTS + m) [])) [
    | inl same ↦
        let here = get_or-set_at counts n m count 0 same (omega (arith, long, known)) in
        let there = get_or-set_at links.lists (READY_LISTS + n) (READY_LISTS + m) xs [] (omega (arith, same)) (omega (arith, room, known)) in
        rw (here, there) e
    | inr apart ↦
        let here = get_or-set_other counts n m count 0 apart in
        let there = get_or-set_other links.lists (READY_LISTS + n) (READY_LISTS + m) xs [] (λ f. apart (omega (arith, f))) in
        rw (here, there) (counted m inside)
  ]

-- a process enters the list of a queue
pub entered_counted : (counts : List ℕ) (links : Links) (l value : ℕ) (ys : List ℕ) → AreCounted counts links → length counts ≡ QUEUE_LISTS
    → ALL_LISTS ≤ length links.lists → READY_LISTS ≤ l → l < ALL_LISTS
    → value ≡ get_or counts (l - READY_LISTS) value → length ys ≡ suc (length (list_at links l))
    → AreCounted (set counts (l - READY_LISTS) (value + 1)) (with_list links l ys)
entered_counted counts links l value ys counted long room from to read longer =
    let place : l ≡ READY_LISTS + (l - READY_LISTS) = omega (arith, from) in
    let known : l - READY_LISTS < QUEUE_LISTS = omega (arith, from, to) in
    let before : value ≡ length (list_at links l) = count_is counts links l value counted long from to read in
    subst (λ (m : ℕ). AreCounted (set counts (l - READY_LISTS) (value + 1)) (with_list links m ys)) (sym place)
    (change_counted counts links (l - READY_LISTS) (value + 1) ys counted long room known (omega (arith, before, longer)))

-- a process leaves its list
module _ (counts : List ℕ) (links : Links) (p : ℕ) (counted : AreCounted counts links) where
  kept : (m : ℕ) → stands_in p (list_at links m) ≡ false → list_at (removed links p) m ≡ list_at links m
  kept m out = at_removed links p m ∙ without_out p (list_at links m) out

  -- it was in none, or in one that is no queue's
  pub other_counted : ((m : ℕ) → m < QUEUE_LISTS → stands_in p (list_at links (READY_LISTS + m)) ≡ false) → AreCounted counts (removed links p)
  other_counted out m inside = rw (kept (READY_LISTS + m) (out m inside)) (counted m inside)

  pub free_counted : IsFree links p → AreCounted counts (removed links p)
  free_counted out = other_counted (λ m _. out (READY_LISTS + m))

  -- it was in that of a queue
  module _ (l : ℕ) (only : IsOnlyIn links p l) where
    elsewhere : (m : ℕ) → m ≢ l → stands_in p (list_at links m) ≡ false
    elsewhere m apart = only_there links p l m only apart

    pub left_counted : (value : ℕ) → length counts ≡ QUEUE_LISTS → READY_LISTS ≤ l → l < ALL_LISTS → value ≡ get_or counts (l - READY_LISTS) value
        → AreCounted (set counts (l - READY_LISTS) (value - 1)) (removed links p)
    left_counted value long from to read m inside =
        let n = l - READY_LISTS in
        let place : READY_LISTS + n ≡ l = omega (arith, from) in
        let before = count_is counts links l value counted long from to read in
        elim (cases_eq m n) as (λ _. get_or (set counts n (value - 1)) m 0 ≡ length (list_at (removed links p) (READY_LISTS + m))) [
          | inl same ↦
              let here = get_or-set_at counts n m (value - 1) 0 same (omega (arith, long, from, to)) in
              let shorter = length_without p (list_at links l) only.here in
              let there : READY_LISTS + m ≡ l = omega (arith, same, place) in
              subst (λ (k : ℕ). get_or (set counts n (value - 1)) m 0 ≡ length (list_at (removed links p) k)) (sym there)
              (rw (here, at_removed links p l) (omega (arith, before, shorter)))
          | inr apart ↦
              let here = get_or-set_other counts n m (value - 1) 0 apart in
              rw (here, kept (READY_LISTS + m) (elsewhere (READY_LISTS + m) (λ f. apart (omega (arith, f, place))))) (counted m inside)
        ]

    pub outside_counted : ((m : ℕ) → m < QUEUE_LISTS → l ≢ READY_LISTS + m) → AreCounted counts (removed links p)
    outside_counted none = other_counted (λ m inside. elsewhere (READY_LISTS + m) (λ f. none m inside (sym f)))
