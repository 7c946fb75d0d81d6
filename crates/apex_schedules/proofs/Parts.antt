-- The part of an item after its `*`.
use Rattle.std.proofs.Common.{◌≡◌, ◌∙◌, ℕ, ◌-◌, ◌<◌, ◌≤◌, ◌&&◌, Bool, true, false, refl, sym, ap, arith, List, [], ◌∷◌, length, map, Option, None, Some, eqb-true}
use Rattle.std.specs.Prelude.{◌==◌}
use Rattle.std.specs.Char.{is_ascii_digit}
use Rattle.std.specs.List.{count_by, join_with_byte}
use Rattle.std.specs.Str.{all_ascii_digits}
use Rattle.std.proofs.lemmas.Bool.{le-leb, ne_eqb}
use Rattle.std.proofs.lemmas.List.Splits.{join_with_byte-slice_split, length-slice_split}
use Rattle.apex_types.specs.declared.limits.TheConstants.{MOST_ENTRIES}
use Rattle.apex_types.specs.Numbers.{digits_value, number_of}
use Rattle.apex_history.specs.Words.{parts}
use Rattle.apex_schedules.specs.declared.schedule.Item.{Item}
use Rattle.apex_schedules.specs.declared.schedule.Item.TheVariants.{Turns}
use Rattle.apex_schedules.specs.Schedule.{item_of, times_after, positive_of}

-- a word that holds a `*` is no number
digits_of_star : (w : List ℕ) → 0 < count_by (λ b. b == 42) w → all_ascii_digits w ≡ false
digits_of_star [] some = absurd (omega arith)
digits_of_star (x ∷ xs) some = go (x == 42) refl (digits_of_star xs)
  where
    digit : (b : Bool) → all_ascii_digits xs ≡ false → (b && all_ascii_digits xs) ≡ false
    digit true e = e
    digit false e = refl

    go : (b : Bool) → (x == 42) ≡ b
        → (0 < count_by (λ b. b == 42) xs → all_ascii_digits xs ≡ false)
        → all_ascii_digits (x ∷ xs) ≡ false
    go true t later =
        let star : x ≡ 42 = eqb-true x 42 t in
        rw star refl
    go false t later =
        let rest : 0 < count_by (λ b. b == 42) xs = rw t at some in
        digit (is_ascii_digit x) (later (omega arith))

number_of_star : (w : List ℕ) → 0 < count_by (λ b. b == 42) w → number_of w ≡ None
number_of_star w some = rw (digits_of_star w some) (grind arith)

-- a core's digit alone is one turn of the core
pub turn_alone : (digit : ℕ) → 48 ≤ digit → digit ≤ 55 → item_of (digit ∷ []) ≡ Some (Turns (digit - 48) 1)
turn_alone digit low high =
    let tick : (digit == 116) ≡ false = ne_eqb digit 116 (λ e. omega (arith, e, high)) in
    let star : (digit == 42) ≡ false = ne_eqb digit 42 (λ e. omega (arith, e, low)) in
    rw (tick, star, le-leb 48 digit low, le-leb digit 55 high) refl

-- a core's digit and a space are one turn of the core, and more behind it
pub turn_first : (digit : ℕ) (rest : List ℕ) → 48 ≤ digit → digit ≤ 55
    → map item_of (parts 32 (digit ∷ 32 ∷ rest)) ≡ Some (Turns (digit - 48) 1) ∷ map item_of (parts 32 rest)
turn_first digit rest low high =
    let space : (digit == 32) ≡ false = ne_eqb digit 32 (λ e. omega (arith, e, low)) in
    let cut : parts 32 (digit ∷ 32 ∷ rest) ≡ (digit ∷ []) ∷ parts 32 rest = rw space refl in
    ap (map item_of) cut ∙ ap (λ (o : Option Item). o ∷ map item_of (parts 32 rest)) (turn_alone digit low high)

-- one digit but 0 is a number of times
times_digit : (digit : ℕ) → 49 ≤ digit → digit ≤ 57 → positive_of (digit ∷ []) ≡ Some (digit - 48)
times_digit digit low high =
    let value : digits_value (digit ∷ []) ≡ digit - 48 = omega arith in
    let number : number_of (digit ∷ []) ≡ Some (digit - 48) =
    rw (le-leb 48 digit (omega (arith, low)), le-leb digit 57 high) (ap Some value) in
    rw (number, le-leb (digit - 48) MOST_ENTRIES (omega (arith, high)), le-leb 1 (digit - 48) (omega (arith, low))) refl

turns_alone : (core digit : ℕ) → 48 ≤ core → core ≤ 55 → 49 ≤ digit → digit ≤ 57
    → item_of (core ∷ 42 ∷ digit ∷ []) ≡ Some (Turns (core - 48) (digit - 48))
turns_alone core digit low high least most =
    let tick : (core == 116) ≡ false = ne_eqb core 116 (λ e. omega (arith, e, high)) in
    let star : (core == 42) ≡ false = ne_eqb core 42 (λ e. omega (arith, e, low)) in
    let other : (digit == 42) ≡ false = ne_eqb digit 42 (λ e. omega (arith, e, least)) in
    let cut : parts 42 (core ∷ 42 ∷ digit ∷ []) ≡ (core ∷ []) ∷ (digit ∷ []) ∷ [] = rw (star, other) refl in
    rw (tick, cut, le-leb 48 core low, le-leb core 55 high, times_digit digit least most) refl

-- a core's digit, `*`, a digit but 0 and a space are some turns of the core, and more behind them
pub turns_first : (core digit : ℕ) (rest : List ℕ) → 48 ≤ core → core ≤ 55 → 49 ≤ digit → digit ≤ 57
    → map item_of (parts 32 (core ∷ 42 ∷ digit ∷ 32 ∷ rest)) ≡ Some (Turns (core - 48) (digit - 48)) ∷ map item_of (parts 32 rest)
turns_first core digit rest low high least most =
    let space : (core == 32) ≡ false = ne_eqb core 32 (λ e. omega (arith, e, low)) in
    let other : (digit == 32) ≡ false = ne_eqb digit 32 (λ e. omega (arith, e, least)) in
    let cut : parts 32 (core ∷ 42 ∷ digit ∷ 32 ∷ rest) ≡ (core ∷ 42 ∷ digit ∷ []) ∷ parts 32 rest = rw (space, other) refl in
    ap (map item_of) cut ∙ ap (λ (o : Option Item). o ∷ map item_of (parts 32 rest)) (turns_alone core digit low high least most)

-- the parts after the core's `*` give a number of times exactly if they are one number
pub times_after_star : (w : List ℕ) → times_after (parts 42 w) ≡ positive_of w
times_after_star w = go (parts 42 w) refl
  where
    go : (ps : List (List ℕ)) → parts 42 w ≡ ps → times_after (parts 42 w) ≡ positive_of w
    go [] e =
        let none : length (parts 42 w) ≡ 0 = ap length e in
        absurd (omega (arith, length-slice_split (λ b. b == 42) w))
    go (p ∷ []) e =
        let same : p ≡ w = sym (ap (join_with_byte 42) e) ∙ join_with_byte-slice_split 42 w in
        rw (e, same) refl
    go (p ∷ q ∷ rest) e =
        let some : 0 < count_by (λ b. b == 42) w =
        omega (arith, length-slice_split (λ b. b == 42) w, ap length e) in
        rw (e, number_of_star w some) refl
