-- The event that a line names is one that a partition may be asked for.
use Rattle.std.proofs.Common.{◌≡◌, ℕ, ◌≤◌, Bool, true, false, List, [], ◌∷◌, Option, None, Some, Ok, Err, refl, take, drop, length, nat_lt, ltb-true, leb-true, codes}
use Rattle.std.specs.Prelude.{IfOk, IfSome, nat_le, if◌then◌else◌, option_map, ◌&&◌}
use Rattle.std.specs.Str.{bytes_eq}
use Rattle.apex_types.specs.declared.limits.TheConstants.{MOST_LINE, MOST_TICKS}
use Rattle.apex_types.specs.Numbers.{number_of, at_least, at_most}
use Rattle.apex_check.specs.Terms.{Event}
use Rattle.apex_types.specs.declared.entries.Event.TheVariants.{Turn, Tick}
use Rattle.apex_machine.specs.Events.{IsWithin}
use Rattle.apex_history.specs.declared.LineFault.TheVariants.{BadLine, TooLong}
use Rattle.apex_history.specs.ReadLines as words
use Rattle.apex_history.specs.ReadLines.{turn_named, tick_named, either_event, or_bad_line}
use Rattle.apex_history.specs.Words.{parts, core_of, ticks_of}
use Rattle.apex_check.specs.Histories.{event_named, of_cores}

-- a tick of 1 to 1,048,576
abbrev InRange : Option Event → Type 0
InRange None = Unit {0}
InRange (Some (Turn core)) = Unit {0}
InRange (Some (Tick n)) = (1 ≤ n) × (n ≤ MOST_TICKS)

most : (m : ℕ) (o : Option ℕ) → IfSome (at_most m o) (λ n. n ≤ m)
most m None = tt
most m (Some n) = go (nat_le n m) refl
  where
    go : (b : Bool) → nat_le n m ≡ b → IfSome (if b then Some n else None) (λ k. k ≤ m)
    go true t = leb-true n m t
    go false t = tt

least : (l m : ℕ) (o : Option ℕ) → IfSome o (λ n. n ≤ m) → IfSome (at_least l o) (λ n. (l ≤ n) × (n ≤ m))
least l m None few = tt
least l m (Some n) few = go (nat_le l n) refl
  where
    go : (b : Bool) → nat_le l n ≡ b → IfSome (if b then Some n else None) (λ k. (l ≤ k) × (k ≤ m))
    go true t = (leb-true l n t, few)
    go false t = tt

ticks_range : (word : List ℕ) → IfSome (ticks_of word) (λ n. (1 ≤ n) × (n ≤ MOST_TICKS))
ticks_range word = least 1 MOST_TICKS (at_most MOST_TICKS (number_of word)) (most MOST_TICKS (number_of word))

turn_range : (who : List ℕ) → InRange (turn_named who)
turn_range who = go (bytes_eq (take 4 who) (codes "core")) (core_of (drop 4 who))
  where
    go : (b : Bool) (o : Option ℕ) → InRange (if b then option_map Turn o else None)
    go true None = tt
    go true (Some core) = tt
    go false o = tt

tick_range : (words : List (List ℕ)) → InRange (tick_named words)
tick_range [] = tt
tick_range (who ∷ []) = tt
tick_range (who ∷ process ∷ []) = tt
tick_range (who ∷ process ∷ call ∷ []) = tt
tick_range (who ∷ process ∷ call ∷ ticks ∷ rest) =
    go (bytes_eq who (codes "ticker") && bytes_eq process (codes "-") && bytes_eq call (codes "tick")) (ticks_of ticks) (ticks_range ticks)
  where
    go : (b : Bool) (o : Option ℕ) → IfSome o (λ n. (1 ≤ n) × (n ≤ MOST_TICKS)) → InRange (if b then option_map Tick o else None)
    go true None within = tt
    go true (Some n) within = within
    go false o within = tt

either_range : (a b : Option Event) → InRange a → InRange b → InRange (either_event a b)
either_range (Some event) b p q = p
either_range None b p q = q

words_range : (given : List (List ℕ)) → InRange (words.event_named given)
words_range [] = tt
words_range (number ∷ []) = tt
words_range (number ∷ now ∷ []) = tt
words_range (number ∷ now ∷ who ∷ rest) =
    either_range (turn_named who) (tick_named (who ∷ rest)) (turn_range who) (tick_range (who ∷ rest))

of_cores_within : (cores : ℕ) (named : Option Event) → InRange named → IfOk (of_cores cores (or_bad_line named)) (IsWithin cores)
of_cores_within cores None range = tt
of_cores_within cores (Some (Tick n)) range = range
of_cores_within cores (Some (Turn core)) range = go (nat_lt core cores) refl
  where
    go : (b : Bool) → nat_lt core cores ≡ b → IfOk (if b then Ok (Turn core) else Err BadLine) (IsWithin cores)
    go true t = ltb-true core cores t
    go false t = tt

pub named_within : (cores : ℕ) (line : List ℕ) → IfOk (event_named cores line) (IsWithin cores)
named_within cores line = go (nat_lt MOST_LINE (length line))
  where
    go : (b : Bool) → IfOk (of_cores cores (if b then Err TooLong else or_bad_line (words.event_named (parts 32 line)))) (IsWithin cores)
    go true = tt
    go false = of_cores_within cores (words.event_named (parts 32 line)) (words_range (parts 32 line))
