-- Readings one after the other, and the calls that give a reading's answer.
use Rattle.std.specs.Prelude.{◌≡◌, ℕ, Option, Some, None, Result, Ok, Err, List, [], ◌∷◌, ◌++◌}
use Rattle.apex_words.specs.declared.fault.Section.{Section}
use Rattle.apex_words.specs.Terms.{Place, TableFault}
use Rattle.apex_words.specs.declared.fault.TableFault.TheVariants.{Memory}

infixl 10 ◌>>=◌
-- the first fault ends a reading
abbrev pub ◌>>=◌ : {A B : Type 0} → Result A TableFault → (A → Result B TableFault)
    → Result B TableFault
(Ok x) >>= f = f x
(Err e) >>= f = Err e

-- the value, or this fault if there is none
abbrev pub some_or : {A : Type 0} → TableFault → Option A → Result A TableFault
some_or fault None = Err fault
some_or fault (Some x) = Ok x

-- the value of a reading, changed by f
abbrev pub made : {A B : Type 0} → (A → B) → Result A TableFault → Result B TableFault
made f (Ok x) = Ok (f x)
made f (Err e) = Err e

-- reads each element; a reading gets the values of those before it
abbrev pub each : {A B : Type 0} → (List A → B → Result A TableFault) → List A → List B
    → Result (List A) TableFault
each read done [] = Ok done
each read done (y ∷ ys) = read done y >>= λ x. each read (done ++ x ∷ []) ys

-- a place of the table's text
abbrev pub place : Section → ℕ → Place
place section number = record { section = section; number = number }

-- the fault is the reading's first one, or a growth was refused
abbrev pub Fails : {Y : Type 0} → TableFault → Result Y TableFault → Type 0
Fails Memory read = Unit {0}
Fails fault read = read ≡ Err fault

-- the call gives the reading's answer, or Memory
abbrev pub Gives : {X Y : Type 0} → (X → Y) → Result X TableFault → Result Y TableFault → Type 0
Gives view (Ok x) read = read ≡ Ok (view x)
Gives view (Err fault) read = Fails fault read
