-- Command lines, and words at fault.
use Rattle.std.proofs.Common.{◌≡◌, ◌∙◌, ◌-◌, ◌≤◌, ◌<◌, ◌&&◌, Bool, ap, arith, false, true, inl, inr, refl, List, [], ◌∷◌, drop, get_or, length, map, take, Option, None, Err}
use Rattle.std.specs.Prelude.{Result}
use Rattle.std.proofs.Math.Seq.{take-length}
use Rattle.std.proofs.lemmas.Bool.Decides.{nat_tests}
use Rattle.clap.specs.Faults.{is_free_app, is_simple_and_free}
use Rattle.clap.specs.Walk.{is_empty}
use Rattle.clap.specs.Words.{App, Row, Text, built, is_simple, with_rule}
use Rattle.clap.specs.Kinds.{HasKind, IsAmong, Kinds}
use Rattle.clap.specs.Values.{kind_of}
use Rattle.clap.specs.declared.error.Error.{Error}
use Rattle.clap.specs.declared.error.kind.ErrorKind.{ErrorKind}
use Rattle.clap.specs.declared.error.kind.ErrorKind.TheVariants.{OutOfMemory}
use Rattle.apex_console.specs.declared.faults.CliFault.{CliFault}
use Rattle.apex_console.specs.declared.words.Argument.{Argument}
use Rattle.apex_console.specs.Words.{HasFault, request_by, rule_for, with_rules}

left_of : (a b : Bool) → (a && b) ≡ true → a ≡ true
left_of true b e = refl
left_of false b e = e

pub is_simple_too : (app : App) → is_simple_and_free app ≡ true → is_simple app ≡ true
is_simple_too app both = left_of (is_simple app) (is_free_app (built app)) both

some_among : (kinds : Kinds) (kind : ErrorKind) → IsAmong kind kinds → is_empty kinds ≡ false
some_among [] kind among = absurd among
some_among (k ∷ ks) kind among = grind (arith, nat_tests)

-- words that are refused are at fault, if memory was not refused
pub has_fault : (kinds : Kinds) (e : Error) → HasKind kinds e → (kind_of e ≡ OutOfMemory → ⊥) → is_empty kinds ≡ false
has_fault kinds e (inl memory) other = absurd (other memory)
has_fault kinds e (inr among) other = some_among kinds (kind_of e) among

-- words at fault ask for nothing
pub asks_nothing : {R : Type 0} (request_in : Text × List Row → Option R) (app : App) (words : List Text) → HasFault app words
    → request_by request_in app words ≡ None
asks_nothing request_in app words fault = rw fault refl

-- an error has one fault
pub same_fault : {T : Type 0} (result : Result T CliFault) (fault other : CliFault) → result ≡ Err fault → result ≡ Err other
    → fault ≡ other
same_fault result fault other is same = cc

-- no argument adds no rule
pub no_arguments : (app : App) (arguments : List Argument) → length arguments < 1 → app ≡ with_rules app (map rule_for arguments)
unfolding with_rules
no_arguments app [] few = refl
no_arguments app (argument ∷ others) few = absurd (omega (arith, few))

-- the first argument adds its rule, and then come the others
pub first_argument : (app : App) (argument : Argument) (arguments : List Argument) → 1 ≤ length arguments
    → with_rules (with_rule app (rule_for (get_or arguments 0 argument))) (map rule_for (take (length arguments - 1) (drop 1 arguments)))
    ≡ with_rules app (map rule_for arguments)
unfolding with_rules
first_argument app argument [] some = absurd (omega (arith, some))
first_argument app argument (first ∷ others) some =
    let all : length (first ∷ others) - 1 ≡ length others = omega arith in
    ap (λ (rest : List Argument). with_rules (with_rule app (rule_for first)) (map rule_for rest))
    (ap (λ n. take n others) all ∙ take-length others)
