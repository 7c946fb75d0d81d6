-- The values that are read at a key are in its range.
use Rattle.std.proofs.Common.{◌≡◌, ℕ, ◌≤◌, ℤ, pos, negsuc, true, false, ◌&&◌, nat_le, List, length, Option, Some, None, Result, IfOk, IsTrue, arith}
use Rattle.std.proofs.lemmas.Bool.Decides.{nat_tests}
use Rattle.std.specs.Prelude.{codes}
use Rattle.std.specs.List.{list_any}
use Rattle.std.specs.Str.{bytes_eq}
use Rattle.std.proofs.lemmas.Option.{none-some, same_Some}
use Rattle.std.proofs.lemmas.Result.{IfOk-at_ok}
use Rattle.toml.specs.Data.{Data, Members, as_integer, as_str}
use Rattle.apex_types.specs.declared.limits.TheConstants.{MOST_SPAN}
use Rattle.apex_types.specs.Name.{is_name}
use Rattle.apex_machine.specs.table.Table.{IsSpan}
use Rattle.apex_words.specs.declared.key.Key.TheVariants as key
use Rattle.apex_words.specs.Subjects.{at_key}
use Rattle.apex_table.specs.Terms.{Key, Place, Subject, TableFault}
use Rattle.apex_words.specs.declared.fault.TableFault.TheVariants.{WrongType, OutOfRange, BadName, DoubleName, TooMany}
use Rattle.apex_words.specs.Outcome.{some_or}
use Rattle.apex_table.specs.Keys.{value_at, required, optional, text_at, in_range, number, number_at, number_or, span_of, span_or_infinite, at_most, well_formed, name_at}
use Rattle.apex_table.proofs.Results.{ok_then, ok_if, ok_unless}

within : (low n high : ℕ) → (nat_le low n && nat_le n high) ≡ true → (low ≤ n) × (n ≤ high)
within low n high e = (grind (arith, nat_tests), grind (arith, nat_tests))

in_range_law : (subject : Subject) (low high : ℕ) (z : ℤ) → IfOk (in_range subject low high z) (λ n. (low ≤ n) × (n ≤ high))
in_range_law subject low high (pos n) = ok_if (nat_le low n && nat_le n high) (OutOfRange subject) n _ (within low n high)
in_range_law subject low high (negsuc n) = tt

number_law : (subject : Subject) (low high : ℕ) (d : Data) → IfOk (number subject low high d) (λ n. (low ≤ n) × (n ≤ high))
number_law subject low high d =
    ok_then (some_or (WrongType subject) (as_integer d)) _ (λ n. (low ≤ n) × (n ≤ high)) (λ z e. in_range_law subject low high z)

pub number_at_law : (at : Place) (low high : ℕ) (key : Key) (ms : Members) → IfOk (number_at at low high key ms) (λ n. (low ≤ n) × (n ≤ high))
number_at_law at low high key ms =
    ok_then (required at key ms) _ (λ n. (low ≤ n) × (n ≤ high)) (λ d e. number_law (at_key at key) low high d)

pub optional_law : {A : Type 0} (default : A) (read : Data → Result A TableFault) (P : A → Type 0) → P default → ((d : Data) → IfOk (read d) P) → (o : Option Data) → IfOk (optional default read o) P
optional_law default read P here there None = here
optional_law default read P here there (Some d) = there d

pub number_or_law : (at : Place) (default low high : ℕ) (key : Key) (ms : Members) → (low ≤ default) × (default ≤ high) → IfOk (number_or at default low high key ms) (λ n. (low ≤ n) × (n ≤ high))
number_or_law at default low high key ms here =
    optional_law default (number (at_key at key) low high) (λ n. (low ≤ n) × (n ≤ high)) here (number_law (at_key at key) low high) (value_at key ms)

no_span : IsSpan None
no_span ticks e = absurd (none-some ticks e)

some_span : (n : ℕ) → (1 ≤ n) × (n ≤ MOST_SPAN) → IsSpan (Some n)
some_span n bounds ticks e =
    let same : n ≡ ticks = same_Some n ticks e in
    let low : 1 ≤ n = bounds.0 in
    let high : n ≤ MOST_SPAN = bounds.1 in
    (omega arith, omega arith)

span_of_law : (subject : Subject) (d : Data) (o : Option (List ℕ)) → IfOk (span_of subject d o) IsSpan
span_of_law subject d (Some t) = ok_if (bytes_eq t (codes "infinite")) (OutOfRange subject) None IsSpan (λ _. no_span)
span_of_law subject d None =
    ok_then (number subject 1 MOST_SPAN d) _ IsSpan (λ n e.
    some_span n (IfOk-at_ok (λ n. (1 ≤ n) × (n ≤ MOST_SPAN)) e (number_law subject 1 MOST_SPAN d)))

pub span_or_infinite_law : (at : Place) (key : Key) (ms : Members) → IfOk (span_or_infinite at key ms) IsSpan
span_or_infinite_law at key ms = optional_law None _ IsSpan no_span (λ d. span_of_law (at_key at key) d (as_str d)) (value_at key ms)

pub at_most_law : (subject : Subject) (most : ℕ) (ds : List Data) → IfOk (at_most subject most ds) (λ xs. length xs ≤ most)
at_most_law subject most ds = ok_if (nat_le (length ds) most) (TooMany subject) ds (λ xs. length xs ≤ most) (λ e. grind (arith, nat_tests))

-- a name is well formed, and none of those taken
pub record IsNew (taken : List (List ℕ)) (name : List ℕ) : Type 0 where
  pub good : IsTrue (is_name name)
  pub new : list_any (bytes_eq name) taken ≡ false

pub name_law : (at : Place) (taken : List (List ℕ)) (ms : Members) → IfOk (name_at at taken ms) (IsNew taken)
unfolding name_at
name_law at taken ms =
    let here : Subject = at_key at key.Name in
    ok_then (text_at at key.Name ms) _ (IsNew taken) (λ t _.
    ok_then (well_formed here t) _ (IsNew taken) (λ n e.
    ok_unless (list_any (bytes_eq n) taken) (DoubleName here) n (IsNew taken) (λ new.
    record { good = IfOk-at_ok (λ n. IsTrue (is_name n)) e (ok_if (is_name t) (BadName here) t (λ n. IsTrue (is_name n)) (λ good. good)); new = new })))
