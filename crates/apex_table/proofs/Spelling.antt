-- What a word says, written again, is the word.
use Rattle.std.proofs.Common.{◌≡◌, ℕ, suc, ◌+◌, ◌*◌, ◌/◌, ◌%◌, ◌^◌, ◌<◌, ◌≤◌, ◌==◌, ◌||◌, ◌&&◌, nat_le, slice_index_or, Bool, true, false, cond, if◌then◌else◌, List, [], ◌∷◌, ◌++◌, length, Option, Some, None, Result, Ok, Err, refl, sym, ap, subst, arith}
use Rattle.std.specs.Prelude.{codes, decimal, flat_map, option_and_then}
use Rattle.std.specs.Char.{digit_value}
use Rattle.std.specs.Fmt.{digit_glyph}
use Rattle.std.specs.List.{list_all, position_from}
use Rattle.std.specs.Str.{bytes_eq, all_ascii_digits}
use Rattle.std.proofs.lemmas.Bool.Decides.{nat_tests}
use Rattle.std.proofs.lemmas.Fmt.{decimal-digits_value}
use Rattle.std.proofs.lemmas.Option.{none-some, same_Some}
use Rattle.std.proofs.lemmas.Slice.Eq.{bytes_eq-Decides}
use Rattle.std.proofs.lemmas.Str.Parse.{IsNumeralModel, numerals_by_weight, tells_all_ascii_digits}
use Rattle.apex_types.specs.declared.limits.TheConstants.{MOST_MESSAGE, MOST_SPAN}
use Rattle.apex_types.specs.Numbers.{digits_value, has_leading_zero, number_of, at_most, at_least}
use Rattle.apex_machine.specs.table.Table.{IsLawfulTimeout}
use Rattle.apex_machine.specs.text.Texts.{byte_text, bytes_text}
use Rattle.apex_types.specs.declared.calls.RequestedMode.TheVariants.{Idle, Normal}
use Rattle.apex_types.specs.declared.calls.Timeout.TheVariants.{Poll, Ticks, Infinite}
use Rattle.apex_calls.specs.CallText.{timeout_text, mode_text}
use Rattle.apex_table.specs.Terms.{RequestedMode, Subject, TableFault, Timeout}
use Rattle.apex_words.specs.declared.fault.TableFault.TheVariants.{OutOfRange, UnknownName}
use Rattle.apex_words.specs.Outcome.{made, some_or}
use Rattle.apex_words.specs.Words.{is_empty, is_digit, pairs_value, bytes_of, few_bytes, message_bytes, number, timeout, requested_mode, entry_of}

-- what is read, and that it is
pub some_or_ok : {A : Type 0} (fault : TableFault) (o : Option A) (x : A) → some_or fault o ≡ Ok x → o ≡ Some x
some_or_ok fault None x e = absurd (cc e)
some_or_ok fault (Some y) x e = cc e

pub made_ok : {A B : Type 0} (f : A → B) (r : Result A TableFault) (y : B) → made f r ≡ Ok y → (x : A) × (r ≡ Ok x) × (f x ≡ y)
made_ok f (Ok x) y e = (x, refl, cc e)
made_ok f (Err fault) y e = absurd (cc e)

pub true-false : {P : Type 0} → true ≡ false → P
true-false e = absurd (cc e)

bytes_same : (xs ys : List ℕ) → bytes_eq xs ys ≡ true → xs ≡ ys
bytes_same xs ys e = (bytes_eq-Decides xs ys).0 e

-- numbers

pub number_model : IsNumeralModel (λ ds. all_ascii_digits ds ≡ true) digits_value
number_model = numerals_by_weight _ tells_all_ascii_digits digits_value (record { empty = refl; more = λ c cs k. refl })

digits_text : (w : List ℕ) → all_ascii_digits w ≡ true → (length w == 0) ≡ false → has_leading_zero w ≡ false → digits_value w < 2 ^ 64 → decimal (digits_value w) ≡ w
digits_text w digits some lead small =
    decimal-digits_value number_model w digits (grind (arith, nat_tests)) (λ z. grind (arith, nat_tests)) small

by_digits : (w : List ℕ) (n : ℕ) (d : Bool) → all_ascii_digits w ≡ d → (length w == 0) ≡ false → has_leading_zero w ≡ false → (if d then Some (digits_value w) else None) ≡ Some n → n < 2 ^ 64 → decimal n ≡ w
by_digits w n true digits some lead e small =
    let same : digits_value w ≡ n = same_Some _ _ e in
    subst (λ m. decimal m ≡ w) same (digits_text w digits some lead (omega arith))
by_digits w n false digits some lead e small = absurd (none-some n e)

by_zero : (w : List ℕ) (n : ℕ) (z l : Bool) → (length w == 0) ≡ z → has_leading_zero w ≡ l → (if z || l then None else if all_ascii_digits w then Some (digits_value w) else None) ≡ Some n → n < 2 ^ 64 → decimal n ≡ w
by_zero w n true l ez el e small = absurd (none-some n e)
by_zero w n false true ez el e small = absurd (none-some n e)
by_zero w n false false ez el e small = by_digits w n (all_ascii_digits w) refl ez el e small

number_text : (w : List ℕ) (n : ℕ) → number_of w ≡ Some n → n < 2 ^ 64 → decimal n ≡ w
number_text w n e small = by_zero w n (length w == 0) (has_leading_zero w) refl refl e small

within_bool : {A : Type 0} (b : Bool) (m n : A) → (if b then Some m else None) ≡ Some n → (b ≡ true) × (m ≡ n)
within_bool true m n e = (refl, same_Some m n e)
within_bool false m n e = absurd (none-some n e)

at_most_some : (most : ℕ) (o : Option ℕ) (n : ℕ) → at_most most o ≡ Some n → (o ≡ Some n) × (n ≤ most)
at_most_some most None n e = absurd (none-some n e)
at_most_some most (Some m) n e =
    let h = within_bool (nat_le m most) m n e in
    (ap Some h.1, grind (arith, nat_tests, h.0, h.1))

at_least_some : (least : ℕ) (o : Option ℕ) (n : ℕ) → at_least least o ≡ Some n → (o ≡ Some n) × (least ≤ n)
at_least_some least None n e = absurd (none-some n e)
at_least_some least (Some m) n e =
    let h = within_bool (nat_le least m) m n e in
    (ap Some h.1, grind (arith, nat_tests, h.0, h.1))

-- a number in its range, of 32 bits at the most
pub record IsNumber (low high : ℕ) (w : List ℕ) (n : ℕ) : Type 0 where
  pub least : low ≤ n
  pub most : n ≤ high
  pub text : decimal n ≡ w

pub number_law : (subject : Subject) (low high : ℕ) → high ≤ 4294967295 → (w : List ℕ) (n : ℕ) → number subject low high w ≡ Ok n → IsNumber low high w n
number_law subject low high narrow w n e =
    let l = at_least_some low (at_most high (number_of w)) n (some_or_ok (OutOfRange subject) _ n e) in
    let m = at_most_some high (number_of w) n l.0 in
    let most : n ≤ high = m.1 in
    record { least = l.1; most = most; text = number_text w n m.0 (omega arith) }

-- timeouts

-- a timeout in its range
pub record IsTimeoutOf (w : List ℕ) (t : Timeout) : Type 0 where
  pub lawful : IsLawfulTimeout t
  pub text : timeout_text t ≡ w

infinite_law : (subject : Subject) (w : List ℕ) (b : Bool) (t : Timeout) → bytes_eq w (codes "infinite") ≡ b → (if b then Ok Infinite else made Ticks (number subject 1 MOST_SPAN w)) ≡ Ok t → IsTimeoutOf w t
infinite_law subject w true t same e =
    let is : Infinite ≡ t = cc e in
    subst (IsTimeoutOf w) is (record { lawful = tt; text = sym (bytes_same w (codes "infinite") same) })
infinite_law subject w false t same e =
    let m = made_ok Ticks (number subject 1 MOST_SPAN w) t e in
    let n = number_law subject 1 MOST_SPAN (omega arith) w m.0 m.1 in
    subst (IsTimeoutOf w) m.2 (record { lawful = (n.least, n.most); text = n.text })

poll_law : (subject : Subject) (w : List ℕ) (b : Bool) (t : Timeout) → bytes_eq w (codes "0") ≡ b → (if b then Ok Poll else if bytes_eq w (codes "infinite") then Ok Infinite else made Ticks (number subject 1 MOST_SPAN w)) ≡ Ok t → IsTimeoutOf w t
poll_law subject w true t same e =
    let is : Poll ≡ t = cc e in
    subst (IsTimeoutOf w) is (record { lawful = tt; text = sym (bytes_same w (codes "0") same) })
poll_law subject w false t same e = infinite_law subject w (bytes_eq w (codes "infinite")) t refl e

pub timeout_law : (subject : Subject) (w : List ℕ) (t : Timeout) → timeout subject w ≡ Ok t → IsTimeoutOf w t
timeout_law subject w t e = poll_law subject w (bytes_eq w (codes "0")) t refl e

-- modes

idle_text : (w : List ℕ) (b : Bool) (m : RequestedMode) → bytes_eq w (codes "IDLE") ≡ b → (if b then Some Idle else None) ≡ Some m → mode_text m ≡ w
idle_text w true m same e = subst (λ m. mode_text m ≡ w) (same_Some _ _ e) (sym (bytes_same w (codes "IDLE") same))
idle_text w false m same e = absurd (none-some m e)

normal_text : (w : List ℕ) (b : Bool) (m : RequestedMode) → bytes_eq w (codes "NORMAL") ≡ b → (if b then Some Normal else if bytes_eq w (codes "IDLE") then Some Idle else None) ≡ Some m → mode_text m ≡ w
normal_text w true m same e = subst (λ m. mode_text m ≡ w) (same_Some _ _ e) (sym (bytes_same w (codes "NORMAL") same))
normal_text w false m same e = idle_text w (bytes_eq w (codes "IDLE")) m refl e

pub mode_law : (w : List ℕ) (m : RequestedMode) → requested_mode w ≡ Some m → mode_text m ≡ w
mode_law w m e = normal_text w (bytes_eq w (codes "NORMAL")) m refl e

-- messages

digit_text : (c : ℕ) → is_digit c ≡ true → (digit_glyph false (digit_value c) ≡ c) × (digit_value c < 16)
digit_text c e = (grind (arith, nat_tests), grind (arith, nat_tests))

pair_text : (high low : ℕ) → is_digit high ≡ true → is_digit low ≡ true → byte_text (digit_value high * 16 + digit_value low) ≡ high ∷ low ∷ []
pair_text high low h l =
    let dh = digit_text high h in
    let dl = digit_text low l in
    let small : digit_value low < 16 = dl.1 in
    let top : (digit_value high * 16 + digit_value low) / 16 ≡ digit_value high = omega arith in
    let end : (digit_value high * 16 + digit_value low) % 16 ≡ digit_value low = omega arith in
    rw (top, end, dh.0, dl.0) refl

and_true : (a b : Bool) → (a && b) ≡ true → (a ≡ true) × (b ≡ true)
and_true true b e = (refl, e)
and_true false b e = absurd (cc e)

pairs_text : (w : List ℕ) → (length w % 2) ≡ 0 → list_all is_digit w ≡ true → flat_map byte_text (pairs_value w) ≡ w
pairs_text [] even digits = refl
pairs_text (c ∷ []) even digits = absurd (omega (arith, even))
pairs_text (high ∷ low ∷ w) even digits =
    let a = and_true (is_digit high) _ digits in
    let b = and_true (is_digit low) (list_all is_digit w) a.1 in
    let rest : flat_map byte_text (pairs_value w) ≡ w = pairs_text w (omega (arith, even)) b.1 in
    rw (rest) (ap (λ front. front ++ w) (pair_text high low a.0 b.0))

some_bytes : (bytes : List ℕ) (w : List ℕ) → flat_map byte_text bytes ≡ w → is_empty w ≡ false → bytes_text bytes ≡ w
some_bytes [] w e some = true-false (subst (λ w. is_empty w ≡ false) (sym e) some)
some_bytes (byte ∷ bytes) w e some = e

by_pairs : (w bytes : List ℕ) (b : Bool) → (length w % 2 == 0 && list_all is_digit w) ≡ b → (if b then Some (pairs_value w) else None) ≡ Some bytes → is_empty w ≡ false → bytes_text bytes ≡ w
by_pairs w bytes true pairs e some =
    let a = and_true (length w % 2 == 0) (list_all is_digit w) pairs in
    let even : length w % 2 ≡ 0 = grind (arith, nat_tests, a.0) in
    subst (λ bs. bytes_text bs ≡ w) (same_Some _ _ e) (some_bytes (pairs_value w) w (pairs_text w even a.1) some)
by_pairs w bytes false pairs e some = absurd (none-some bytes e)

by_mark : (w bytes : List ℕ) (b : Bool) → bytes_eq w (codes "-") ≡ b → (if b then Some [] else if length w % 2 == 0 && list_all is_digit w then Some (pairs_value w) else None) ≡ Some bytes → is_empty w ≡ false → bytes_text bytes ≡ w
by_mark w bytes true mark e some = subst (λ bs. bytes_text bs ≡ w) (same_Some _ _ e) (sym (bytes_same w (codes "-") mark))
by_mark w bytes false mark e some = by_pairs w bytes (length w % 2 == 0 && list_all is_digit w) refl e some

few_bytes_some : (o : Option (List ℕ)) (bytes : List ℕ) → option_and_then few_bytes o ≡ Some bytes → (o ≡ Some bytes) × (length bytes ≤ MOST_MESSAGE)
few_bytes_some None bytes e = absurd (none-some bytes e)
few_bytes_some (Some bs) bytes e =
    let h = within_bool (nat_le (length bs) MOST_MESSAGE) bs bytes e in
    (ap Some h.1, subst (λ (bs : List ℕ). length bs ≤ MOST_MESSAGE) h.1 (grind (arith, nat_tests, h.0)))

-- the bytes of a message, 64 at the most
pub record AreBytes (w bytes : List ℕ) : Type 0 where
  pub few : length bytes ≤ MOST_MESSAGE
  pub text : bytes_text bytes ≡ w

pub message_law : (subject : Subject) (w bytes : List ℕ) → message_bytes subject w ≡ Ok bytes → is_empty w ≡ false → AreBytes w bytes
message_law subject w bytes e some =
    let f = few_bytes_some (bytes_of w) bytes (some_or_ok (OutOfRange subject) _ bytes e) in
    record { few = f.1; text = by_mark w bytes (bytes_eq w (codes "-")) refl f.0 some }

-- entries

-- the place is that of this name
pub record IsPlaceOf (names : List (List ℕ)) (name : List ℕ) (i : ℕ) : Type 0 where
  pub below : i < length names
  pub text : slice_index_or names i [] ≡ name

later : (x : List ℕ) (names : List (List ℕ)) (name : List ℕ) (k i : ℕ) → ((j : ℕ) × (i ≡ (k + 1) + j) × IsPlaceOf names name j) → (j : ℕ) × (i ≡ k + j) × IsPlaceOf (x ∷ names) name j
later x names name k i (j, at, is) = (suc j, omega arith, record { below = omega (arith, is.below); text = is.text })

-- the place at which a name is found, from place k on
abbrev IsFoundAt : List (List ℕ) → List ℕ → ℕ → ℕ → Type 0
IsFoundAt names name k i = (j : ℕ) × (i ≡ k + j) × IsPlaceOf names name j

found_at : (x : List ℕ) (names : List (List ℕ)) (name : List ℕ) (k i : ℕ) (rest : Option ℕ) (b : Bool) → bytes_eq name x ≡ b → cond b (Some k) rest ≡ Some i → (rest ≡ Some i → IsFoundAt names name (k + 1) i) → IsFoundAt (x ∷ names) name k i
found_at x names name k i rest true same e there =
    let at : k ≡ i = same_Some _ _ e in
    (0, omega arith, record { below = omega arith; text = sym (bytes_same name x same) })
found_at x names name k i rest false same e there = later x names name k i (there e)

position_at : (name : List ℕ) (names : List (List ℕ)) (k i : ℕ) → position_from (bytes_eq name) k names ≡ Some i → IsFoundAt names name k i
position_at name [] k i e = absurd (none-some i e)
position_at name (x ∷ names) k i e =
    found_at x names name k i (position_from (bytes_eq name) (k + 1) names) (bytes_eq name x) refl e (position_at name names (k + 1) i)

pub place_law : (name : List ℕ) (names : List (List ℕ)) (i : ℕ) → position_from (bytes_eq name) 0 names ≡ Some i → IsPlaceOf names name i
place_law name names i e =
    let p = position_at name names 0 i e in
    let same : p.0 ≡ i = omega (arith, p.1) in
    subst (λ j. IsPlaceOf names name j) same p.2

pub entry_law : (subject : Subject) (names : List (List ℕ)) (name : List ℕ) (i : ℕ) → entry_of subject names name ≡ Ok i → IsPlaceOf names name i
entry_law subject names name i e = place_law name names i (some_or_ok (UnknownName subject) _ i e)
