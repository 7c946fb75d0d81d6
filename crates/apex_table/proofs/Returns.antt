-- The words of a default init list's steps are read as the steps.
use Rattle.std.proofs.Common.{◌≡◌, ℕ, zero, suc, ◌+◌, ◌^◌, ◌<◌, ◌==◌, ◌&&◌, nat_le, slice_index_or, true, false, List, [], ◌∷◌, length, Some, Ok, refl, sym, ap, subst, ◌∙◌, arith}
use Rattle.std.specs.Prelude.{codes, decimal}
use Rattle.std.specs.List.{AllByRecursion, IsDistinct, list_all, position_from}
use Rattle.std.specs.Char.{is_ascii_digit}
use Rattle.std.specs.Str.{bytes_eq, all_ascii_digits}
use Rattle.std.proofs.lemmas.Bool.{false_from_ne_true}
use Rattle.std.proofs.lemmas.Bool.Decides.{nat_tests}
use Rattle.std.proofs.lemmas.Fmt.{decimal_digit, digits_decimal, digits_value-decimal, decimal_nonempty, first_decimal}
use Rattle.std.proofs.lemmas.List.Elements.{All-from_recursion}
use Rattle.std.proofs.lemmas.List.Splits.{slice_split_at, slice_split_none}
use Rattle.std.proofs.lemmas.Slice.Eq.{bytes_eq-Decides}
use Rattle.apex_types.specs.Name.{is_name, is_visible}
use Rattle.apex_types.specs.Numbers.{digits_value, has_leading_zero, number_of}
use Rattle.apex_machine.specs.table.Table.{Step}
use Rattle.apex_types.specs.declared.calls.Call.TheVariants as calls
use Rattle.apex_types.specs.declared.calls.ObjectCall.TheVariants.{KindService}
use Rattle.apex_types.specs.declared.calls.PartitionCall.TheVariants.{SetPartitionMode}
use Rattle.apex_types.specs.declared.calls.ProcessService.TheVariants.{InitializeCoreAffinity, Start}
use Rattle.apex_types.specs.declared.calls.RequestedMode.TheVariants.{Normal}
use Rattle.apex_calls.specs.CallText.{spaced}
use Rattle.apex_calls.specs.declared.catalogue.Kind.TheVariants.{Process, Semaphore, Buffer, Blackboard, EventFlag, Mutex}
use Rattle.apex_table.specs.Terms.{Kind, Origin, Place}
use Rattle.apex_table.specs.DefaultInit.{bare, create}
use Rattle.apex_table.specs.Names.{Names, names_in}
use Rattle.apex_words.specs.Words.{words, is_empty}
use Rattle.apex_table.specs.Steps.{step, step_of, row_step, with_word}
use Rattle.apex_table.proofs.Spelling.{number_model, true-false}
use Rattle.apex_table.proofs.Slots.{and_true}

-- words and spaces

-- no space
abbrev IsClear : List ℕ → Type 0
IsClear w = AllByRecursion (λ c. (c == 32) ≡ false) w

pub words_spaced : (w : List ℕ) (ws : List (List ℕ)) → IsClear w → AllByRecursion IsClear ws → words (spaced (w ∷ ws)) ≡ w ∷ ws
words_spaced w [] clear all = slice_split_none (λ c. c == 32) w (All-from_recursion (λ c. (c == 32) ≡ false) w clear)
words_spaced w (v ∷ ws) clear all =
    slice_split_at (λ c. c == 32) w 32 (spaced (v ∷ ws)) (All-from_recursion (λ c. (c == 32) ≡ false) w clear) refl
    ∙ ap (λ rest. w ∷ rest) (words_spaced v ws all.0 all.1)

visible_clear : (w : List ℕ) → list_all is_visible w ≡ true → IsClear w
visible_clear [] all = tt
visible_clear (c ∷ w) all =
    let a = and_true (is_visible c) (list_all is_visible w) all in
    (grind (arith, nat_tests, a.0), visible_clear w a.1)

name_clear : (name : List ℕ) → is_name name ≡ true → IsClear name
name_clear name good = visible_clear name (and_true (nat_le 1 (length name) && nat_le (length name) 30) (list_all is_visible name) good).1

name_some : (name : List ℕ) → is_name name ≡ true → is_empty name ≡ false
name_some [] good = absurd (cc good)
name_some (c ∷ name) good = refl

digits_clear : (w : List ℕ) → all_ascii_digits w ≡ true → IsClear w
digits_clear [] all = tt
digits_clear (c ∷ w) all =
    let a = and_true (is_ascii_digit c) (all_ascii_digits w) all in
    (grind (arith, nat_tests, a.0), digits_clear w a.1)

-- numbers

plain_number : (w : List ℕ) (n : ℕ) → (length w == 0) ≡ false → has_leading_zero w ≡ false → all_ascii_digits w ≡ true → digits_value w ≡ n → number_of w ≡ Some n
plain_number w n some lead digits value = rw (some, lead, digits, value) refl

leads : (n : ℕ) → n < 2 ^ 64 → has_leading_zero (decimal n) ≡ false
leads zero small = rw (decimal_digit 0 (omega arith)) refl
leads (suc n) small = grind (arith, nat_tests, first_decimal (suc n) (omega arith) small)

pub number_of_decimal : (n : ℕ) → n < 2 ^ 64 → number_of (decimal n) ≡ Some n
number_of_decimal n small =
    plain_number (decimal n) n (grind (arith, nat_tests, decimal_nonempty n small)) (leads n small)
    (digits_decimal number_model n small) (digits_value-decimal number_model n small)

-- places

same_bytes : (xs : List ℕ) → bytes_eq xs xs ≡ true
same_bytes xs = (bytes_eq-Decides xs xs).1 refl

other_bytes : (xs ys : List ℕ) → bytes_eq xs ys ≡ false → bytes_eq ys xs ≡ false
other_bytes xs ys other =
    false_from_ne_true _ (λ e. true-false (sym (subst (λ zs. bytes_eq xs zs ≡ true) (sym ((bytes_eq-Decides ys xs).0 e)) (same_bytes xs)) ∙ other))

pub found_name : (names : List (List ℕ)) → IsDistinct bytes_eq names → (k i : ℕ) → i < length names → position_from (bytes_eq (slice_index_or names i [])) k names ≡ Some (k + i)
unfolding IsDistinct
found_name [] distinct k i below = absurd (omega arith)
found_name (x ∷ names) distinct k zero below = rw (same_bytes x) (ap Some (omega arith))
found_name (x ∷ names) distinct k (suc i) below =
    let other : bytes_eq (slice_index_or names i []) x ≡ false =
    other_bytes x _ (All-from_recursion (λ y. bytes_eq x y ≡ false) names distinct.0 i [] (omega arith)) in
    rw (other) (found_name names distinct.1 (k + 1) i (omega arith) ∙ ap Some (omega arith))

-- the words of the CREATE of a thing of this name
abbrev pub create_words : Kind → List ℕ → List (List ℕ)
create_words Process name = codes "CREATE_PROCESS" ∷ name ∷ []
create_words Semaphore name = codes "CREATE_SEMAPHORE" ∷ name ∷ []
create_words Buffer name = codes "CREATE_BUFFER" ∷ name ∷ []
create_words Blackboard name = codes "CREATE_BLACKBOARD" ∷ name ∷ []
create_words EventFlag name = codes "CREATE_EVENT" ∷ name ∷ []
create_words Mutex name = codes "CREATE_MUTEX" ∷ name ∷ []

module _ (at : Place) (origin : Origin) (names : Names) where
  created_read : (k : Kind) (name : List ℕ) (i : ℕ) → is_name name ≡ true → position_from (bytes_eq name) 0 (names_in names k) ≡ Some i → step_of at origin names (create_words k name) ≡ Ok (bare (create k i))
  unfolding row_step with_word
  created_read Process name i good found = rw (name_some name good, good, found) refl
  created_read Semaphore name i good found = rw (name_some name good, good, found) refl
  created_read Buffer name i good found = rw (name_some name good, good, found) refl
  created_read Blackboard name i good found = rw (name_some name good, good, found) refl
  created_read EventFlag name i good found = rw (name_some name good, good, found) refl
  created_read Mutex name i good found = rw (name_some name good, good, found) refl

  started_read : (name : List ℕ) (i : ℕ) → is_name name ≡ true → position_from (bytes_eq name) 0 names.processes ≡ Some i → step_of at origin names (codes "START" ∷ name ∷ []) ≡ Ok (bare (calls.Process (KindService i Start)))
  unfolding row_step with_word
  started_read name i good found = rw (name_some name good, found) refl

  placed_read : (name : List ℕ) (i core : ℕ) → is_name name ≡ true → position_from (bytes_eq name) 0 names.processes ≡ Some i → core < 256 → step_of at origin names (codes "INITIALIZE_PROCESS_CORE_AFFINITY" ∷ name ∷ decimal core ∷ []) ≡ Ok (bare (calls.Process (KindService i (InitializeCoreAffinity core))))
  unfolding row_step with_word
  placed_read name i core good found small =
      let few : nat_le core 255 ≡ true = grind (arith, nat_tests) in
      let some : nat_le 0 core ≡ true = grind (arith, nat_tests) in
      rw (name_some name good, found, number_of_decimal core (omega arith), few, some) refl

  normal_read : step_of at origin names (codes "SET_PARTITION_MODE" ∷ codes "NORMAL" ∷ []) ≡ Ok (bare (calls.Partition (SetPartitionMode Normal)))
  unfolding row_step with_word
  normal_read = refl

  -- some text is read as the step
  pub record IsWritten (given : Step) : Type 0 where
    pub text : List ℕ
    pub read : step at origin names text ≡ Ok given

  written : (given : Step) (w : List ℕ) (ws : List (List ℕ)) → IsClear w → AllByRecursion IsClear ws → step_of at origin names (w ∷ ws) ≡ Ok given → IsWritten given
  unfolding step
  written given w ws clear all e = record {
    text = spaced (w ∷ ws);
    read = ap (step_of at origin names) (words_spaced w ws clear all) ∙ e;
  }

  pub created_written : (k : Kind) (name : List ℕ) (i : ℕ) → is_name name ≡ true → position_from (bytes_eq name) 0 (names_in names k) ≡ Some i → IsWritten (bare (create k i))
  created_written Process name i good found =
      written _ (codes "CREATE_PROCESS") (name ∷ []) (visible_clear (codes "CREATE_PROCESS") refl) (name_clear name good, tt) (created_read Process name i good found)
  created_written Semaphore name i good found =
      written _ (codes "CREATE_SEMAPHORE") (name ∷ []) (visible_clear (codes "CREATE_SEMAPHORE") refl) (name_clear name good, tt) (created_read Semaphore name i good found)
  created_written Buffer name i good found =
      written _ (codes "CREATE_BUFFER") (name ∷ []) (visible_clear (codes "CREATE_BUFFER") refl) (name_clear name good, tt) (created_read Buffer name i good found)
  created_written Blackboard name i good found =
      written _ (codes "CREATE_BLACKBOARD") (name ∷ []) (visible_clear (codes "CREATE_BLACKBOARD") refl) (name_clear name good, tt) (created_read Blackboard name i good found)
  created_written EventFlag name i good found =
      written _ (codes "CREATE_EVENT") (name ∷ []) (visible_clear (codes "CREATE_EVENT") refl) (name_clear name good, tt) (created_read EventFlag name i good found)
  created_written Mutex name i good found =
      written _ (codes "CREATE_MUTEX") (name ∷ []) (visible_clear (codes "CREATE_MUTEX") refl) (name_clear name good, tt) (created_read Mutex name i good found)

  pub started_written : (name : List ℕ) (i : ℕ) → is_name name ≡ true → position_from (bytes_eq name) 0 names.processes ≡ Some i → IsWritten (bare (calls.Process (KindService i Start)))
  started_written name i good found =
      written _ (codes "START") (name ∷ []) (visible_clear (codes "START") refl) (name_clear name good, tt) (started_read name i good found)

  pub placed_written : (name : List ℕ) (i core : ℕ) → is_name name ≡ true → position_from (bytes_eq name) 0 names.processes ≡ Some i → core < 256 → IsWritten (bare (calls.Process (KindService i (InitializeCoreAffinity core))))
  placed_written name i core good found small =
      written _ (codes "INITIALIZE_PROCESS_CORE_AFFINITY") (name ∷ decimal core ∷ [])
      (visible_clear (codes "INITIALIZE_PROCESS_CORE_AFFINITY") refl)
      (name_clear name good, (digits_clear (decimal core) (digits_decimal number_model core (omega arith)), tt)) (placed_read name i core good found small)

  pub normal_written : IsWritten (bare (calls.Partition (SetPartitionMode Normal)))
  normal_written =
      written _ (codes "SET_PARTITION_MODE") (codes "NORMAL" ∷ [])
      (visible_clear (codes "SET_PARTITION_MODE") refl) (visible_clear (codes "NORMAL") refl, tt) normal_read
