-- Trees of pairs.
use Rattle.std.proofs.Common.{◌≡◌, ℕ, zero, suc, ◌+◌, ◌/◌, ◌%◌, ◌^◌, List, [], ◌∷◌, ◌++◌, length, length-append, take, drop, Option, Some, Result, Ok, Err, refl, sym, ap, ◌∙◌, subst, inl, inr, arith}
use Rattle.std.proofs.lemmas.List.{take-append-drop}
use Rattle.std.proofs.lemmas.Option.{get_or_from_slice_get, same_Some}
use Rattle.std.specs.List.{slice_get, slice_set}
use Rattle.std.specs.Prelude.{IfOk, slice_index_or}
use Rattle.apex_states.specs.Lists.{IsFront}
use Rattle.apex_states.specs.Rows.{Packed}
use Rattle.apex_states.specs.Nodes.{ArePartsFound, IsExact, IsHeld, IsTree, Joins, joined, spread, words_of}
use Rattle.apex_states.specs.declared.nodes.Nodes.{Nodes}
use Rattle.apex_states.proofs.Fronts.{set_back, IsFront-refl, IsFront-trans}

-- What is there stays there.

pub IsHeld-refl : (nodes : Nodes) → IsHeld nodes nodes
IsHeld-refl nodes = record { parts = IsFront-refl nodes.parts.rows; pairs = IsFront-refl nodes.pairs.rows; width = refl }

pub IsHeld-trans : (a b c : Nodes) → IsHeld a b → IsHeld b c → IsHeld a c
IsHeld-trans a b c one other = record {
  parts = IsFront-trans one.parts other.parts;
  pairs = IsFront-trans one.pairs other.pairs;
  width = other.width ∙ one.width;
}

-- nodes whose pairs alone go on
pub IsHeld-pairs : (old new : Nodes) → new.parts ≡ old.parts → IsFront old.pairs.rows new.pairs.rows → IsHeld old new
IsHeld-pairs old new same front = record { parts = rw same (IsFront-refl old.parts.rows); pairs = front; width = rw same refl }

-- nodes whose parts alone go on
pub IsHeld-parts : (old new : Nodes) → new.pairs ≡ old.pairs → IsFront old.parts.rows new.parts.rows → new.parts.width ≡ old.parts.width → IsHeld old new
IsHeld-parts old new same front width = record { parts = front; pairs = rw same (IsFront-refl old.pairs.rows); width = width }

pub Joins-map : (P Q : ℕ → List ℕ → Type 0) (row words : List ℕ) → ((n : ℕ) (k : List ℕ) → P n k → Q n k) → Joins P row words → Joins Q row words
Joins-map P Q row words each joins = record {
  word = joins.word;
  front = joins.front;
  back = joins.back;
  row_is = joins.row_is;
  left = each (joins.word / 2 ^ 32) joins.front joins.left;
  right = each (joins.word % 2 ^ 32) joins.back joins.right;
  halves = joins.halves;
  words_are = joins.words_are;
}

pub IsTree-held : (old new : Nodes) (depth number : ℕ) (k : List ℕ) → IsHeld old new → IsTree old depth number k → IsTree new depth number k
IsTree-held old new zero number k held there = held.parts.same number k there
IsTree-held old new (suc depth) number k held (row, there, joins) =
    (row, held.pairs.same number row there, Joins-map (IsTree old depth) (IsTree new depth) row k (λ n l tree. IsTree-held old new depth n l held tree) joins)

pub Joins-held : (old new : Nodes) (depth : ℕ) (row k : List ℕ) → IsHeld old new → Joins (IsTree old depth) row k → Joins (IsTree new depth) row k
Joins-held old new depth row k held joins = Joins-map (IsTree old depth) (IsTree new depth) row k (λ n l tree. IsTree-held old new depth n l held tree) joins

-- A number has one list of words.

both : (a b c d : List ℕ) → a ≡ b → c ≡ d → a ++ c ≡ b ++ d
both a b c d one other = rw (one, other) refl

pub joined-is : (P : ℕ → List ℕ → Type 0) (words_at : ℕ → List ℕ) (row words : List ℕ) → ((n : ℕ) (k : List ℕ) → P n k → words_at n ≡ k) → Joins P row words → joined words_at row ≡ words
joined-is P words_at row words each joins =
    let left = each (joins.word / 2 ^ 32) joins.front joins.left in
    let right = each (joins.word % 2 ^ 32) joins.back joins.right in
    ap (joined words_at) joins.row_is
    ∙ (both (words_at (joins.word / 2 ^ 32)) joins.front (words_at (joins.word % 2 ^ 32)) joins.back left right
    ∙ sym joins.words_are)

pub words_of-tree : (nodes : Nodes) (depth number : ℕ) (k : List ℕ) → IsTree nodes depth number k → words_of nodes depth number ≡ k
words_of-tree nodes zero number k there = get_or_from_slice_get nodes.parts.rows number k [] there
words_of-tree nodes (suc depth) number k (row, there, joins) =
    ap (joined (words_of nodes depth)) (get_or_from_slice_get nodes.pairs.rows number row [] there)
    ∙ joined-is (IsTree nodes depth) (words_of nodes depth) row k (λ n l tree. words_of-tree nodes depth n l tree) joins

-- Words have one number.

pub split_append : (xs ys xs' ys' : List ℕ) → length xs ≡ length xs' → xs ++ ys ≡ xs' ++ ys' → (xs ≡ xs') × (ys ≡ ys')
split_append [] ys [] ys' long same = (refl, same)
split_append [] ys (x ∷ xs') ys' long same = cc
split_append (x ∷ xs) ys [] ys' long same = cc
split_append (x ∷ xs) ys (x' ∷ xs') ys' long same =
    let first : x ≡ x' = cc in
    let rest : xs ++ ys ≡ xs' ++ ys' = cc in
    let deeper = split_append xs ys xs' ys' (omega arith) rest in
    (rw (first, deeper.0) refl, deeper.1)

pub same_word : (a b : ℕ) → a / 2 ^ 32 ≡ b / 2 ^ 32 → a % 2 ^ 32 ≡ b % 2 ^ 32 → a ≡ b
same_word a b high low = omega (arith, high, low)

pub Joins-same : (P : ℕ → List ℕ → Type 0) (row row' words : List ℕ) → ((n m : ℕ) (k : List ℕ) → P n k → P m k → n ≡ m) → Joins P row words → Joins P row' words → row ≡ row'
Joins-same P row row' words same one other =
    let whole : one.front ++ one.back ≡ other.front ++ other.back = sym one.words_are ∙ other.words_are in
    let total : length (one.front ++ one.back) ≡ length (other.front ++ other.back) = ap length whole in
    let long : length one.front ≡ length other.front = omega (arith, total, length-append one.front one.back, length-append other.front other.back, one.halves, other.halves) in
    let parts = split_append one.front one.back other.front other.back long whole in
    let Left : List ℕ → Type 0 = λ k. P (one.word / 2 ^ 32) k in
    let Right : List ℕ → Type 0 = λ k. P (one.word % 2 ^ 32) k in
    let left = same (one.word / 2 ^ 32) (other.word / 2 ^ 32) other.front (subst Left parts.0 one.left) other.left in
    let right = same (one.word % 2 ^ 32) (other.word % 2 ^ 32) other.back (subst Right parts.1 one.right) other.right in
    let word : one.word ≡ other.word = same_word one.word other.word left right in
    one.row_is ∙ (ap (λ w. w ∷ []) word ∙ sym other.row_is)

pub IsTree-same : (nodes : Nodes) (depth n m : ℕ) (k : List ℕ) → IsExact nodes → IsTree nodes depth n k → IsTree nodes depth m k → n ≡ m
IsTree-same nodes zero n m k exact one other = exact.parts n m k one other
IsTree-same nodes (suc depth) n m k exact (row, here, joins) (row', here', joins') =
    let e : row ≡ row' = Joins-same (IsTree nodes depth) row row' k (λ i j l one other. IsTree-same nodes depth i j l exact one other) joins joins' in
    exact.pairs n m row' (here ∙ ap Some e) here'

pub same_root : (nodes : Nodes) (depth : ℕ) (row row' k : List ℕ) → IsExact nodes → Joins (IsTree nodes depth) row k → Joins (IsTree nodes depth) row' k → row ≡ row'
same_root nodes depth row row' k exact joins joins' = Joins-same (IsTree nodes depth) row row' k (λ i j l one other. IsTree-same nodes depth i j l exact one other) joins joins'

-- For the functions.

-- the tree of a pair that was numbered
pub IsTree-paired : (nodes : Nodes) (depth less number word : ℕ) (words : List ℕ) → suc less ≡ depth → slice_get nodes.pairs.rows number ≡ Some (word ∷ []) → Joins (IsTree nodes less) (word ∷ []) words → IsTree nodes depth number words
IsTree-paired nodes depth less number word words e there joins =
    let Tree : ℕ → Type 0 = λ d. IsTree nodes d number words in
    subst Tree e (word ∷ [], there, joins)

-- the row of a tree that is none of the parts
pub IsTree-row : (nodes : Nodes) (depth less number : ℕ) (words : List ℕ) → depth ≡ suc less → IsTree nodes depth number words → IsTree nodes (suc less) number words
IsTree-row nodes depth less number words e tree =
    let Tree : ℕ → Type 0 = λ d. IsTree nodes d number words in
    subst Tree e tree

pub spread-less : (width depth less : ℕ) → depth ≡ suc less → spread width depth ≡ spread width less + spread width less
spread-less width depth less e = ap (spread width) e

pub Joins-halves : (old new : Nodes) (depth left right word : ℕ) (words front back : List ℕ)
    → IsHeld old new
    → IsTree old depth left front → IsTree new depth right back
    → word / 2 ^ 32 ≡ left → word % 2 ^ 32 ≡ right
    → length front ≡ length back → words ≡ front ++ back
    → Joins (IsTree new depth) (word ∷ []) words
Joins-halves old new depth left right word words front back held one other high low halves whole =
    let Left : ℕ → Type 0 = λ n. IsTree new depth n front in
    let Right : ℕ → Type 0 = λ n. IsTree new depth n back in
    record {
      word = word;
      front = front;
      back = back;
      row_is = refl;
      left = subst Left (sym high) (IsTree-held old new depth left front held one);
      right = subst Right (sym low) other;
      halves = halves;
      words_are = whole;
    }

-- nodes whose pairs go on, with that of both halves of these words
pub IsTree-numbered : {E : Type 0} (old : Nodes) (pairs : Packed) (depth less word : ℕ) (words : List ℕ) (result : Result ℕ E)
    → suc less ≡ depth
    → IsFront old.pairs.rows pairs.rows
    → IfOk result (λ number. slice_get pairs.rows number ≡ Some (word ∷ []))
    → Joins (IsTree old less) (word ∷ []) words
    → IfOk result (λ number. IsTree (record { parts = old.parts; pairs = pairs }) depth number words)
IsTree-numbered old pairs depth less word words (Ok number) e front there joins =
    let new : Nodes = record { parts = old.parts; pairs = pairs } in
    let held : IsHeld old new = IsHeld-pairs old new refl front in
    IsTree-paired new depth less number word words e there (Joins-held old new less (word ∷ []) words held joins)
IsTree-numbered old pairs depth less word words (Err error) e front there joins = tt

-- the words of a tree that has halves
pub tree_halves : (nodes : Nodes) (depth less number : ℕ) (row k : List ℕ) → depth ≡ suc less → slice_get nodes.pairs.rows number ≡ Some row → IsTree nodes depth number k → Joins (IsTree nodes less) row k
tree_halves nodes depth less number row k e there tree =
    let (row', there', joins) = IsTree-row nodes depth less number k e tree in
    let same : row' ≡ row = same_Some row' row (sym there' ∙ there) in
    let Is : List ℕ → Type 0 = λ r. Joins (IsTree nodes less) r k in
    subst Is same joins

pub halves_whole : (words front back : List ℕ) (middle : ℕ) → front ≡ take middle words → back ≡ drop middle words → words ≡ front ++ back
halves_whole words front back middle one other = rw (one, other) (sym (take-append-drop middle words))

-- a row of one word
pub single : (row : List ℕ) → length row ≡ 1 → row ≡ slice_index_or row 0 0 ∷ []
single [] one = cc
single (x ∷ []) one = refl
single (x ∷ y ∷ row) one = absurd (omega (arith, one))

pub Joins-single : (P : ℕ → List ℕ → Type 0) (row k : List ℕ) → length row ≡ 1 → Joins P row k → Joins P (slice_index_or row 0 0 ∷ []) k
Joins-single P row k one joins =
    let Is : List ℕ → Type 0 = λ r. Joins P r k in
    subst Is (single row one) joins

-- the tree of the back half
pub back_tree : (P : ℕ → List ℕ → Type 0) (word right : ℕ) (k : List ℕ) → Joins P (word ∷ []) k → right ≡ word % 2 ^ 32 → (back : List ℕ) × (length back + length back ≡ length k) × P right back
back_tree P word right k joins right_is =
    let e : joins.word ≡ word = sym (same_head word joins.word joins.row_is) in
    let total : length k ≡ length joins.front + length joins.back = ap length joins.words_are ∙ length-append joins.front joins.back in
    let Is : ℕ → Type 0 = λ n. P n joins.back in
    let at : joins.word % 2 ^ 32 ≡ right = ap (λ w. w % 2 ^ 32) e ∙ sym right_is in
    (joins.back, omega (arith, total, joins.halves), subst Is at joins.right)
  where
    same_head : (a b : ℕ) → a ∷ [] ≡ b ∷ [] → a ≡ b
    same_head a b same = cc

-- the trees of both halves of known words
pub known_halves : (P : ℕ → List ℕ → Type 0) (pair left right : ℕ) (known front back : List ℕ)
    → Joins P (pair ∷ []) known
    → length front ≡ length back → known ≡ front ++ back
    → left ≡ pair / 2 ^ 32 → right ≡ pair % 2 ^ 32
    → P left front × P right back
known_halves P pair left right known front back joins halves whole left_is right_is =
    let e : joins.word ≡ pair = sym (same_head pair joins.word joins.row_is) in
    let total : length joins.front + length joins.back ≡ length front + length back = sym (length-append joins.front joins.back) ∙ (ap length (sym joins.words_are ∙ whole) ∙ length-append front back) in
    let as_long : length joins.front ≡ length front = omega (arith, total, joins.halves, halves) in
    let parts = split_append joins.front joins.back front back as_long (sym joins.words_are ∙ whole) in
    let Left : List ℕ → Type 0 = λ k. P (joins.word / 2 ^ 32) k in
    let Right : List ℕ → Type 0 = λ k. P (joins.word % 2 ^ 32) k in
    let Low : ℕ → Type 0 = λ n. P n front in
    let High : ℕ → Type 0 = λ n. P n back in
    let at : joins.word / 2 ^ 32 ≡ left = ap (λ w. w / 2 ^ 32) e ∙ sym left_is in
    let at' : joins.word % 2 ^ 32 ≡ right = ap (λ w. w % 2 ^ 32) e ∙ sym right_is in
    (subst Low at (subst Left parts.0 joins.left), subst High at' (subst Right parts.1 joins.right))
  where
    same_head : (a b : ℕ) → a ∷ [] ≡ b ∷ [] → a ≡ b
    same_head a b same = cc

-- Known trees, whose numbers are translated.

-- the number of a pair of which both halves are translated
pub IsTree-translated : {E : Type 0} (known old : Nodes) (pairs : Packed) (depth less number word : ℕ) (row : List ℕ) (result : Result ℕ E)
    → depth ≡ suc less
    → slice_get known.pairs.rows number ≡ Some row → length row ≡ 1
    → ((k : List ℕ) → Joins (IsTree known less) (slice_index_or row 0 0 ∷ []) k → Joins (IsTree old less) (word ∷ []) k)
    → IsFront old.pairs.rows pairs.rows
    → IfOk result (λ among. slice_get pairs.rows among ≡ Some (word ∷ []))
    → IfOk result (λ among. (k : List ℕ) → IsTree known depth number k → IsTree (record { parts = old.parts; pairs = pairs }) depth among k)
IsTree-translated known old pairs depth less number word row (Ok among) e here one halves front there = λ k tree.
    let new : Nodes = record { parts = old.parts; pairs = pairs } in
    let joins = Joins-single (IsTree known less) row k one (tree_halves known depth less number row k e here tree) in
    IsTree-paired new depth less among word k (sym e) there (Joins-held old new less (word ∷ []) k (IsHeld-pairs old new refl front) (halves k joins))
IsTree-translated known old pairs depth less number word row (Err error) e here one halves front there = tt

-- the pair of two numbers that are translated
pub Joins-translated : (Is : ℕ → List ℕ → Type 0) (old new : Nodes) (depth pair left right among_left among_right word : ℕ) (k : List ℕ)
    → IsHeld old new
    → left ≡ pair / 2 ^ 32 → right ≡ pair % 2 ^ 32
    → ((front : List ℕ) → Is left front → IsTree old depth among_left front)
    → ((back : List ℕ) → Is right back → IsTree new depth among_right back)
    → word / 2 ^ 32 ≡ among_left → word % 2 ^ 32 ≡ among_right
    → Joins Is (pair ∷ []) k → Joins (IsTree new depth) (word ∷ []) k
Joins-translated Is old new depth pair left right among_left among_right word k held left_is right_is one other high low joins =
    let (front, back) = known_halves Is pair left right k joins.front joins.back joins joins.halves joins.words_are left_is right_is in
    Joins-halves old new depth among_left among_right word k joins.front joins.back held (one joins.front front) (other joins.back back) high low joins.halves joins.words_are

-- what was found of parts is right still, once there are more
pub ArePartsFound-held : (known nodes new : Nodes) (found : List (Option ℕ)) → IsHeld nodes new → ArePartsFound known nodes found → ArePartsFound known new found
ArePartsFound-held known nodes new found held are number among k there is = held.parts.same among k (are number among k there is)

-- one part more is found
pub ArePartsFound-set : (known nodes new : Nodes) (found : List (Option ℕ)) (number among : ℕ) → IsHeld nodes new
    → ((k : List ℕ) → IsTree known 0 number k → IsTree new 0 among k)
    → ArePartsFound known nodes found → ArePartsFound known new (slice_set found number (Some among))
ArePartsFound-set known nodes new found number among held right are other it k there is = elim (set_back found number (Some among) other (Some it) there) [
  | inl (e, same) ↦ subst (λ n. IsTree new 0 n k) (same_Some among it same) (right k (subst (λ n. IsTree known 0 n k) e is))
  | inr (_, before) ↦ held.parts.same it k (are other it k before is)
]
