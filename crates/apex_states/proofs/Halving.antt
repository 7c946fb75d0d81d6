-- Halves of states.
use Rattle.std.proofs.Common.{◌≡◌, ℕ, ◌+◌, ◌-◌, ◌/◌, ◌≤◌, List, [], ◌∷◌, ◌++◌, length, length-append, take, drop, refl, sym, ap, ◌∙◌, subst, arith}
use Rattle.std.proofs.lemmas.List.{length-drop, length-take-le, take-append-drop}
use Rattle.apex_states.specs.declared.halves.Half.{Half}
use Rattle.apex_states.specs.declared.halves.Side.{Side}
use Rattle.apex_states.specs.declared.halves.Side.TheVariants.{Left, Right}
use Rattle.apex_states.specs.declared.halves.TheConstants.{DEPTH, PARTS}
use Rattle.apex_states.specs.Halves.{part_of, rest_of, words_at, IsHalf, IsNumber, StillHas}
use Rattle.apex_states.specs.Nodes.{spread, IsExact, IsHeld, IsTree}
use Rattle.apex_states.proofs.Trees.{words_of-tree, IsHeld-refl, IsHeld-trans, IsTree-held, IsTree-same}

pub take_front : (xs ys : List ℕ) → take (length xs) (xs ++ ys) ≡ xs
take_front [] ys = refl
take_front (x ∷ xs) ys = ap (λ zs. x ∷ zs) (take_front xs ys)

pub drop_front : (xs ys : List ℕ) → drop (length xs) (xs ++ ys) ≡ ys
drop_front [] ys = refl
drop_front (x ∷ xs) ys = drop_front xs ys

-- words that were lent and given back
pub given_back : (len : ℕ) (new old : List ℕ) → len ≡ length old → length new ≡ length old → take len (new ++ drop (length new) old) ≡ new
given_back len new old long same =
    let e : length new ≡ len = same ∙ sym long in
    let Is : ℕ → Type 0 = λ n. take n (new ++ drop (length new) old) ≡ new in
    subst Is e (take_front new (drop (length new) old))

-- The words of a side.

pub part_long : (side : Side) (width : ℕ) (state : List ℕ) → width ≤ length state → length (part_of side width state) ≡ width
part_long Left width state wide = length-take-le width state wide
part_long Right width state wide = length-drop (length state - width) state ∙ omega (arith, wide)

pub parts_whole : (left right : ℕ) (state : List ℕ) → length state ≡ left + right → state ≡ part_of Left left state ++ part_of Right right state
parts_whole left right state long =
    let middle : length state - right ≡ left = omega (arith, long) in
    let Whole : ℕ → Type 0 = λ n. state ≡ take left state ++ drop n state in
    subst Whole (sym middle) (sym (take-append-drop left state))

-- What had a number has it still.

pub StillHas-refl : (half : Half) → StillHas half half
StillHas-refl half = record { held = IsHeld-refl half.nodes; rest = refl; width = refl; side = refl }

pub StillHas-trans : (a b c : Half) → StillHas a b → StillHas b c → StillHas a c
StillHas-trans a b c one other = record {
  held = IsHeld-trans a.nodes b.nodes c.nodes one.held other.held;
  rest = other.rest ∙ one.rest;
  width = other.width ∙ one.width;
  side = other.side ∙ one.side;
}

pub IsNumber-held : (old new : Half) (number : ℕ) (words : List ℕ) → StillHas old new → IsNumber old number words → IsNumber new number words
IsNumber-held old new number words has is =
    let Tree : List ℕ → Type 0 = λ rest. IsTree new.nodes DEPTH number (words ++ rest) in
    record {
      long = is.long ∙ sym has.width;
      tree = subst Tree (sym has.rest) (IsTree-held old.nodes new.nodes DEPTH number (words ++ rest_of old) has.held is.tree);
    }

-- A number is that of one half, and a half has one number.

pub words_at-is : (half : Half) (number : ℕ) (words : List ℕ) → IsNumber half number words → words_at half number ≡ words
words_at-is half number words is =
    let Taken : ℕ → Type 0 = λ n. take n (words ++ rest_of half) ≡ words in
    ap (take half.width) (words_of-tree half.nodes DEPTH number (words ++ rest_of half) is.tree) ∙ subst Taken is.long (take_front words (rest_of half))

pub same_number : (half : Half) (n m : ℕ) (words : List ℕ) → IsExact half.nodes → IsNumber half n words → IsNumber half m words → n ≡ m
same_number half n m words exact one other = IsTree-same half.nodes DEPTH n m (words ++ rest_of half) exact one.tree other.tree

tree_long : (half : Half) (number : ℕ) (k : List ℕ) → IsHalf half → IsNumber half number k → length (k ++ rest_of half) ≡ length half.words.items
tree_long half number k is number_is = omega (arith, length-append k (rest_of half), length-drop half.width half.words.items, is.wide, number_is.long)

-- the words of a tree with a number, for as many words as it has
pub to_restore : (half : Half) (number : ℕ) (k room : List ℕ) → IsHalf half → IsNumber half number k → length room ≡ length half.words.items
    → (words : List ℕ) × (length words ≡ length room) × IsTree half.nodes DEPTH number words
to_restore half number k room is number_is long = (k ++ rest_of half, tree_long half number k is number_is ∙ sym long, number_is.tree)

-- The words of a half, put before the rest.

pub fronted_back : (width len : ℕ) (words lent k put : List ℕ) → length k ≡ width → width ≤ length words → length lent ≡ len → lent ≡ words → put ≡ k ++ drop (length k) lent
    → (length (take len (put ++ drop (length put) words)) ≡ length words)
    × (drop width (take len (put ++ drop (length put) words)) ≡ drop width words)
    × (take len (put ++ drop (length put) words) ≡ k ++ drop width words)
fronted_back width len words lent k put long wide len_is lent_is put_is =
    let Is : ℕ → Type 0 = λ n. put ≡ k ++ drop n words in
    let at : put ≡ k ++ drop width words = subst Is long (put_is ∙ ap (λ ws. k ++ drop (length k) ws) lent_is) in
    let as_long : length put ≡ length words = ap length at ∙ omega (arith, long, wide, length-append k (drop width words), length-drop width words) in
    let Rest : ℕ → Type 0 = λ n. drop n (k ++ drop width words) ≡ drop width words in
    let back : take len (put ++ drop (length put) words) ≡ put = given_back len put words (sym len_is ∙ ap length lent_is) as_long in
    (ap length back ∙ as_long, ap (drop width) (back ∙ at) ∙ subst Rest long (drop_front k (drop width words)), back ∙ at)

-- a half with other nodes, and other words before the rest
pub IsHalf-on : (old new : Half) → IsHalf old
    → IsHeld old.nodes new.nodes → IsExact new.nodes
    → new.width ≡ old.width → length new.words.items ≡ length old.words.items → drop old.width new.words.items ≡ rest_of old
    → new.here.items ≡ old.here.items → new.number ≡ old.number
    → IsHalf new
IsHalf-on old new is held exact width long rest here number = record {
  exact = exact;
  part = held.width ∙ (is.part ∙ sym (ap (λ w. w / PARTS + 1) width));
  long = long ∙ (is.long ∙ sym (ap (λ w. spread w DEPTH) held.width));
  wide = omega (arith, width, long, is.wide);
  rest = rw (width, long) (rest ∙ is.rest);
  here_long = ap length here ∙ (is.here_long ∙ sym long);
  here_rest = rw (width, here) (is.here_rest ∙ sym rest);
  here = rw (number, here) (IsTree-held old.nodes new.nodes DEPTH old.number old.here.items held is.here);
}

-- the number of words that were put before the rest
pub IsNumber-put : (half new : Half) (number : ℕ) (k words : List ℕ) → length k ≡ half.width → new.width ≡ half.width → words ≡ k ++ rest_of half → rest_of new ≡ rest_of half → IsTree new.nodes DEPTH number words → IsNumber new number k
IsNumber-put half new number k words long width words_are rest tree = record { long = long ∙ sym width; tree = subst (IsTree new.nodes DEPTH number) (words_are ∙ ap (λ r. k ++ r) (sym rest)) tree }
