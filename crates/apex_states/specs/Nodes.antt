-- Words as trees of pairs.
use Rattle.std.specs.Prelude.{◌≡◌, ℕ, zero, suc, ◌+◌, ◌/◌, ◌%◌, ◌^◌, List, [], ◌∷◌, ◌++◌, length, slice_get, get_or, Option, Some}
use Rattle.apex_states.specs.Lists.{IsFront}
use Rattle.apex_states.specs.Registers.{AreApart}
use Rattle.apex_states.specs.Rows.{no_rows}
use Rattle.apex_states.specs.declared.nodes.Nodes.{Nodes}

-- no nodes yet
abbrev pub no_nodes : ℕ → ℕ → Nodes
no_nodes width room = record { parts = no_rows width room; pairs = no_rows 1 room }

-- how many words a tree of this depth has, if its parts have this many
abbrev pub spread : ℕ → ℕ → ℕ
spread width zero = width
spread width (suc depth) = spread width depth + spread width depth

-- the row is a pair, whose numbers are those of the halves of the words
pub record Joins (Is : ℕ → List ℕ → Type 0) (row words : List ℕ) : Type 0 where
  pub word : ℕ
  pub front : List ℕ
  pub back : List ℕ
  pub row_is : row ≡ word ∷ []
  pub left : Is (word / 2 ^ 32) front
  pub right : Is (word % 2 ^ 32) back
  pub halves : length front ≡ length back
  pub words_are : words ≡ front ++ back

-- the number is that of a tree of this depth, with these words
abbrev pub IsTree : Nodes → ℕ → ℕ → List ℕ → Type 0
IsTree nodes zero number words = slice_get nodes.parts.rows number ≡ Some words
IsTree nodes (suc depth) number words = (row : List ℕ)
    × (slice_get nodes.pairs.rows number ≡ Some row) × Joins (IsTree nodes depth) row words

-- the words of both halves of a pair
abbrev pub joined : (ℕ → List ℕ) → List ℕ → List ℕ
joined words_of [] = []
joined words_of (word ∷ _) = words_of (word / 2 ^ 32) ++ words_of (word % 2 ^ 32)

-- the words of the tree of this depth with this number
abbrev pub words_of : Nodes → ℕ → ℕ → List ℕ
words_of nodes zero number = get_or nodes.parts.rows number []
words_of nodes (suc depth) number =
    joined (words_of nodes depth) (get_or nodes.pairs.rows number [])

-- each part and each pair is there once
pub record IsExact (nodes : Nodes) : Type 0 where
  pub parts : AreApart nodes.parts.rows
  pub pairs : AreApart nodes.pairs.rows
  pub one : nodes.pairs.width ≡ 1

-- what was there is there still
pub record IsHeld (old new : Nodes) : Type 0 where
  pub parts : IsFront old.parts.rows new.parts.rows
  pub pairs : IsFront old.pairs.rows new.pairs.rows
  pub width : new.parts.width ≡ old.parts.width

-- what was found at the place of a known part's number is the number of the part with the same words
abbrev pub ArePartsFound : Nodes → Nodes → List (Option ℕ) → Type 0
ArePartsFound known nodes found = (number among : ℕ) (k : List ℕ)
    → slice_get found number ≡ Some (Some among)
    → IsTree known zero number k → IsTree nodes zero among k
