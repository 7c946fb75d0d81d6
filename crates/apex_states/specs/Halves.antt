-- Halves of states, as they are kept in memory.
use Rattle.std.specs.Prelude.{◌≡◌, ℕ, ◌+◌, ◌-◌, ◌/◌, ◌%◌, ◌^◌, ◌≤◌, List, ◌++◌, length, replicate, take, drop}
use Rattle.apex_states.specs.declared.halves.Half.{Half}
use Rattle.apex_states.specs.declared.halves.Side.{Side}
use Rattle.apex_states.specs.declared.halves.Side.TheVariants.{Left, Right}
use Rattle.apex_states.specs.declared.halves.TheConstants.{DEPTH, PARTS}
use Rattle.apex_states.specs.Nodes.{IsExact, IsHeld, IsTree, spread, words_of}

-- the words of a state on this side, of which there are this many
abbrev pub part_of : Side → ℕ → List ℕ → List ℕ
part_of Left width state = take width state
part_of Right width state = drop (length state - width) state

-- how many words of a state of this width are on this side
abbrev pub width_on : Side → ℕ → ℕ
width_on Left width = width / 2
width_on Right width = width - width / 2

-- the number on this side of a pair
abbrev pub number_on : Side → ℕ → ℕ
number_on Left pair = pair / 2 ^ 32
number_on Right pair = pair % 2 ^ 32

-- what stands behind the words of each half, so that its tree has equal parts
abbrev pub rest_of : Half → List ℕ
rest_of half = drop half.width half.words.items

-- the number is that of the half with these words
pub record IsNumber (half : Half) (number : ℕ) (words : List ℕ) : Type 0 where
  pub long : length words ≡ half.width
  pub tree : IsTree half.nodes DEPTH number (words ++ rest_of half)

-- the words of the half with this number
abbrev pub words_at : Half → ℕ → List ℕ
words_at half number = take half.width (words_of half.nodes DEPTH number)

-- the trees are exact and as long as the words, zeros stand behind those of each half, and the number
-- is that of the half that is here
pub record IsHalf (half : Half) : Type 0 where
  pub exact : IsExact half.nodes
  pub part : half.nodes.parts.width ≡ half.width / PARTS + 1
  pub long : length half.words.items ≡ spread half.nodes.parts.width DEPTH
  pub wide : half.width ≤ length half.words.items
  pub rest : rest_of half ≡ replicate (length half.words.items - half.width) 0
  pub here_long : length half.here.items ≡ length half.words.items
  pub here_rest : drop half.width half.here.items ≡ rest_of half
  pub here : IsTree half.nodes DEPTH half.number half.here.items

-- what had a number has it still
pub record StillHas (old new : Half) : Type 0 where
  pub held : IsHeld old.nodes new.nodes
  pub rest : rest_of new ≡ rest_of old
  pub width : new.width ≡ old.width
  pub side : new.side ≡ old.side
