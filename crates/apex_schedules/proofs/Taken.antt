-- The words that a reading took are in its items and its open groups.
use Rattle.std.proofs.Common.{◌≡◌, ◌∙◌, ℕ, ◌+◌, ◌-◌, ◌<◌, ◌≤◌, List, [], ◌∷◌, ◌++◌, Option, None, Ok, Err, refl, sym, ap, subst, arith, append_assoc, append-nil, drop, length, map}
use Rattle.std.specs.Prelude.{count_by, if◌then◌else◌, reverse}
use Rattle.std.proofs.lemmas.List.{drop-drop, drop_all, length-reverse, map-append}
use Rattle.std.proofs.lemmas.List.Sums.{sum_by-append}
use Rattle.apex_schedules.specs.declared.groups.Place.{Place}
use Rattle.apex_schedules.specs.declared.groups.Refusal.{Refusal}
use Rattle.apex_schedules.specs.declared.groups.Refusal.TheVariants as refusal
use Rattle.apex_schedules.specs.declared.groups.ScheduleFault.TheVariants as fault
use Rattle.apex_schedules.specs.declared.pieces.Piece.{Piece}
use Rattle.apex_schedules.specs.declared.schedule.Item.{Item}
use Rattle.apex_schedules.specs.Groups.{AreTooMany, BeginsWithNoGap, CanBeFinished, IsIllFormedBehind, IsTooMuchBehind, filled, grouped_items_of, is_item, items_behind, piece_of, pieces_of, words}
use Rattle.apex_schedules.specs.Readings.{IsBehind, IsFaultOf, IsReading, IsTaken, IsWithin, fault_at, inner, items_after, outer}
use Rattle.apex_schedules.proofs.Levels.{closes_within}

-- the text's words are those that were taken, with as many items as were counted, and those of the rest;
-- whatever comes behind the ones that were taken, the reading writes out the same items with it
pub record HasTaken (text : List ℕ) (items : List Item) (starts : List ℕ) (item : ℕ) (rest : List ℕ) : Type 0 where
  pub before : List (List ℕ)
  pub parts : filled (words text) ≡ before ++ filled (words rest)
  pub counted : item ≡ count_by is_item before + 1
  pub same : (others : List (Option Piece)) → items_behind [] [] (map piece_of before ++ others) ≡ items_after items starts others

-- the bytes behind a part of the rest are behind a part of the text
pub rest_behind : (text rest after : List ℕ) → length rest ≤ length text → length after < length rest
    → rest ≡ drop (length text - length rest) text → after ≡ drop (length rest - length after) rest
    → after ≡ drop (length text - length after) text
rest_behind text rest after within shorter is next =
    let places : (length text - length rest) + (length rest - length after) ≡ length text - length after =
    omega (arith, within, shorter) in
    next ∙ ap (drop (length rest - length after)) is
    ∙ drop-drop (length rest - length after) (length text - length rest) text ∙ ap (λ n. drop n text) places

-- a reading writes out the items of the text
pub taken_items : {text : List ℕ} {items : List Item} {starts : List ℕ} {item : ℕ} {rest : List ℕ}
    → HasTaken text items starts item rest → grouped_items_of text ≡ items_after items starts (pieces_of rest)
taken_items {text} {items} {starts} {item} {rest} has =
    ap (λ ws. items_behind [] [] (map piece_of ws)) has.parts
    ∙ ap (items_behind [] []) (map-append piece_of has.before (filled (words rest))) ∙ has.same (pieces_of rest)

-- the words that were taken can be finished to a schedule
pub taken_finishes : {text : List ℕ} {items : List Item} {starts : List ℕ} {item : ℕ} {rest : List ℕ}
    (has : HasTaken text items starts item rest) → IsReading items starts → CanBeFinished (map piece_of has.before)
taken_finishes {text} {items} {starts} {item} {rest} has reading =
    let (end, xs, is, few) = closes_within items starts reading in
    record { rest = end; items = xs; whole = has.same end ∙ is; few = few }

-- the place behind the words that were taken
pub taken_behind : {text : List ℕ} {items : List Item} {starts : List ℕ} {item : ℕ} {rest : List ℕ}
    (has : HasTaken text items starts item rest) (place : Place) → IsWithin text place → rest ≡ drop place.byte text
    → BeginsWithNoGap rest → place.item ≡ item → IsBehind has.before text place
taken_behind {text} {items} {starts} {item} {rest} has place within at begins same = record {
  within = within;
  words = has.parts ∙ ap (λ r. has.before ++ filled (words r)) at;
  begins = subst BeginsWithNoGap at begins;
  item = same ∙ has.counted;
}

-- the words of a rest are its first word and those behind it
next_word : (rest word after : List ℕ) → 0 < length word → filled (words rest) ≡ filled (word ∷ words after)
    → filled (words rest) ≡ word ∷ filled (words after)
next_word rest [] after some is = absurd (omega (arith, some))
next_word rest (byte ∷ more) after some is = is

module _ {text : List ℕ} {items : List Item} {starts : List ℕ} {item : ℕ} {rest : List ℕ} (has : HasTaken text items starts item rest)
    (word after : List ℕ) (some : 0 < length word) (is : filled (words rest) ≡ filled (word ∷ words after)) where
  abbrev first_pieces : List (Option Piece)
  first_pieces = map piece_of has.before ++ piece_of word ∷ []

  rest_pieces : pieces_of rest ≡ piece_of word ∷ pieces_of after
  rest_pieces = ap (map piece_of) (next_word rest word after some is)

  parted : pieces_of text ≡ first_pieces ++ pieces_of after
  parted =
      ap (map piece_of) has.parts ∙ map-append piece_of has.before (filled (words rest))
      ∙ ap (λ pieces. map piece_of has.before ++ pieces) rest_pieces
      ∙ sym (append_assoc (map piece_of has.before) (piece_of word ∷ []) (pieces_of after))

  same_items : (others : List (Option Piece)) → items_behind [] [] (first_pieces ++ others) ≡ items_after items starts (piece_of word ∷ others)
  same_items others =
      ap (items_behind [] []) (append_assoc (map piece_of has.before) (piece_of word ∷ []) others)
      ∙ has.same (piece_of word ∷ others)

  -- one more piece is taken
  pub piece_taken : (done : Unit {0}) (new_items : List Item) (new_starts : List ℕ)
      → IsTaken items starts (piece_of word) (Ok done) new_items new_starts
      → HasTaken text new_items new_starts (item + (if is_item word then 1 else 0)) after
  piece_taken done new_items new_starts taken = record {
    before = has.before ++ word ∷ [];
    parts =
        has.parts ∙ ap (λ ws. has.before ++ ws) (next_word rest word after some is)
        ∙ sym (append_assoc has.before (word ∷ []) (filled (words after)));
    counted = omega (arith, has.counted, sum_by-append (λ w. if is_item w then 1 else 0) has.before (word ∷ []));
    same = λ others.
        ap (λ pieces. items_behind [] [] (pieces ++ others)) (map-append piece_of has.before (word ∷ []))
        ∙ same_items others ∙ taken.1 others;
  }

  -- the text has the fault of a piece that is refused
  pub piece_refused : (refused : Refusal) (new_items : List Item) (new_starts : List ℕ)
      → IsTaken items starts (piece_of word) (Err refused) new_items new_starts → IsReading items starts
      → (place : Place) → IsWithin text place → rest ≡ drop place.byte text → BeginsWithNoGap rest → place.item ≡ item
      → IsFaultOf text (fault_at refused place)
  piece_refused refusal.IllFormed new_items new_starts none reading place within at begins same = (
    taken_items has ∙ ap (items_after items starts) rest_pieces ∙ none (pieces_of after),
    record {
      before = has.before;
      behind = taken_behind has place within at begins same;
      finishes = taken_finishes has reading;
      fault =
          subst (IsIllFormedBehind (map piece_of has.before)) (sym rest_pieces ∙ ap pieces_of at)
          (λ others. has.same (piece_of word ∷ others) ∙ none others);
    },
  )
  piece_refused refusal.TooMany new_items new_starts many reading place within at begins same = (
    record {
      first = first_pieces;
      rest = pieces_of after;
      parts = parted;
      too_much = record {
        many = λ others. subst AreTooMany (sym (same_items others)) (many.many others);
        some = let (others, all, whole) = many.some in (others, all, same_items others ∙ whole);
      };
    },
    record {
      before = has.before;
      behind = taken_behind has place within at begins same;
      finishes = taken_finishes has reading;
      fault =
          subst (IsTooMuchBehind (map piece_of has.before)) (sym rest_pieces ∙ ap pieces_of at)
          (record {
            many = λ others. subst AreTooMany (sym (has.same (piece_of word ∷ others))) (many.many others);
            some = let (others, all, whole) = many.some in (others, all, has.same (piece_of word ∷ others) ∙ whole);
          });
    },
  )
  piece_refused refusal.Memory new_items new_starts any reading place within at begins same = tt

-- an open group is not closed by the text's end
left_open : (items : List Item) (starts : List ℕ) → 0 < length starts → items_behind (inner items starts) (outer items starts) [] ≡ None
left_open items [] some = absurd (omega (arith, some))
left_open items (start ∷ more) some = refl

-- the text ends in a group
pub ends_open : {text : List ℕ} {items : List Item} {starts : List ℕ} {item : ℕ} (rest : List ℕ) → length rest ≡ 0
    → HasTaken text items starts item rest → IsReading items starts → 0 < length starts → (place : Place) → IsWithin text place → place.byte ≡ length text
    → place.item ≡ item → IsFaultOf text (fault.IllFormed place)
ends_open {text} {items} {starts} {item} (byte ∷ rest) none has reading some place within end same = absurd (omega (arith, none))
ends_open {text} {items} {starts} {item} [] none has reading some place within end same =
    let at : [] ≡ drop place.byte text = sym (drop_all place.byte text (omega (arith, end))) in
    let open_ : items_after items starts [] ≡ None = left_open items (reverse starts) (omega (arith, some, length-reverse starts)) in
    let whole : items_behind [] [] (map piece_of has.before) ≡ None =
    ap (items_behind [] []) (sym (append-nil (map piece_of has.before))) ∙ has.same [] ∙ open_ in (
      taken_items has ∙ open_,
      record {
        before = has.before;
        behind = taken_behind has place within at tt same;
        finishes = taken_finishes has reading;
        fault = subst (IsIllFormedBehind (map piece_of has.before)) (ap pieces_of at) whole;
      },
    )
