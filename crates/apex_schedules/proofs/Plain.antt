-- A text without groups is read as a schedule.
use Rattle.std.proofs.Common.{◌≡◌, ◌∙◌, ℕ, ◌<◌, ◌==◌, Bool, true, false, refl, sym, ap, arith, List, [], ◌∷◌, ◌++◌, Option, Some, None, length, map, append-nil}
use Rattle.std.specs.Prelude.{All, option_map}
use Rattle.std.specs.List.{AllByRecursion, onto_first}
use Rattle.std.proofs.lemmas.Bool.Decides.{nat_tests}
use Rattle.std.proofs.lemmas.List.Elements.{recursion_from_All}
use Rattle.apex_history.specs.Words.{parts}
use Rattle.apex_schedules.specs.declared.schedule.Item.{Item}
use Rattle.apex_schedules.specs.declared.pieces.Piece.TheVariants as piece
use Rattle.apex_schedules.specs.Schedule.{all_some, item_of, items_of}
use Rattle.apex_schedules.specs.Groups.{HasNoGroups, filled, grouped_items_of, is_boundary, items_behind, piece_of, words}
use Rattle.apex_schedules.proofs.Items.{joined, joined_cons, joined_nil}
use Rattle.apex_schedules.proofs.Words.{plain_first}

-- the byte ends a word only if it is a space
abbrev IsPlain : ℕ → Type 0
IsPlain byte = is_boundary byte ≡ (byte == 32)

words_plain : (text : List ℕ) → AllByRecursion IsPlain text → words text ≡ parts 32 text
words_plain [] all = refl
words_plain (byte ∷ rest) all = go (byte == 32) refl (words_plain rest all.1)
  where
    go : (b : Bool) → (byte == 32) ≡ b → words rest ≡ parts 32 rest → words (byte ∷ rest) ≡ parts 32 (byte ∷ rest)
    go true t later = rw (t, later) refl
    go false t later = plain_first byte rest (all.0 ∙ t) ∙ ap (onto_first byte) later ∙ rw t refl

onto_plain : (byte : ℕ) (ws : List (List ℕ)) → IsPlain byte → AllByRecursion (AllByRecursion IsPlain) ws → AllByRecursion (AllByRecursion IsPlain) (onto_first byte ws)
onto_plain byte [] plain all = ((plain, tt), tt)
onto_plain byte (w ∷ ws) plain all = ((plain, all.0), all.1)

parts_plain : (text : List ℕ) → AllByRecursion IsPlain text → AllByRecursion (AllByRecursion IsPlain) (parts 32 text)
parts_plain [] all = (tt, tt)
parts_plain (byte ∷ rest) all = go (byte == 32) refl (parts_plain rest all.1)
  where
    go : (b : Bool) → (byte == 32) ≡ b → AllByRecursion (AllByRecursion IsPlain) (parts 32 rest) → AllByRecursion (AllByRecursion IsPlain) (parts 32 (byte ∷ rest))
    go true t later = rw t (tt, later)
    go false t later = rw t (onto_plain byte (parts 32 rest) all.0 later)

filled_all : (ws : List (List ℕ)) → AllByRecursion (λ w. 0 < length w) ws → filled ws ≡ ws
filled_all [] some = refl
filled_all ([] ∷ ws) some = absurd (omega (arith, some.0))
filled_all ((byte ∷ w) ∷ ws) some = ap (λ more. (byte ∷ w) ∷ more) (filled_all ws some.1)

-- a word that begins with no bracket is an item
piece_plain : (byte : ℕ) (w : List ℕ) → IsPlain byte → piece_of (byte ∷ w) ≡ option_map piece.Single (item_of (byte ∷ w))
piece_plain byte w plain = open_ (byte == 40) refl
  where
    close : (b : Bool) → (byte == 41) ≡ b → (byte == 40) ≡ false → piece_of (byte ∷ w) ≡ option_map piece.Single (item_of (byte ∷ w))
    close true t o =
        let same : byte ≡ 41 = grind (arith, nat_tests, t) in
        let no : true ≡ false = rw same at plain in
        absurd (cc no)
    close false t o = rw (o, t) refl

    open_ : (b : Bool) → (byte == 40) ≡ b → piece_of (byte ∷ w) ≡ option_map piece.Single (item_of (byte ∷ w))
    open_ true t =
        let same : byte ≡ 40 = grind (arith, nat_tests, t) in
        let no : true ≡ false = rw same at plain in
        absurd (cc no)
    open_ false t = close (byte == 41) refl t

behind : (items : List Item) (ws : List (List ℕ)) → AllByRecursion (λ w. 0 < length w) ws → AllByRecursion (AllByRecursion IsPlain) ws
    → items_behind items [] (map piece_of ws) ≡ joined items (all_some (map item_of ws))
behind items [] some plain = ap Some (sym (append-nil items))
behind items ([] ∷ ws) some plain = absurd (omega (arith, some.0))
behind items ((byte ∷ w) ∷ ws) some plain = go (item_of (byte ∷ w)) refl (λ is. behind is ws some.1 plain.1)
  where
    go : (o : Option Item) → item_of (byte ∷ w) ≡ o
        → ((is : List Item) → items_behind is [] (map piece_of ws) ≡ joined is (all_some (map item_of ws)))
        → items_behind items [] (map piece_of ((byte ∷ w) ∷ ws)) ≡ joined items (all_some (map item_of ((byte ∷ w) ∷ ws)))
    go None t later = rw (piece_plain byte w plain.0.0, t) refl
    go (Some item) t later = rw (piece_plain byte w plain.0.0, t) (later (items ++ item ∷ []) ∙ sym (joined_cons items item (map item_of ws)))

pub as_a_schedule : (text : List ℕ) → HasNoGroups text → All (λ w. 0 < length w) (parts 32 text) → grouped_items_of text ≡ items_of text
as_a_schedule text plain some =
    let all : AllByRecursion IsPlain text = recursion_from_All IsPlain text plain in
    let each : AllByRecursion (λ w. 0 < length w) (parts 32 text) = recursion_from_All (λ w. 0 < length w) (parts 32 text) some in
    ap (λ ws. items_behind [] [] (map piece_of (filled ws))) (words_plain text all)
    ∙ ap (λ ws. items_behind [] [] (map piece_of ws)) (filled_all (parts 32 text) each)
    ∙ behind [] (parts 32 text) each (parts_plain text all)
    ∙ joined_nil (items_of text)
