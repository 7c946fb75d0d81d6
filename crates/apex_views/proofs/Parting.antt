-- The lines of a text, up to the separator.
use Rattle.std.proofs.Common.{◌≡◌, ◌∙◌, ℕ, ◌+◌, ◌-◌, List, ◌++◌, None, Some, ap, arith, codes, drop, length, subst, sym, take, take-append-drop}
use Rattle.std.proofs.Math.Seq.{take-add}
use Rattle.std.proofs.lemmas.List.{take_rest}
use Rattle.std.specs.List.{position}
use Rattle.std.specs.Prelude.{◌≢◌}
use Rattle.apex_incoming.proofs.FirstLines.{first_feed, no_feed}
use Rattle.apex_check.proofs.Separated.{table_more}
use Rattle.apex_check.specs.Texts.{HasNoSeparator, IsParted, IsTableText, separator}
use Rattle.apex_incoming.specs.Lines.{ended, is_line_feed}

-- the bytes from a place on, and those of them up to another place, as slices have them
abbrev pub from_place : ℕ → List ℕ → List ℕ
from_place start text = take (length text - start) (drop start text)

abbrev pub between : ℕ → ℕ → List ℕ → List ℕ
between start next text = take (next - start) (drop start text)

-- a line begins at this place of a text, of which no line before is the separator, and has n bytes
-- before its line feed
module _ (text : List ℕ) (start n : ℕ) (front : IsTableText (take start text)) (found : Some n ≡ position is_line_feed (from_place start text)) where
  abbrev line : List ℕ
  line = take n (drop start text)

  at_feed : position is_line_feed (drop start text) ≡ Some n
  at_feed = ap (position is_line_feed) (sym (take_rest text start)) ∙ sym found

  piece_is : between start (start + n + 1) text ≡ ended line
  piece_is =
      ap (λ k. take k (drop start text)) (omega arith)
      ∙ (first_feed (drop start text) n at_feed).1

  front_is : take (start + n + 1) text ≡ take start text ++ ended line
  front_is =
      ap (λ k. take k text) (omega arith)
      ∙ take-add start (n + 1) text
      ∙ ap (λ l. take start text ++ l) (first_feed (drop start text) n at_feed).1

  -- the line is another one
  pub line_passed : (between start (start + n + 1) text ≢ codes "%%\n") → IsTableText (take (start + n + 1) text)
  line_passed other =
      subst IsTableText (sym front_is)
      (table_more (take start text) line front (first_feed (drop start text) n at_feed).0 (λ same. other (piece_is ∙ same)))

  -- the line is the separator
  pub line_parts : between start (start + n + 1) text ≡ codes "%%\n"
      → IsParted text (take start text) (from_place (start + n + 1) text)
  line_parts same =
      let next = start + n + 1 in (
        front,
        sym (take-append-drop next text)
            ∙ ap (λ l. l ++ drop next text) (front_is ∙ ap (λ l. take start text ++ l) (sym piece_is ∙ same))
            ∙ ap (λ l. take start text ++ ended separator ++ l) (sym (take_rest text next)),
      )

-- no line is the separator
pub none_parts : (text : List ℕ) (start : ℕ) → IsTableText (take start text) → position is_line_feed (from_place start text) ≡ None → HasNoSeparator text
none_parts text start front none = record {
  front = take start text;
  rest = drop start text;
  whole = sym (take-append-drop start text);
  lines = front;
  unended = no_feed (drop start text) (ap (position is_line_feed) (sym (take_rest text start)) ∙ none);
}
