-- The text of a table, line by line.
use Rattle.std.proofs.Common.{◌≡◌, ◌∙◌, ℕ, ◌+◌, ◌-◌, ◌≤◌, List, [], ◌∷◌, ◌++◌, ◌⊎◌, inl, inr, Option, Err, refl, sym, ap, arith, length, take, drop, subst, append_assoc, append-nil, take-append-drop, length-drop}
use Rattle.std.specs.Prelude.{◌≢◌}
use Rattle.std.proofs.lemmas.Grind.{flat_map-append}
use Rattle.std.proofs.lemmas.List.{drop-append-le, drop_all, take-append-le, take_all}
use Rattle.apex_table.proofs.Results.{all_append}
use Rattle.std.specs.Io.KnownBytes.{IsAtEnd}
use Rattle.apex_words.specs.Outcome.{Fails}
use Rattle.apex_table.specs.Reading.{table_of}
use Rattle.apex_words.specs.declared.TableFault.{TableFault}
use Rattle.apex_words.specs.declared.TableFault.TheVariants as table_fault
use Rattle.apex_incoming.specs.declared.pending.Next.{Next}
use Rattle.apex_incoming.specs.declared.pending.Next.TheVariants.{Rest, End}
use Rattle.apex_check.specs.declared.tables.LeadingFault.TheVariants.{Table}
use Rattle.apex_incoming.specs.Ahead.{Comes, IsAhead, IsFirstLine}
use Rattle.apex_check.specs.Leading.{CountsLeadingRead, IsLeadingFaultOf, LacksTable}
use Rattle.apex_check.specs.TableFaults.{fault_of_table}
use Rattle.apex_check.specs.Texts.{HasNoSeparator, IsOfTable, IsTableText, separator}
use Rattle.apex_incoming.specs.Lines.{IsOneLine, ended, text_of}
use Rattle.apex_incoming.proofs.FirstLines.{one_line_append}

-- one line more
pub text_more : (lines : List (List ℕ)) (line : List ℕ) → text_of (lines ++ line ∷ []) ≡ text_of lines ++ ended line
text_more lines line = flat_map-append ended lines (line ∷ []) ∙ ap (λ l. text_of lines ++ l) (append-nil (ended line))

pub table_more : (front line : List ℕ) → IsTableText front → IsOneLine line → (ended line ≢ ended separator) → IsTableText (front ++ ended line)
table_more front line text one other = record {
  lines = text.lines ++ line ∷ [];
  whole = ap (λ l. l ++ ended line) text.whole ∙ sym (text_more text.lines line);
  others = all_append IsOfTable text.lines (line ∷ []) text.others ((one, λ same. other (ap ended same)), tt);
}

-- the bytes from a place on, as a slice has them
pub from_place : (start : ℕ) (items : List ℕ) → take (length items - start) (drop start items) ≡ drop start items
from_place start items = take_all (length items - start) (drop start items) (omega (arith, length-drop start items))

-- the part of the text that was gathered, in which the next line begins at this place, and one
-- piece more
module _ (items piece : List ℕ) (start : ℕ) (within : start ≤ length items) where
  pub front_kept : take start (items ++ piece) ≡ take start items
  front_kept = take-append-le start items piece within

  pub part_grown : drop start (items ++ piece) ≡ drop start items ++ piece
  part_grown = drop-append-le start items piece within

-- the line that ends in the first line of the pending bytes
line_ended : (items pending : List ℕ) (start end : ℕ) → start ≤ length items → IsFirstLine end pending
    → drop start (items ++ take (end + 1) pending) ≡ ended (drop start items ++ take end pending)
line_ended items pending start end within first =
    part_grown items (take (end + 1) pending) start within
    ∙ ap (λ l. drop start items ++ l) first.1
    ∙ sym (append_assoc (drop start items) (take end pending) (10 ∷ []))

-- a line that is not the separator
pub line_more : (items pending : List ℕ) (start end : ℕ) → start ≤ length items → IsTableText (take start items)
    → IsOneLine (drop start items) → IsFirstLine end pending
    → (drop start (items ++ take (end + 1) pending) ≢ ended separator)
    → IsTableText (items ++ take (end + 1) pending)
line_more items pending start end within text part first other =
    let piece = take (end + 1) pending in
    let line = drop start items ++ take end pending in
    let e = line_ended items pending start end within first in
    let one = one_line_append (drop start items) (take end pending) part first.0 in
    let whole : take start items ++ ended line ≡ items ++ piece =
    ap (λ l. l ++ ended line) (sym (front_kept items piece start within))
    ∙ ap (λ l. take start (items ++ piece) ++ l) (sym e)
    ∙ take-append-drop start (items ++ piece) in
    subst IsTableText whole (table_more (take start items) line text one (λ same. other (e ∙ same)))

-- the end of a text without separator
pub none_separates : (items pending left : List ℕ) (start : ℕ) → IsTableText (take start items)
    → IsOneLine (drop start items) → IsOneLine pending → left ≡ [] → HasNoSeparator (items ++ (pending ++ left))
none_separates items pending left start text part one none = record {
  front = take start items;
  rest = drop start items ++ pending;
  whole =
      ap (λ l. items ++ l) (ap (λ l. pending ++ l) none ∙ append-nil pending)
      ∙ ap (λ l. l ++ pending) (sym (take-append-drop start items))
      ∙ append_assoc (take start items) (drop start items) pending;
  lines = text;
  unended = one_line_append (drop start items) pending part one;
}

-- the text ends with the line that was looked at
pub none_behind : (n : ℕ) (items : List ℕ) → n ≡ length items → IsTableText items
    → IsTableText (take n items) × IsOneLine (drop n items)
none_behind n items all text =
    (rw (take_all n items (omega (arith, all))) text, rw (drop_all n items (omega (arith, all))) refl)

-- the last piece of a text
pub last_piece : (next : Next) (pending : List ℕ) (left : Option (List ℕ)) → (next ≡ Rest) ⊎ (next ≡ End) → Comes next pending left
    → IsOneLine pending × IsAtEnd left
last_piece next pending left (inl e) comes =
    let (one, some, few, end) : Comes Rest pending left = subst (λ (n : Next). Comes n pending left) e comes in
    (one, end)
last_piece next pending left (inr e) comes =
    let (none, end) : Comes End pending left = subst (λ (n : Next). Comes n pending left) e comes in
    (rw none refl, end)

-- a fault of the table, as the text's
pub of_table : (known : Option (List ℕ)) (text : List ℕ) (fault : TableFault) → Fails fault (table_of text)
    → ((found : TableFault) → (found ≢ table_fault.Memory) → table_of text ≡ Err found → (x : List ℕ) × IsAhead x known × LacksTable x (Table found))
    → IsLeadingFaultOf known (fault_of_table fault)
of_table known text table_fault.Memory fails found = tt
of_table known text fault fails found = found fault (λ e. cc) fails

pub counts_table : (fault : TableFault) (old new : ℕ) → new ≡ old → CountsLeadingRead (fault_of_table fault) old new
counts_table table_fault.Memory old new same = same
counts_table fault old new same = same
