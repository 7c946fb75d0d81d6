-- A text has one division into lines.
use Rattle.std.proofs.Common.{◌≡◌, ◌∙◌, ℕ, ◌+◌, ◌<◌, ◌≤◌, List, [], ◌∷◌, ◌++◌, Err, refl, sym, ap, subst, arith, length, append_assoc, length-append}
use Rattle.std.specs.List.{AllByRecursion, flat_map}
use Rattle.std.proofs.lemmas.Grind.{flat_map-append}
use Rattle.apex_machine.specs.table.Table.{Table}
use Rattle.apex_table.specs.Reading.{table_of}
use Rattle.apex_words.specs.declared.TableFault.{TableFault}
use Rattle.apex_check.specs.Texts.{BeginsWithTable, HasNoSeparator, IsOfTable, IsParted, separator}
use Rattle.apex_incoming.specs.Lines.{IsOneLine, ended, line_feeds, text_of}
use Rattle.apex_incoming.proofs.FirstLines.{feeds_append, feeds_cons, feeds_ended, same_first, some_feed}

-- the first of lines, and the lines behind it
pub first_of_lines : (line : List ℕ) (lines : List (List ℕ)) → text_of (line ∷ lines) ≡ line ++ (10 ∷ text_of lines)
first_of_lines line lines = append_assoc line (10 ∷ []) (text_of lines)

first_of : (line : List ℕ) (lines : List (List ℕ)) (rest : List ℕ) → text_of (line ∷ lines) ++ rest ≡ line ++ (10 ∷ (text_of lines ++ rest))
first_of line lines rest =
    append_assoc (ended line) (text_of lines) rest ∙ append_assoc line (10 ∷ []) (text_of lines ++ rest)

-- lines that begin with these others go on with more of them
pub same_lines : (others lines : List (List ℕ)) (rest : List ℕ) → AllByRecursion IsOneLine others → AllByRecursion IsOneLine lines
    → text_of lines ≡ text_of others ++ rest
    → (more : List (List ℕ)) × (lines ≡ others ++ more) × (rest ≡ text_of more) × AllByRecursion IsOneLine more
same_lines [] lines rest p q e = (lines, refl, sym e, q)
same_lines (o ∷ os) [] rest p q e =
    let none : [] ≡ o ++ (10 ∷ (text_of os ++ rest)) = e ∙ first_of o os rest in
    absurd (omega (arith, ap length none, length-append o (10 ∷ (text_of os ++ rest))))
same_lines (o ∷ os) (l ∷ ls) rest p q e =
    let (line, tail) = same_first l o (text_of ls) (text_of os ++ rest) q.0 p.0 (sym (first_of_lines l ls) ∙ e ∙ first_of o os rest) in
    let (more, whole, behind, apart) = same_lines os ls rest p.1 q.1 tail in
    (more, cc, behind, apart)

-- ---- line feeds

-- n lines have n line feeds
pub feeds_text : (lines : List (List ℕ)) → AllByRecursion IsOneLine lines → line_feeds (text_of lines) ≡ length lines
feeds_text [] p = refl
feeds_text (l ∷ ls) p = omega (arith, feeds_append (ended l) (text_of ls), feeds_ended l, p.0, feeds_text ls p.1)

pub some_feeds : (xs line zs : List ℕ) → 0 < line_feeds (xs ++ (ended line ++ zs))
some_feeds xs line zs = omega (arith, feeds_append xs (ended line ++ zs), feeds_append (ended line) zs, feeds_ended line)

-- a part without a line feed is no longer than the first line
pub no_longer : (part behind line rest : List ℕ) → IsOneLine part → line ++ (10 ∷ rest) ≡ part ++ behind → length part ≤ length line
no_longer [] behind line rest one e = omega arith
no_longer (y ∷ ys) behind [] rest one e =
    let feed : y ≡ 10 = cc in
    absurd (omega (arith, one, some_feed y ys feed))
no_longer (y ∷ ys) behind (x ∷ xs) rest one e =
    let tail : xs ++ (10 ∷ rest) ≡ ys ++ behind = cc in
    omega (arith, no_longer ys behind xs rest (omega (arith, one, feeds_cons y ys)) tail)

-- Pieces that end with a line feed each: if they have no more line feeds than there are pieces, no
-- piece has another one.
module _ {X : Type 0} (f : X → List ℕ) (shows : (x : X) → (shown : List ℕ) × (f x ≡ ended shown)) where
  feeds_each : (xs : List X) → length xs ≤ line_feeds (flat_map f xs)
  feeds_each [] = omega arith
  feeds_each (x ∷ xs) =
      omega (arith, feeds_each xs, feeds_append (f x) (flat_map f xs), ap line_feeds (shows x).1, feeds_ended (shows x).0)

  pub one_feed : (before : List X) (x : X) (later : List X)
      → line_feeds (flat_map f (before ++ x ∷ later)) ≤ length before + 1 + length later → IsOneLine (shows x).0
  one_feed before x later few =
      omega (
        arith,
        few,
        ap line_feeds (flat_map-append f before (x ∷ later)),
        feeds_append (flat_map f before) (f x ++ flat_map f later),
        feeds_append (f x) (flat_map f later),
        feeds_each before,
        feeds_each later,
        ap line_feeds (shows x).1,
        feeds_ended (shows x).0,
      )

-- ---- the place at which a text is parted

same_parts : (lines others : List (List ℕ)) (behind rest : List ℕ) → AllByRecursion IsOfTable lines → AllByRecursion IsOfTable others
    → text_of lines ++ (ended separator ++ behind) ≡ text_of others ++ (ended separator ++ rest)
    → (lines ≡ others) × (behind ≡ rest)
same_parts [] [] behind rest p q e = (refl, (same_first separator separator behind rest refl refl e).1)
same_parts [] (o ∷ os) behind rest p q e =
    let same = same_first separator o behind (text_of os ++ (ended separator ++ rest)) refl q.0.0 (e ∙ first_of o os (ended separator ++ rest)) in
    absurd (q.0.1 (sym same.0))
same_parts (l ∷ ls) [] behind rest p q e =
    let same = same_first l separator (text_of ls ++ (ended separator ++ behind)) rest p.0.0 refl (sym (first_of l ls (ended separator ++ behind)) ∙ e) in
    absurd (p.0.1 same.0)
same_parts (l ∷ ls) (o ∷ os) behind rest p q e =
    let (line, tail) = same_first l o (text_of ls ++ (ended separator ++ behind)) (text_of os ++ (ended separator ++ rest)) p.0.0 q.0.0
    (sym (first_of l ls (ended separator ++ behind)) ∙ e ∙ first_of o os (ended separator ++ rest)) in
    let (lines, ends) = same_parts ls os behind rest p.1 q.1 tail in
    (cc, ends)

whole_of : (text front behind : List ℕ) (parted : IsParted text front behind) → text ≡ text_of parted.0.lines ++ (ended separator ++ behind)
whole_of text front behind parted =
    parted.1 ∙ append_assoc front (ended separator) behind ∙ ap (λ l. l ++ (ended separator ++ behind)) parted.0.whole

-- a text is parted at one place
pub parts_once : (text front behind other rest : List ℕ) → IsParted text front behind → IsParted text other rest
    → (front ≡ other) × (behind ≡ rest)
parts_once text front behind other rest p q =
    let (lines, same) = same_parts p.0.lines q.0.lines behind rest p.0.others q.0.others
    (sym (whole_of text front behind p) ∙ whole_of text other rest q) in
    (p.0.whole ∙ ap text_of lines ∙ sym q.0.whole, same)

parts_not : (lines others : List (List ℕ)) (rest behind : List ℕ) → AllByRecursion IsOfTable lines → AllByRecursion IsOfTable others
    → IsOneLine rest → text_of lines ++ rest ≡ text_of others ++ (ended separator ++ behind) → ⊥
parts_not [] others rest behind p q one e =
    let some : 0 < line_feeds rest = subst (λ l. 0 < line_feeds l) (sym e) (some_feeds (text_of others) separator behind) in
    omega (arith, some, one)
parts_not (l ∷ ls) [] rest behind p q one e =
    let same = same_first l separator (text_of ls ++ rest) behind p.0.0 refl (sym (first_of l ls rest) ∙ e) in
    p.0.1 same.0
parts_not (l ∷ ls) (o ∷ os) rest behind p q one e =
    let (line, tail) = same_first l o (text_of ls ++ rest) (text_of os ++ (ended separator ++ behind)) p.0.0 q.0.0
    (sym (first_of l ls rest) ∙ e ∙ first_of o os (ended separator ++ behind)) in
    parts_not ls os rest behind p.1 q.1 one tail

-- a text without separator is parted nowhere
pub parts_nowhere : (text front behind : List ℕ) → HasNoSeparator text → IsParted text front behind → ⊥
parts_nowhere text front behind none p =
    parts_not none.lines.lines p.0.lines none.rest behind none.lines.others p.0.others none.unended
    (ap (λ l. l ++ none.rest) (sym none.lines.whole) ∙ sym none.whole ∙ whole_of text front behind p)

-- a text begins with one table
pub begins_once : (text : List ℕ) (table other : Table) (behind rest : List ℕ) → BeginsWithTable text table behind
    → BeginsWithTable text other rest → (table ≡ other) × (behind ≡ rest)
begins_once text table other behind rest (front, parted, reads) (again, parts, is) =
    let (same, ends) = parts_once text front behind again rest parted parts in
    let both = sym reads ∙ ap table_of same ∙ is in
    (cc, ends)

-- a text that begins with a table has no other before the separator
pub reads_once : (text : List ℕ) (table : Table) (front behind rest : List ℕ) (fault : TableFault) → BeginsWithTable text table behind
    → IsParted text front rest → table_of front ≡ Err fault → ⊥
reads_once text table front behind rest fault (again, parted, reads) parts is =
    let same = parts_once text again behind front rest parted parts in
    let both = sym reads ∙ ap table_of same.0 ∙ is in
    cc
