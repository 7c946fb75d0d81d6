-- Texts that reach a writer by way of a page.
use Rattle.std.proofs.Common.{◌≡◌, ℕ, List, [], ◌∷◌, ◌++◌, Option, refl, sym, ap, subst, ◌∙◌, append_assoc}
use Rattle.std.proofs.KnownBytes.{Appends-trans}
use Rattle.std.specs.Io.KnownBytes.{Appends}
use Rattle.apex_history.specs.Terms.{Entry}
use Rattle.apex_machine.specs.table.Table.{Table}
use Rattle.apex_calls.specs.Lines.{line_of, lines_of}
use Rattle.apex_history.specs.Counted.{AppendsBeginning}
use Rattle.apex_history.specs.Page.{Passes}
use Rattle.apex_history.proofs.LinesOf.{lines_more, lines_split}

-- a prefix of a text is one of a longer text
pub beginning_longer : (a b : Option (List ℕ)) (text more : List ℕ) → AppendsBeginning a b text → AppendsBeginning a b (text ++ more)
beginning_longer a b text more h =
    let (done, rest, split, appended) = h in
    (done, rest ++ more, ap (λ l. l ++ more) split ∙ append_assoc done rest more, appended)

-- a prefix of the text that the page held is a prefix of the whole text
pub beginning_after : (a b c : Option (List ℕ)) (text held : List ℕ) → Passes a b text held → AppendsBeginning b c held → AppendsBeginning a c text
beginning_after a b c text held p h =
    let (front, whole, first) = p in
    let (done, rest, split, second) = h in
    (front ++ done, rest, whole ∙ ap (λ l. front ++ l) split ∙ sym (append_assoc front done rest), Appends-trans a b c front done first second)

-- a prefix of a text that is written behind another one is a prefix of both
pub beginning_behind : (a b c : Option (List ℕ)) (text more : List ℕ) → Appends a b text → AppendsBeginning b c more
    → AppendsBeginning a c (text ++ more)
beginning_behind a b c text more first begun = beginning_after a b c (text ++ more) more (text, refl, first) begun

-- bytes behind the text stay behind those that are held
pub passes_with : (a b : Option (List ℕ)) (text held more : List ℕ) → Passes a b text held → Passes a b (text ++ more) (held ++ more)
passes_with a b text held more p =
    let (done, split, appended) = p in
    (done, ap (λ l. l ++ more) split ∙ append_assoc done held more, appended)

-- all that is held is handed on
pub passes_all : (a b c : Option (List ℕ)) (text held : List ℕ) → Passes a b text held → Appends b c held → Appends a c text
passes_all a b c text held p more =
    let (done, split, first) = p in
    subst (Appends a c) (sym split) (Appends-trans a b c done held first more)

-- the page hands on a part of what is held
pub passes_then : (a b c : Option (List ℕ)) (text held kept : List ℕ) → Passes a b text held → Passes b c held kept → Passes a c text kept
passes_then a b c text held kept p q =
    let (front, whole, first) = p in
    let (done, split, second) = q in
    (front ++ done, whole ∙ ap (λ l. front ++ l) split ∙ sym (append_assoc front done kept), Appends-trans a b c front done first second)

-- one line more is held
pub passes_line : (a b : Option (List ℕ)) (table : Table) (entries : List Entry) (entry : Entry) (page lines more : List ℕ)
    → Passes a b (lines_of table entries) (page ++ lines) → more ≡ lines ++ line_of table entry → Passes a b (lines_of table (entries ++ entry ∷ [])) (page ++ more)
passes_line a b table entries entry page lines more p put =
    rw (lines_more table entries entry, put, ← append_assoc page lines (line_of table entry)) (passes_with a b _ _ (line_of table entry) p)

-- a prefix of the page's part of the first lines is a prefix of all lines
pub beginning_of_lines : (a b c : Option (List ℕ)) (table : Table) (first others entries : List Entry) (held : List ℕ)
    → entries ≡ first ++ others → Passes a b (lines_of table first) held → AppendsBeginning b c held → AppendsBeginning a c (lines_of table entries)
beginning_of_lines a b c table first others entries held split p h =
    subst (AppendsBeginning a c) (lines_split table first others ∙ sym (ap (lines_of table) split))
    (beginning_longer a c (lines_of table first) (lines_of table others) (beginning_after a b c _ held p h))
