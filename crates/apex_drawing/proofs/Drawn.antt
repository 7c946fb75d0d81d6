-- The part of a picture that was written, and the part that is still to be.
use Rattle.std.proofs.Common.{◌≡◌, ◌∙◌, ℕ, List, [], ◌∷◌, ◌++◌, Option, refl, sym, ap, subst, append-nil, append_assoc}
use Rattle.std.proofs.KnownBytes.{Appends-nil}
use Rattle.std.proofs.lemmas.Grind.{flat_map-append}
use Rattle.std.specs.Prelude.{flat_map}
use Rattle.apex_machine.specs.Machine.{Machine, opening, run}
use Rattle.apex_machine.specs.table.Table.{Table}
use Rattle.apex_history.specs.Counted.{AppendsBeginning}
use Rattle.apex_history.specs.Page.{Passes}
use Rattle.apex_history.proofs.Passing.{beginning_longer, passes_with}
use Rattle.apex_drawing.specs.Drawing.{Grows}
use Rattle.apex_moments.specs.Moments.{IsPictured, Column, picture}
use Rattle.apex_drawing.specs.Pictures.{column_text, columns_text, foot_text, head_text, picture_text}
use Rattle.apex_moments.specs.Terms.{Event}
use Rattle.apex_drawing.specs.declared.styles.Style.{Style}
use Rattle.apex_moments.proofs.Pictured.{run_more}

-- the text of the columns so far
abbrev pub so_far : Style → Table → Machine → List ℕ
so_far style table machine = head_text style table ++ columns_text style table machine

-- further columns follow those before
text_more : (style : Style) (table : Table) (old new : Machine) (columns : List Column)
    → picture table new ≡ picture table old ++ columns
    → so_far style table new ≡ so_far style table old ++ flat_map (column_text style table) columns
text_more style table old new columns more =
    let text = column_text style table in
    ap (λ (all : List Column). head_text style table ++ flat_map text all) more
    ∙ ap (λ rest. head_text style table ++ rest) (flat_map-append text (picture table old) columns)
    ∙ sym (append_assoc (head_text style table) (flat_map text (picture table old)) (flat_map text columns))

-- an event's columns follow what is held
pub drawn_more : (a b : Option (List ℕ)) (style : Style) (table : Table) (old new : Machine) (held after : List ℕ)
    → Passes a b (so_far style table old) held → Grows style table old new held after
    → Passes a b (so_far style table new) after
drawn_more a b style table old new held after passes grows =
    let (columns, more, stands) = grows in
    subst (λ text. Passes a b (so_far style table new) text) (sym stands)
    (subst (λ text. Passes a b text (held ++ flat_map (column_text style table) columns)) (sym (text_more style table old new columns more))
    (passes_with a b (so_far style table old) held (flat_map (column_text style table) columns) passes))

-- the text that is held is still to be written
pub unwritten : (a b : Option (List ℕ)) (text held : List ℕ) → Passes a b text held → AppendsBeginning a b text
unwritten a b text held p =
    let (front, whole, first) = p in
    (front, held, whole, first)

-- a prefix of the columns so far is one of the picture of the whole run
pub beginning_of_picture : (a b : Option (List ℕ)) (style : Style) (table : Table) (machine end : Machine) (rest : List Event)
    → IsPictured table machine → run table machine rest ≡ end
    → AppendsBeginning a b (so_far style table machine) → AppendsBeginning a b (picture_text style table end)
beginning_of_picture a b style table machine end rest pictured is begun =
    let (columns, more) = run_more table rest machine pictured in
    let whole = text_more style table machine end columns (ap (picture table) (sym is) ∙ more) in
    let longer : AppendsBeginning a b (so_far style table end) =
    subst (AppendsBeginning a b) (sym whole) (beginning_longer a b (so_far style table machine) _ begun) in
    beginning_longer a b (so_far style table end) (foot_text style table end) longer

-- the picture with its foot
pub passes_foot : (a b : Option (List ℕ)) (style : Style) (table : Table) (machine : Machine) (held foot after : List ℕ)
    → Passes a b (so_far style table machine) held → foot ≡ foot_text style table machine → after ≡ held ++ foot
    → Passes a b (picture_text style table machine) after
passes_foot a b style table machine held foot after passes is stands =
    rw (stands, is) (passes_with a b (so_far style table machine) held (foot_text style table machine) passes)

-- the head is held, and nothing was written yet
pub begun : (a : Option (List ℕ)) (style : Style) (table : Table) (machine : Machine) (text : List ℕ)
    → machine ≡ opening table → text ≡ head_text style table → Passes a a (so_far style table machine) text
begun a style table machine text opened is =
    let none : columns_text style table machine ≡ [] = rw opened refl in
    ([], ap (λ columns. head_text style table ++ columns) none ∙ append-nil (head_text style table) ∙ sym is, Appends-nil a)

-- one column is added
pub one_column : (style : Style) (table : Table) (machine new : Machine) (column : Column) (text after : List ℕ)
    → picture table new ≡ picture table machine ++ column ∷ []
    → after ≡ text ++ column_text style table column → Grows style table machine new text after
one_column style table machine new column text after more is =
    (column ∷ [], more, is ∙ ap (λ l. text ++ l) (sym (append-nil (column_text style table column))))
