-- The part of a dump that was written, and the part that is still to be.
use Rattle.std.proofs.Common.{◌≡◌, ◌∙◌, ℕ, List, [], ◌++◌, Option, refl, sym, ap, subst, append-nil, append_assoc}
use Rattle.std.proofs.KnownBytes.{Appends-nil}
use Rattle.apex_machine.specs.Machine.{Machine, opening, run}
use Rattle.apex_machine.specs.table.Table.{Table}
use Rattle.apex_history.specs.Counted.{AppendsBeginning}
use Rattle.apex_history.specs.Page.{Passes}
use Rattle.apex_history.proofs.Passing.{beginning_longer, passes_with}
use Rattle.apex_types.specs.declared.entries.Event.{Event}
use Rattle.apex_waves.specs.Dumps.{dump_text, end_text, steps_text}
use Rattle.apex_waves.specs.Heads.{head_text}
use Rattle.apex_waves.specs.Snapshots.{snapshot_in}
use Rattle.apex_waves.specs.Printing.{Grows, IsFollowed}
use Rattle.apex_waves.proofs.Steps.{run_grows}

-- the text of the steps so far
abbrev pub so_far : Table → Machine → List ℕ
so_far table machine = head_text table (snapshot_in table (opening table)) ++ steps_text table machine

-- further steps follow those before
text_more : (table : Table) (old new : Machine) (more : List ℕ) → steps_text table new ≡ steps_text table old ++ more
    → so_far table new ≡ so_far table old ++ more
text_more table old new more is =
    let head = head_text table (snapshot_in table (opening table)) in
    ap (λ (l : List ℕ). head ++ l) is ∙ sym (append_assoc head (steps_text table old) more)

-- an event's steps follow what is held
pub printed_more : (a b : Option (List ℕ)) (table : Table) (old new : Machine) (held after : List ℕ)
    → Passes a b (so_far table old) held → Grows table old new held after → Passes a b (so_far table new) after
printed_more a b table old new held after passes grows =
    let (more, is, stands) = grows in
    subst (λ (text : List ℕ). Passes a b (so_far table new) text) (sym stands)
    (subst (λ (text : List ℕ). Passes a b text (held ++ more)) (sym (text_more table old new more is))
    (passes_with a b (so_far table old) held more passes))

-- a prefix of the steps so far is one of the dump of the whole run
pub beginning_of_dump : (a b : Option (List ℕ)) (table : Table) (machine end : Machine) (rest : List Event)
    → IsFollowed table machine → run table machine rest ≡ end
    → AppendsBeginning a b (so_far table machine) → AppendsBeginning a b (dump_text table end)
beginning_of_dump a b table machine end rest followed is begun =
    let (more, grown) = run_grows table rest machine followed in
    let whole = text_more table machine end more (ap (steps_text table) (sym is) ∙ grown) in
    let longer : AppendsBeginning a b (so_far table end) =
    subst (AppendsBeginning a b) (sym whole) (beginning_longer a b (so_far table machine) more begun) in
    beginning_longer a b (so_far table end) (end_text end) longer

-- the dump with its end
pub passes_end : (a b : Option (List ℕ)) (table : Table) (machine : Machine) (held after : List ℕ)
    → Passes a b (so_far table machine) held → after ≡ held ++ end_text machine → Passes a b (dump_text table machine) after
passes_end a b table machine held after passes stands =
    rw stands (passes_with a b (so_far table machine) held (end_text machine) passes)

-- the head is held, and nothing was written yet
pub begun : (a : Option (List ℕ)) (table : Table) (machine : Machine) (text : List ℕ)
    → machine ≡ opening table → text ≡ head_text table (snapshot_in table machine) → Passes a a (so_far table machine) text
begun a table machine text opened is =
    let head = head_text table (snapshot_in table (opening table)) in
    let none : steps_text table machine ≡ [] = rw opened refl in
    let first : text ≡ head = is ∙ ap (λ (m : Machine). head_text table (snapshot_in table m)) opened in
    ([], ap (λ (l : List ℕ). head ++ l) none ∙ append-nil head ∙ sym first, Appends-nil a)
