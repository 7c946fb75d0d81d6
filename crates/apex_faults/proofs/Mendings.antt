-- The list of faults, one mending after the other.
use Rattle.std.proofs.Common.{◌≡◌, ℕ, zero, suc, ◌-◌, ◌<◌, ◌≤◌, ◌++◌, length, Bool, if◌then◌else◌, true, false, List, [], ◌∷◌, Option, Some, None, Result, Ok, Err, refl, ap, arith, append_assoc, append-nil, string_bytes, String, Global, sym}
use Rattle.std.specs.Prelude.{IsUtf8, IfSome}
use Rattle.std.proofs.lemmas.Option.{none-some}
use Rattle.std.proofs.lemmas.Str.{IsUtf8-string_bytes}
use Rattle.toml.specs.Data.{Data, Members, table}
use Rattle.toml.specs.Parse.{parse_document}
use Rattle.apex_machine.specs.table.Table.{Table}
use Rattle.apex_words.specs.Outcome.{◌>>=◌}
use Rattle.apex_table.specs.Reading.{document, reading, table_of}
use Rattle.apex_table.proofs.Document.{found}
use Rattle.apex_faults.specs.Depth.{is_printable}
use Rattle.apex_faults.specs.Faults.{fault_in, fault_of, faults, faults_after, BeginsWith, faults_by, faults_in, faults_of}
use Rattle.apex_faults.specs.Mended.{mended}
use Rattle.apex_faults.specs.Terms.{TableFault}
use Rattle.apex_faults.specs.declared.listing.TheConstants.{MOST_FAULTS}

-- a tree that the reader takes has no fault
no_faults : (n : ℕ) (tree : Data) → fault_of tree ≡ None → faults n tree ≡ []
no_faults zero tree h = refl
no_faults (suc n) tree h = ap (faults_by (faults n) tree) h

faults_at : (m n : ℕ) (tree : Data) (fault : TableFault) → n ≡ suc m → fault_of tree ≡ Some fault
    → faults n tree ≡ fault ∷ faults_after (faults m) (mended fault tree)
faults_at m n tree fault e h = rw e (ap (faults_by (faults m) tree) h)

-- another tree has the reader's fault first
faults_more : (n : ℕ) (tree : Data) (fault : TableFault) → 0 < n → fault_of tree ≡ Some fault
    → faults n tree ≡ fault ∷ faults_after (faults (n - 1)) (mended fault tree)
faults_more n tree fault some h = faults_at (n - 1) n tree fault (omega arith) h

-- the mended tree is read on if it can be printed
goes_on : (n : ℕ) (tree : Data) → is_printable tree ≡ true → faults_after (faults n) tree ≡ faults n tree
goes_on n tree h = rw h refl

ends_here : (n : ℕ) (tree : Data) → is_printable tree ≡ false → faults_after (faults n) tree ≡ []
ends_here n tree h = rw h refl

-- the reader's fault of a text is that of its tree
read_as : (text : List ℕ) (ms : Members) → IsUtf8 text → parse_document text ≡ Some ms
    → fault_in (table_of text) ≡ fault_of (table ms)
unfolding table_of
read_as text ms utf8 parsed = ap (λ d. fault_in (d >>= reading)) (found text ms utf8 parsed)

-- the same of a text that was printed
pub printed_as : (text : String Global) (ms : Members) → parse_document (string_bytes text) ≡ Some ms
    → fault_of (table ms) ≡ fault_in (table_of (string_bytes text))
printed_as text ms parsed = sym (read_as (string_bytes text) ms (IsUtf8-string_bytes text) parsed)

-- nothing is added if no fault is wanted, or the tree has none
pub none_wanted : (old : List TableFault) (n : ℕ) (tree : Data) → n ≡ 0 → old ≡ old ++ faults n tree
none_wanted old n tree h = rw (h, append-nil old) refl

pub none_found : (old : List TableFault) (n : ℕ) (tree : Data) → fault_of tree ≡ None → old ≡ old ++ faults n tree
none_found old n tree h = rw (no_faults n tree h, append-nil old) refl

-- a fault is added, and then those of the mended tree
more_found : (old new : List TableFault) (n : ℕ) (tree next : Data) (fault : TableFault) → 0 < n → fault_of tree ≡ Some fault
    → next ≡ mended fault tree → is_printable next ≡ true
    → new ≡ (old ++ fault ∷ []) ++ faults (n - 1) next → new ≡ old ++ faults n tree
more_found old new n tree next fault some h same printable more =
    rw (more, faults_more n tree fault some h, ← same, goes_on (n - 1) next printable)
    (append_assoc old (fault ∷ []) (faults (n - 1) next))

pub more_read : (old new : List TableFault) (n : ℕ) (tree next : Data) (fault : TableFault) (read : Option (Option TableFault)) (first : Option TableFault) → 0 < n → fault_of tree ≡ Some fault
    → next ≡ mended fault tree → read ≡ Some first → IfSome read (λ _. is_printable next ≡ true)
    → new ≡ (old ++ fault ∷ []) ++ faults (n - 1) next → new ≡ old ++ faults n tree
more_read old new n tree next fault None first some h same e printable more = absurd (none-some first e)
more_read old new n tree next fault (Some x) first some h same e printable more = more_found old new n tree next fault some h same printable more

-- a fault is added, and the mended tree is not read on
pub last_found : (old : List TableFault) (n : ℕ) (tree next : Data) (fault : TableFault) → 0 < n → fault_of tree ≡ Some fault
    → next ≡ mended fault tree → is_printable next ≡ false
    → old ++ fault ∷ [] ≡ old ++ faults n tree
last_found old n tree next fault some h same unprintable =
    rw (faults_more n tree fault some h, ← same, ends_here (n - 1) next unprintable) refl

-- the reader's fault of a text, and all its faults, are those of its tree
pub first_of_tree : (text : List ℕ) (ms : Members) (tree : Data) (first : Option TableFault) → document text ≡ Ok ms → tree ≡ table ms → first ≡ fault_in (table_of text)
    → first ≡ fault_of tree
unfolding table_of
first_of_tree text ms tree first h same read = rw (same, read) (ap (λ d. fault_in (d >>= reading)) h)

pub all_of_tree : (text : List ℕ) (ms : Members) (tree : Data) (old new : List TableFault) → document text ≡ Ok ms → tree ≡ table ms → old ≡ []
    → new ≡ old ++ faults MOST_FAULTS tree → new ≡ faults_of text
all_of_tree text ms tree old new h same empty all = rw (all, empty, same) (sym (ap faults_in h))

-- a text without a tree
pub of_no_tree : (text : List ℕ) (fault : TableFault) → document text ≡ Err fault → faults_of text ≡ fault ∷ []
of_no_tree text fault h = ap faults_in h

begins_by : (n : ℕ) (tree : Data) (read : Result Table TableFault) → 0 < n → fault_of tree ≡ fault_in read → BeginsWith read (faults n tree)
begins_by n tree (Ok accepted) some h = no_faults n tree h
begins_by n tree (Err fault) some h = (_, faults_more n tree fault some h)

begins_in : (d : Result Members TableFault) → BeginsWith (d >>= reading) (faults_in d)
begins_in (Err fault) = ([], refl)
begins_in (Ok ms) = begins_by MOST_FAULTS (table ms) (reading ms) (omega arith) refl

-- the faults of a text begin with the reader's
pub begins : (text : List ℕ) (all : List TableFault) → all ≡ faults_of text → BeginsWith (table_of text) all
unfolding table_of
begins text all same = rw same (begins_in (document text))

-- there are at most n of them
few_if : (n : ℕ) (b : Bool) (all : List TableFault) → length all ≤ n → length (if b then all else []) ≤ n
few_if n true all h = h
few_if n false all h = omega arith

few_after : (n : ℕ) (tree : Data) → length (faults n tree) ≤ n → length (faults_after (faults n) tree) ≤ n
few_after n tree h = few_if n (is_printable tree) (faults n tree) h

few_by : (n : ℕ) (tree : Data) (first : Option TableFault) → ((next : Data) → length (faults n next) ≤ n) → length (faults_by (faults n) tree first) ≤ suc n
few_by n tree None all = omega arith
few_by n tree (Some fault) all =
    let rest : length (faults_after (faults n) (mended fault tree)) ≤ n = few_after n (mended fault tree) (all (mended fault tree)) in
    omega arith

few_in_tree : (n : ℕ) (tree : Data) → length (faults n tree) ≤ n
few_in_tree zero tree = omega arith
few_in_tree (suc n) tree = few_by n tree (fault_of tree) (few_in_tree n)

few_in : (d : Result Members TableFault) → length (faults_in d) ≤ MOST_FAULTS
few_in (Err fault) = omega arith
few_in (Ok ms) = few_in_tree MOST_FAULTS (table ms)

pub few : (text : List ℕ) (all : List TableFault) → all ≡ faults_of text → length all ≤ MOST_FAULTS
few text all same = rw same (few_in (document text))
