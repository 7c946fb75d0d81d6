-- Lists that are written place by place.
use Rattle.std.proofs.Common.{◌≡◌, ℕ, ◌+◌, ◌*◌, ◌<◌, ◌≤◌, replicate, inl, inr, List, [], ◌∷◌, ◌++◌, length, get_or, set, take, drop, ap, sym, ◌∙◌, refl, arith, append_assoc, zero, suc, add-one, cond, nat_lt, nat_eq}
use Rattle.apex_machine.specs.processes.Roster.{Roster, with_record}
use Rattle.apex_machine.specs.services.ProcessServices.{ProcessObject}
use Rattle.apex_machine.specs.table.Table.{ProcessConfig, Table, no_process, process_config}
use Rattle.apex_recall.specs.Objects.{process_from}
use Rattle.apex_recall.specs.Records.{is_created_in, record_from}
use Rattle.apex_recall.specs.Restored.{part, processes_in, records_from}
use Rattle.apex_recall.specs.Terms.{Record}
use Rattle.apex_forms.specs.declared.records.TheConstants.{RECORD_WORDS}
use Rattle.std.proofs.lemmas.Nat.{mul-le}
use Rattle.std.proofs.lemmas.Bool.{cases_eq}
use Rattle.std.proofs.lemmas.Grind.{get_or-set_at}
use Rattle.std.proofs.lemmas.List.{get_or-set_other, append-nil, drop_all, drop_more, get_or_at, length-append, length-drop, length-take-le, length_push, set_at, take_all}
use Rattle.std.proofs.lemmas.Bool.Decides.{nat_tests}
use Rattle.apex_types.specs.Places.{map_places}
use Rattle.apex_types.proofs.Places.{length-map_places}

-- the next place is written
pub next_set : {X : Type 0} (before ys : List X) (i : ℕ) (y : X) → length before ≡ i → i < length ys
    → set (before ++ drop i ys) i y ≡ (before ++ y ∷ []) ++ drop (i + 1) ys
next_set before ys i y many within =
    ap (λ rest. set (before ++ rest) i y) (drop_more ys i y within)
    ∙ set_at before (get_or ys i y) (drop (i + 1) ys) y i many
    ∙ sym (append_assoc before (y ∷ []) (drop (i + 1) ys))

-- the next place is still as it was
pub next_at : {X : Type 0} (before ys : List X) (i : ℕ) (d : X) → length before ≡ i → i < length ys
    → get_or (before ++ drop i ys) i d ≡ get_or ys i d
next_at before ys i d many within =
    ap (λ rest. get_or (before ++ rest) i d) (drop_more ys i d within)
    ∙ get_or_at before (get_or ys i d) (drop (i + 1) ys) d i many

-- the values of one element more, if the first one is at place p
more_from : {A B : Type 0} (f : ℕ → A → B) (p : ℕ) (xs : List A) (i : ℕ) (d : A) → i < length xs
    → map_places f p (take (suc i) xs) ≡ map_places f p (take i xs) ++ f (p + i) (get_or xs i d) ∷ []
more_from f p [] i d within = absurd (omega arith)
more_from f p (x ∷ xs) zero d within = let z : p + 0 ≡ p = omega arith in rw z refl
more_from f p (x ∷ xs) (suc i) d within =
    let e : p + suc i ≡ p + 1 + i = omega arith in
    rw e (ap (λ rest. f p x ∷ rest) (more_from f (p + 1) xs i d (omega arith)))

pub values_more : {A B : Type 0} (f : ℕ → A → B) (xs : List A) (i : ℕ) (d : A) → i < length xs
    → map_places f 0 (take (i + 1) xs) ≡ map_places f 0 (take i xs) ++ f i (get_or xs i d) ∷ []
values_more f xs i d within =
    let z : 0 + i ≡ i = omega arith in
    rw (add-one i) (more_from f 0 xs i d within ∙ ap (λ k. map_places f 0 (take i xs) ++ f k (get_or xs i d) ∷ []) z)

-- how many values there are
pub length-values : {A B : Type 0} (f : ℕ → A → B) (xs : List A) (i : ℕ) → i ≤ length xs
    → length (map_places f 0 (take i xs)) ≡ i
length-values f xs i within =
    length-map_places f 0 (take i xs) ∙ length-take-le i xs within

-- the value of the next element is written at its place
pub value_set : {A B : Type 0} (f : ℕ → A → B) (xs : List A) (ys : List B) (i : ℕ) (d : A) (y : B)
    → i < length xs → i < length ys → y ≡ f i (get_or xs i d)
    → set (map_places f 0 (take i xs) ++ drop i ys) i y
    ≡ map_places f 0 (take (i + 1) xs) ++ drop (i + 1) ys
value_set f xs ys i d y in_xs in_ys is =
    next_set (map_places f 0 (take i xs)) ys i y (length-values f xs i (omega arith)) in_ys
    ∙ ap (λ v. (map_places f 0 (take i xs) ++ v ∷ []) ++ drop (i + 1) ys) is
    ∙ ap (λ values. values ++ drop (i + 1) ys) (sym (values_more f xs i d in_xs))

-- all of them are written
pub values_all : {A B : Type 0} (f : ℕ → A → B) (xs : List A) (ys : List B) (i : ℕ)
    → length xs ≤ i → length ys ≤ i
    → map_places f 0 (take i xs) ++ drop i ys ≡ map_places f 0 xs
values_all f xs ys i no_more none_left =
    ap (λ rest. map_places f 0 (take i xs) ++ rest) (drop_all i ys none_left)
    ∙ append-nil (map_places f 0 (take i xs)) ∙ ap (map_places f 0) (take_all i xs no_more)

-- as many as before
pub length-written : {A B : Type 0} (f : ℕ → A → B) (xs : List A) (ys : List B) (i : ℕ)
    → i ≤ length xs → length xs ≡ length ys
    → length (map_places f 0 (take i xs) ++ drop i ys) ≡ length ys
length-written f xs ys i within same =
    let first = length-values f xs i within in
    let rest = length-drop i ys in
    length-append (map_places f 0 (take i xs)) (drop i ys) ∙ omega arith

-- a function that has its values below n, with its value at n
pub below_next : {X : Type 0} (old new f : ℕ → X) (d : X) (n m : ℕ) (v : X) → m ≡ n → v ≡ f n
    → ((k : ℕ) → old k ≡ cond (nat_lt k n) (f k) d)
    → ((k : ℕ) → new k ≡ cond (nat_eq k m) v (old k))
    → (k : ℕ) → new k ≡ cond (nat_lt k (n + 1)) (f k) d
below_next old new f d n m v is_m is_v before now k =
    let e = before k in let here = now k in grind (arith, nat_tests)

-- what is read after a value is written
pub set_is : {X : Type 0} (xs : List X) (n : ℕ) (y d : X) → n < length xs
    → (k : ℕ) → get_or (set xs n y) k d ≡ cond (nat_eq k n) y (get_or xs k d)
set_is xs n y d within k =
    elim (cases_eq k n) as (λ _. get_or (set xs n y) k d ≡ cond (nat_eq k n) y (get_or xs k d)) [
      | inl same ↦ let e = get_or-set_at xs n k y d same within in grind (arith, nat_tests)
      | inr differs ↦ let e = get_or-set_other xs n k y d differs in grind (arith, nat_tests)
    ]

-- what is read of a list of one value
pub filled_at : {X : Type 0} (n k : ℕ) (d : X) → get_or (replicate n d) k d ≡ d
filled_at zero k d = refl
filled_at (suc n) zero d = refl
filled_at (suc n) (suc k) d = filled_at n k d

-- each of these things as its words say
abbrev pub as_stored : {X : Type 0} → (X → List ℕ → X) → List ℕ → ℕ → ℕ → ℕ → X → X
as_stored restored words from many k p = restored p (part words from k many)

-- one thing more is restored
pub restored_more : {X : Type 0} (restored : X → List ℕ → X) (words : List ℕ) (from many : ℕ)
    (old now : List X) (i used : ℕ) (d y : X) (here : List ℕ) → i < length old
    → now ≡ map_places (λ k p. restored p (part words from k many)) 0 (take i old) ++ drop i old
    → used ≡ many → here ≡ part words from i used → y ≡ restored (get_or now i d) here
    → set now i y ≡ map_places (λ k p. restored p (part words from k many)) 0 (take (i + 1) old)
    ++ drop (i + 1) old
restored_more restored words from many old now i used d y here within is_now is_used is_here is_y =
    ap (λ l. set l i y) is_now
    ∙ value_set (as_stored restored words from many) old old i d y within within
    (is_y ∙ ap (λ l. restored (get_or l i d) here) is_now
    ∙ ap (λ p. restored p here) (next_at
    (map_places (as_stored restored words from many) 0 (take i old)) old i d
    (length-values (as_stored restored words from many) old i (omega arith)) within)
    ∙ ap (restored (get_or old i d)) (is_here ∙ ap (part words from i) is_used))

-- the words of a part lie within those of all of them
pub part_fits : (from place many count total used : ℕ) → place < count → used ≡ many
    → from + count * many ≤ total → from + (place + 1) * used ≤ total
part_fits from place many count total used known is_used fits =
    rw is_used (omega (arith, mul-le (place + 1) many count many (omega arith) (omega arith)))

-- how many there are
pub length-processes : (n : ℕ) (words : List ℕ) (from : ℕ) → length (processes_in n words from) ≡ n
length-processes zero words from = refl
length-processes (suc n) words from =
    let rest = length-processes n words from in
    length_push (processes_in n words from)
    (process_from (is_created_in (part words from n RECORD_WORDS))) ∙ omega arith

-- the next process is as its words say
pub process_next : (words : List ℕ) (from i : ℕ) (old now : List ProcessObject) (y : ProcessObject)
    → i < length old → now ≡ processes_in i words from ++ drop i old
    → y ≡ process_from (is_created_in (part words from i RECORD_WORDS))
    → set now i y ≡ processes_in (i + 1) words from ++ drop (i + 1) old
process_next words from i old now y within is_now is_y =
    let first = processes_in i words from in
    ap (λ l. set l i y) is_now ∙ next_set first old i y (length-processes i words from) within
    ∙ ap (λ o. (first ++ o ∷ []) ++ drop (i + 1) old) is_y
    ∙ ap (λ l. l ++ drop (i + 1) old) (rw (add-one i))

-- the record of an entry's process
abbrev pub entry_record : Table → List ℕ → ℕ → ProcessConfig → Record
entry_record table words p entry =
    record_from entry.attributes (part words (records_from table) p RECORD_WORDS)

-- the next process has the record of its words
pub record_next : (table : Table) (words : List ℕ) (old now new : Roster) (i p : ℕ) (r : Record)
    → i < length table.processes → i < length old.records
    → now ≡ record old {
      records = map_places (entry_record table words) 0 (take i table.processes)
          ++ drop i old.records;
    }
    → new ≡ with_record now p r → p ≡ i → r ≡ entry_record table words i (process_config table i)
    → new ≡ record old {
      records = map_places (entry_record table words) 0 (take (i + 1) table.processes)
          ++ drop (i + 1) old.records;
    }
record_next table words old now new i p r in_table in_old is_now is_new is_p is_r =
    is_new ∙ ap (λ (n : Roster). with_record n p r) is_now
    ∙ ap (λ (k : ℕ). with_record (record old {
      records = map_places (entry_record table words) 0 (take i table.processes)
          ++ drop i old.records;
    }) k r) is_p
    ∙ ap (λ (l : List Record). record old { records = l })
    (value_set (entry_record table words) table.processes old.records i no_process r in_table in_old
    is_r)
