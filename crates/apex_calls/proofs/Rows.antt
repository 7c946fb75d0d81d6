-- Each row is that of its service.
use Rattle.std.proofs.Common.{ℕ, List, [], ◌∷◌, map, Bool, true, false, cond, Option, Some, None, IfSome, option_map, refl}
use Rattle.std.specs.List.{AllByRecursion}
use Rattle.std.specs.Str.{bytes_eq}
use Rattle.apex_calls.specs.Terms.{Service}
use Rattle.apex_calls.specs.Catalogue.{Row, all_services, rows, row_in, row_of, IsRow}
use Rattle.apex_calls.specs.declared.catalogue.Service.TheVariants.{SetPartitionMode}

pub own_row : (s : Service) → IsRow (row_of s)
own_row SetPartitionMode = record { own = refl }
own_row _ = record { own = refl }

own_rows : (ss : List Service) → AllByRecursion IsRow (map row_of ss)
own_rows [] = tt
own_rows (s ∷ ss) = (own_row s, own_rows ss)

all_rows : AllByRecursion IsRow rows
all_rows = own_rows all_services

found : (P : Row → Type 0) (b : Bool) (r : Row) (rest : Option Row) → P r → IfSome rest P → IfSome (cond b (Some r) rest) P
found P true r rest here there = here
found P false r rest here there = there

-- the row that is found is such a row
pub row_in_law : (P : Row → Type 0) (rs : List Row) → AllByRecursion P rs → (word : List ℕ) → IfSome (row_in rs word) P
row_in_law P [] all word = tt
row_in_law P (r ∷ rs) all word = found P (bytes_eq r.word word) r (row_in rs word) all.0 (row_in_law P rs all.1 word)

pub row_of_word_law : (word : List ℕ) → IfSome (row_in rows word) IsRow
row_of_word_law word = row_in_law IsRow rows all_rows word

-- a fact about the view of the one that is found
pub of_viewed : {X : Type 0} (view : X → Row) (o : Option X) (P : Row → Type 0) → IfSome (option_map view o) P → IfSome o (λ x. P (view x))
of_viewed view None P h = tt
of_viewed view (Some x) P h = h
