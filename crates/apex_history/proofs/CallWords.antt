-- The words of a call that are put, one behind the other, are its text.
use Rattle.std.proofs.Common.{◌≡◌, ℕ, List, [], ◌∷◌, ◌++◌, map, sym, ap, subst, ◌∙◌, append_assoc, append-nil}
use Rattle.std.specs.Prelude.{flat_map}
use Rattle.std.specs.List.{All, AllByRecursion}
use Rattle.std.proofs.lemmas.List.Elements.{All-from_recursion}
use Rattle.apex_machine.specs.table.Table.{Table, IsKnown, literal_text}
use Rattle.apex_calls.specs.Catalogue.{Row, row_of}
use Rattle.apex_calls.specs.Parts.{parts_of}
use Rattle.apex_calls.specs.CallText.{IsKnownWord, call_text, name_of, row_words, spaced, word_text}
use Rattle.apex_calls.proofs.Known.{known_words}
use Rattle.apex_history.specs.Terms.{Arguments, Call, Service, Shape}

-- a word and further ones, each with a space before it
spaced_behind : {S : Type 0} (text : S → List ℕ) (word : List ℕ) (ss : List S) → word ++ flat_map (λ s. 32 ∷ text s) ss ≡ spaced (word ∷ map text ss)
spaced_behind text word [] = append-nil word
spaced_behind text word (s ∷ ss) = ap (λ rest. word ++ 32 ∷ rest) (spaced_behind text (text s) ss)

-- the parts of a call, and the row of its service
module _ (table : Table) (call : Call) (parts : Service × Arguments) (row : Row) (of_call : parts ≡ parts_of call) (of_service : row ≡ row_of parts.0) where
  pub words_known : IsKnown table call → All (IsKnownWord table parts.1) row.shapes
  words_known known =
      All-from_recursion (IsKnownWord table parts.1) row.shapes
      (subst (λ (r : Row). AllByRecursion (IsKnownWord table parts.1) r.shapes) (sym of_service)
      (subst (λ (p : Service × Arguments). AllByRecursion (IsKnownWord table p.1) (row_of p.0).shapes) (sym of_call) (known_words table call known)))

  -- the text of an argument
  abbrev argument_text : Shape → List ℕ
  argument_text s = word_text (name_of table) (literal_text table) parts.1 s

  pub words_put : (before word whole : List ℕ) → word ≡ before ++ row.word
      → whole ≡ word ++ flat_map (λ s. 32 ∷ argument_text s) row.shapes → whole ≡ before ++ call_text table call
  words_put before word whole first others =
      others
      ∙ ap (λ text. text ++ flat_map (λ s. 32 ∷ argument_text s) row.shapes) first
      ∙ append_assoc before row.word _
      ∙ ap (λ rest. before ++ rest) (spaced_behind argument_text row.word row.shapes
      ∙ ap (λ (r : Row). spaced (row_words (name_of table) (literal_text table) r parts.1)) of_service
      ∙ ap (λ (p : Service × Arguments). spaced (row_words (name_of table) (literal_text table) (row_of p.0) p.1)) of_call)
