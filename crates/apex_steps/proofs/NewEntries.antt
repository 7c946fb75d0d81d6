-- The entries of a history from a place on.
use Rattle.std.proofs.Common.{◌≡◌, ◌∙◌, ℕ, zero, suc, ◌+◌, ◌-◌, ◌≤◌, ap, arith, refl, subst, sym, Some, List, [], ◌∷◌, ◌++◌, append-nil, length, take, drop, add-one, length-drop, Option, take-append-drop}
use Rattle.std.specs.Prelude.{flat_map, slice_get}
use Rattle.std.proofs.lemmas.Grind.{flat_map-append}
use Rattle.std.proofs.lemmas.List.{get_or-drop}
use Rattle.std.proofs.lemmas.Option.{get_or_from_slice_get, slice_get_read, slice_get_within}
use Rattle.apex_history.specs.Counted.{AppendsBeginning}
use Rattle.apex_history.specs.Page.{Passes}
use Rattle.apex_history.proofs.Passing.{beginning_after, beginning_longer, passes_then, passes_with}
use Rattle.apex_steps.specs.Terms.{Entry}

take_push : (entries : List Entry) (n : ℕ) (entry : Entry) → slice_get entries n ≡ Some entry
    → take (n + 1) entries ≡ take n entries ++ entry ∷ []
take_push [] n entry found = cc
take_push (first ∷ rest) zero entry found =
    let same : first ≡ entry = cc in
    ap (λ (e : Entry). e ∷ []) same
take_push (first ∷ rest) (suc n) entry found =
    let more : take (suc n) rest ≡ take n rest ++ entry ∷ [] = rw (add-one n) at (take_push rest n entry found) in
    rw (add-one (suc n)) (ap (λ (l : List Entry). first ∷ l) more)

found_behind : (entries : List Entry) (from n : ℕ) (entry : Entry) → slice_get entries (from + n) ≡ Some entry
    → slice_get (drop from entries) n ≡ Some entry
found_behind entries from n entry found =
    let within = slice_get_within entries (from + n) entry found in
    let there = get_or-drop from entries n entry ∙ get_or_from_slice_get entries (from + n) entry entry found in
    slice_get_read (drop from entries) (length (drop from entries)) n entry refl (omega (arith, within, length-drop from entries)) (sym there)

-- one entry more
behind_more : (entries : List Entry) (from place : ℕ) (entry : Entry) → from ≤ place → slice_get entries place ≡ Some entry
    → take (place + 1 - from) (drop from entries) ≡ take (place - from) (drop from entries) ++ entry ∷ []
behind_more entries from place entry after found =
    let here : from + (place - from) ≡ place = omega (arith, after) in
    let next : place + 1 - from ≡ (place - from) + 1 = omega (arith, after) in
    let there : slice_get entries (from + (place - from)) ≡ Some entry = rw here found in
    rw next (take_push (drop from entries) (place - from) entry (found_behind entries from (place - from) entry there))

-- the text of one entry more
text_more : (text : Entry → List ℕ) (entries : List Entry) (entry : Entry)
    → flat_map text (entries ++ entry ∷ []) ≡ flat_map text entries ++ text entry
text_more text entries entry =
    flat_map-append text entries (entry ∷ []) ∙ ap (λ l. flat_map text entries ++ l) (append-nil (text entry))

-- the text of one entry more was put behind those before it
module _ (text : Entry → List ℕ) (history : List Entry) (from place : ℕ) (entry : Entry) (a b c : Option (List ℕ)) (old new : List ℕ)
    (after : from ≤ place) (found : slice_get history place ≡ Some entry)
    (passes : Passes a b (flat_map text (take (place - from) (drop from history))) old)
    (put : new ≡ old ++ text entry) where
  passes_more : Passes a b (flat_map text (take (place + 1 - from) (drop from history))) new
  passes_more =
      let before = take (place - from) (drop from history) in
      rw (behind_more history from place entry after found, text_more text before entry, put)
      (passes_with a b (flat_map text before) old (text entry) passes)

  -- a part of the text was written
  pub put_more : (held : List ℕ) → Passes b c new held → Passes a c (flat_map text (take (place + 1 - from) (drop from history))) held
  put_more held more = passes_then a b c _ new held passes_more more

  -- a write failed
  pub put_begun : AppendsBeginning b c new → AppendsBeginning a c (flat_map text (drop from history))
  put_begun begun =
      let n = place + 1 - from in
      let entries = drop from history in
      let split : flat_map text (take n entries) ++ flat_map text (drop n entries) ≡ flat_map text entries =
      sym (flat_map-append text (take n entries) (drop n entries)) ∙ ap (flat_map text) (take-append-drop n entries) in
      subst (AppendsBeginning a c) split
      (beginning_longer a c (flat_map text (take n entries)) (flat_map text (drop n entries))
      (beginning_after a b c (flat_map text (take n entries)) new passes_more begun))
