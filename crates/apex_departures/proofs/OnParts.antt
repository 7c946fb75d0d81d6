-- The text of a line, and of the parts behind it.
use Rattle.std.proofs.Common.{◌≡◌, ◌∙◌, ℕ, suc, ◌+◌, ◌<◌, Bool, true, false, List, [], ◌∷◌, ◌++◌, Some, refl, arith, ap, sym, length, append_assoc}
use Rattle.std.specs.Prelude.{◌==◌, if◌then◌else◌, slice_index_or}
use Rattle.std.specs.Str.{bytes_eq}
use Rattle.std.proofs.lemmas.List.Splits.{length-slice_split}
use Rattle.apex_check.specs.Texts.{separator}
use Rattle.apex_incoming.specs.Lines.{ended}
use Rattle.apex_departures.specs.Lines.{behind_separator, history_text, kept_text, line_parts, more_behind, part_given, place_given, place_on, text_without}

-- a text has a part
some_part : (text : List ℕ) → 0 < length (line_parts text)
some_part text = omega (arith, length-slice_split (λ byte. byte == 10) text)

module _ (comments : Bool) (line : List ℕ) where
  history_more : (others : List (List ℕ)) → 0 < length others
      → history_text comments (line ∷ others) ≡ kept_text comments line ++ history_text comments others
  history_more [] some = absurd (omega (arith, some))
  history_more (next ∷ others) some = refl

  text_more : (others : List (List ℕ)) → 0 < length others
      → text_without comments (line ∷ others)
      ≡ ended line ++ (if bytes_eq line separator then history_text comments others else text_without comments others)
  text_more [] some = absurd (omega (arith, some))
  text_more (next ∷ others) some = refl

  place_more : (n : ℕ) (others : List (List ℕ)) → 0 < length others
      → place_given comments (line ∷ others) n ≡ place_on (place_given comments others) (more_behind comments line n)
  place_more n [] some = absurd (omega (arith, some))
  place_more n (next ∷ others) some = refl

behind_more : (line : List ℕ) (others : List (List ℕ)) → 0 < length others
    → behind_separator (line ∷ others) ≡ (if bytes_eq line separator then others else behind_separator others)
behind_more line [] some = absurd (omega (arith, some))
behind_more line (next ∷ others) some = refl

-- a text that begins with this line, which the rest follows
module _ (comments : Bool) (left line rest : List ℕ) (parted : line_parts left ≡ line ∷ line_parts rest) where
  -- the line was put
  module _ (old new : List ℕ) where
    pub history_step : new ≡ old ++ kept_text comments line
        → new ++ history_text comments (line_parts rest) ≡ old ++ history_text comments (line_parts left)
    history_step put =
        ap (λ l. l ++ history_text comments (line_parts rest)) put
        ∙ append_assoc old (kept_text comments line) (history_text comments (line_parts rest))
        ∙ ap (λ l. old ++ l) (sym (history_more comments line (line_parts rest) (some_part rest)))
        ∙ ap (λ ps. old ++ history_text comments ps) (sym parted)

    text_step : (is : Bool) → bytes_eq line separator ≡ is → new ≡ old ++ ended line
        → old ++ text_without comments (line_parts left)
        ≡ new ++ (if is then history_text comments (line_parts rest) else text_without comments (line_parts rest))
    text_step is found put =
        let behind = if is then history_text comments (line_parts rest) else text_without comments (line_parts rest) in
        ap (λ ps. old ++ text_without comments ps) parted
        ∙ ap (λ l. old ++ l) (text_more comments line (line_parts rest) (some_part rest))
        ∙ ap (λ b. old ++ (ended line ++ (if b then history_text comments (line_parts rest) else text_without comments (line_parts rest)))) found
        ∙ sym (append_assoc old (ended line) behind)
        ∙ ap (λ l. l ++ behind) (sym put)

    pub text_found : bytes_eq line separator ≡ true → new ≡ old ++ ended line
        → old ++ text_without comments (line_parts left) ≡ new ++ history_text comments (line_parts rest)
    text_found found put = text_step true found put

    pub text_passed : bytes_eq line separator ≡ false → new ≡ old ++ ended line
        → old ++ text_without comments (line_parts left) ≡ new ++ text_without comments (line_parts rest)
    text_passed found put = text_step false found put

  -- a line was passed
  module _ (n fewer : ℕ) (less : more_behind comments line n ≡ Some fewer) where
    placed : place_given comments (line_parts left) n ≡ suc (place_given comments (line_parts rest) fewer)
    placed =
        ap (λ ps. place_given comments ps n) parted ∙ place_more comments line n (line_parts rest) (some_part rest)
        ∙ ap (place_on (place_given comments (line_parts rest))) less

    pub place_step : place_given comments (line_parts left) n ≡ place_given comments (line_parts rest) fewer + 1
    place_step = omega (arith, placed)

    pub part_step : part_given comments (line_parts left) n ≡ part_given comments (line_parts rest) fewer
    part_step =
        ap (λ k. slice_index_or (line_parts left) k []) placed
        ∙ ap (λ ps. slice_index_or ps (suc (place_given comments (line_parts rest) fewer)) []) parted

-- the same without comments
module _ (left line rest : List ℕ) (parted : line_parts left ≡ line ∷ line_parts rest) where
  behind_step : (is : Bool) → bytes_eq line separator ≡ is
      → behind_separator (line_parts left) ≡ (if is then line_parts rest else behind_separator (line_parts rest))
  behind_step is found =
      ap behind_separator parted ∙ behind_more line (line_parts rest) (some_part rest)
      ∙ ap (λ b. if b then line_parts rest else behind_separator (line_parts rest)) found

  pub behind_found : bytes_eq line separator ≡ true → behind_separator (line_parts left) ≡ line_parts rest
  behind_found found = behind_step true found

  pub behind_passed : bytes_eq line separator ≡ false → behind_separator (line_parts left) ≡ behind_separator (line_parts rest)
  behind_passed found = behind_step false found
