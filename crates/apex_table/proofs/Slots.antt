-- What each word says still holds at the end: the later words of a row fill other fields.
use Rattle.std.proofs.lemmas.Bool.Decides.{nat_tests}
use Rattle.std.proofs.Common.{◌≡◌, ℕ, ◌+◌, ◌&&◌, ◌||◌, nat_le, if◌then◌else◌, arith, slice_index_or, Bool, true, false, List, [], ◌∷◌, length, Option, Some, None, Result, Ok, Err, refl, sym, ap, subst, ◌∙◌}
use Rattle.std.specs.Prelude.{not}
use Rattle.std.specs.List.{list_all, list_any, position_from}
use Rattle.std.specs.Str.{bytes_eq}
use Rattle.apex_types.specs.Name.{is_name}
use Rattle.apex_machine.specs.table.Table.{IsKnownName, IsLiteral, IsMessageOf}
use Rattle.apex_types.specs.Calls.{unknown}
use Rattle.apex_machine.specs.text.Texts.{bytes_text}
use Rattle.apex_calls.specs.Catalogue.{row_of}
use Rattle.apex_calls.specs.CallText.{mode_text, named_text}
use Rattle.apex_calls.specs.declared.catalogue.Service.TheVariants.{SetPartitionMode}
use Rattle.apex_calls.specs.declared.catalogue.Shape.TheVariants.{Entry, Named, Number, Timeout, Message, Mode}
use Rattle.apex_table.specs.Terms.{Kind, Message as MessageOf, Named as NameOf, Origin, Place, RequestedMode, Service, Shape, Subject, TableFault, Timeout as TimeoutOf}
use Rattle.apex_words.specs.declared.fault.TableFault.TheVariants.{BadName, BadStep}
use Rattle.apex_words.specs.Outcome.{◌>>=◌}
use Rattle.apex_table.specs.Keys.{well_formed}
use Rattle.apex_table.specs.Names.{Names, names_in}
use Rattle.apex_words.specs.Words.{is_empty}
use Rattle.apex_table.specs.Steps.{Given, of_word, has_form, have_forms, with_entry, with_number, with_timeout, with_mode, with_name, with_message, with_word, with_words}
use Rattle.apex_table.proofs.Spelling.{some_or_ok, made_ok, true-false, IsNumber, number_law, IsTimeoutOf, timeout_law, mode_law, message_law, IsPlaceOf, place_law, entry_law}

-- the two shapes fill the same field
abbrev pub clash : Shape → Shape → Bool
clash (Entry k) (Entry l) = true
clash (Named k) (Named l) = true
clash (Named k) Message = true
clash (Number a b) (Number c d) = true
clash Timeout Timeout = true
clash Message Message = true
clash Message (Named l) = true
clash Mode Mode = true
clash _ _ = false

-- no two of the shapes do
abbrev pub are_apart : List Shape → Bool
are_apart [] = true
are_apart (s ∷ ss) = not (list_any (clash s) ss) && are_apart ss

-- a number of 32 bits at the most
abbrev pub is_narrow : Shape → Bool
is_narrow (Number low high) = nat_le high 4294967295
is_narrow _ = true

pub apart_row : (s : Service) → are_apart (row_of s).shapes ≡ true
apart_row SetPartitionMode = refl
apart_row _ = refl

pub narrow_row : (s : Service) → list_all is_narrow (row_of s).shapes ≡ true
narrow_row SetPartitionMode = refl
narrow_row _ = refl

-- what a shape fills
abbrev pub Slot : Shape → Type 0
Slot (Entry k) = ℕ
Slot (Named k) = NameOf ℕ × List ℕ
Slot (Number low high) = ℕ
Slot Timeout = TimeoutOf
Slot Message = MessageOf × List ℕ
Slot Mode = RequestedMode

abbrev pub slot : (s : Shape) → Given → Slot s
slot (Entry k) g = g.arguments.entry
slot (Named k) g = (g.arguments.named, g.literal)
slot (Number low high) g = g.arguments.number
slot Timeout g = g.arguments.timeout
slot Message g = (g.arguments.message, g.literal)
slot Mode g = g.arguments.mode

entry_kept : (s : Shape) (k : Kind) → clash s (Entry k) ≡ false → (g : Given) (i : ℕ) → slot s (with_entry g i) ≡ slot s g
entry_kept (Entry l) k e g i = true-false e
entry_kept _ k e g i = refl

number_kept : (s : Shape) (low high : ℕ) → clash s (Number low high) ≡ false → (g : Given) (n : ℕ) → slot s (with_number g n) ≡ slot s g
number_kept (Number a b) low high e g n = true-false e
number_kept _ low high e g n = refl

timeout_kept : (s : Shape) → clash s Timeout ≡ false → (g : Given) (t : TimeoutOf) → slot s (with_timeout g t) ≡ slot s g
timeout_kept Timeout e g t = true-false e
timeout_kept _ e g t = refl

mode_kept : (s : Shape) → clash s Mode ≡ false → (g : Given) (m : RequestedMode) → slot s (with_mode g m) ≡ slot s g
mode_kept Mode e g m = true-false e
mode_kept _ e g m = refl

known_kept : (s : Shape) (k : Kind) → clash s (Named k) ≡ false → (g : Given) (origin : Origin) (name : List ℕ) (i : ℕ) → slot s (with_name g origin name (Some i)) ≡ slot s g
known_kept (Named l) k e g origin name i = true-false e
known_kept Message k e g origin name i = true-false e
known_kept _ k e g origin name i = refl

unknown_kept : (s : Shape) (k : Kind) → clash s (Named k) ≡ false → (g : Given) (origin : Origin) (name : List ℕ) → slot s (with_name g origin name None) ≡ slot s g
unknown_kept (Named l) k e g origin name = true-false e
unknown_kept Message k e g origin name = true-false e
unknown_kept _ k e g origin name = refl

name_kept : (s : Shape) (k : Kind) → clash s (Named k) ≡ false → (g : Given) (origin : Origin) (name : List ℕ) (o : Option ℕ) → slot s (with_name g origin name o) ≡ slot s g
name_kept s k e g origin name (Some i) = known_kept s k e g origin name i
name_kept s k e g origin name None = unknown_kept s k e g origin name

message_kept : (s : Shape) → clash s Message ≡ false → (g : Given) (origin : Origin) (bytes : List ℕ) → slot s (with_message g origin bytes) ≡ slot s g
message_kept (Named k) e g origin bytes = true-false e
message_kept Message e g origin bytes = true-false e
message_kept _ e g origin bytes = refl

abbrev pub fills_literal : Shape → Bool
fills_literal (Named k) = true
fills_literal Message = true
fills_literal _ = false

same_fill : (s : Shape) → fills_literal s ≡ true → (t : Shape) → clash s t ≡ fills_literal t
same_fill (Named k) fills (Named l) = refl
same_fill (Named k) fills _ = refl
same_fill Message fills (Named l) = refl
same_fill Message fills _ = refl
same_fill _ fills t = true-false (sym fills)

same_fills : (s : Shape) → fills_literal s ≡ true → (ss : List Shape) → list_any (clash s) ss ≡ list_any fills_literal ss
same_fills s fills [] = refl
same_fills s fills (t ∷ ss) = rw (same_fill s fills t, same_fills s fills ss) refl

then_ok : {A B : Type 0} (r : Result A TableFault) (f : A → Result B TableFault) (y : B) → (r >>= f) ≡ Ok y → (x : A) × (r ≡ Ok x) × (f x ≡ Ok y)
then_ok (Ok x) f y e = (x, refl, e)
then_ok (Err fault) f y e = absurd (cc e)

or_false : (a b : Bool) → (a || b) ≡ false → (a ≡ false) × (b ≡ false)
or_false true b e = absurd (cc e)
or_false false b e = (refl, e)

pub and_true : (a b : Bool) → (a && b) ≡ true → (a ≡ true) × (b ≡ true)
and_true true b e = (refl, e)
and_true false b e = absurd (cc e)

not_true : (b : Bool) → not b ≡ true → b ≡ false
not_true true e = absurd (cc e)
not_true false e = refl

-- the names of a kind, by place
abbrev pub name_at : Names → Kind → ℕ → List ℕ
name_at names k i = slice_index_or (names_in names k) i []

-- what a word of a shape says in the step of this origin, by the field that it fills
abbrev pub Says : Origin → Names → (s : Shape) → List ℕ → Slot s → Type 0
Says origin names (Entry k) w i = IsPlaceOf (names_in names k) w i
Says origin names (Named k) w filled =
    IsKnownName (length (names_in names k)) filled.0 × IsLiteral origin filled.1 (unknown filled.0) None
    × (named_text (name_at names k) (λ o. filled.1) filled.0 ≡ w)
Says origin names (Number low high) w n = IsNumber low high w n
Says origin names Timeout w t = IsTimeoutOf w t
Says origin names Message w filled = IsMessageOf origin filled.1 filled.0 × (bytes_text filled.1 ≡ w)
Says origin names Mode w m = mode_text m ≡ w

-- the words say this, each in its field
abbrev pub AllSay : Origin → Names → List Shape → List (List ℕ) → Given → Type 0
AllSay origin names [] [] given = Unit {0}
AllSay origin names [] (w ∷ ws) given = ⊥
AllSay origin names (s ∷ ss) [] given = ⊥
AllSay origin names (s ∷ ss) (w ∷ ws) given = Says origin names s w (slot s given) × AllSay origin names ss ws given

module _ (at : Place) (origin : Origin) (names : Names) where
  kept : (subject : Subject) (s t : Shape) (w : List ℕ) (g more : Given) → clash s t ≡ false → with_word subject origin names g t w ≡ Ok more → slot s more ≡ slot s g
  unfolding with_word
  kept subject s (Entry k) w g more apart e =
      let m = made_ok (with_entry g) _ more e in
      subst (λ (h : Given). slot s h ≡ slot s g) m.2 (entry_kept s k apart g m.0)
  kept subject s (Named k) w g more apart e =
      let m = made_ok (λ name. with_name g origin name (position_from (bytes_eq name) 0 (names_in names k))) _ more e in
      subst (λ (h : Given). slot s h ≡ slot s g) m.2 (name_kept s k apart g origin m.0 _)
  kept subject s (Number low high) w g more apart e =
      let m = made_ok (with_number g) _ more e in
      subst (λ (h : Given). slot s h ≡ slot s g) m.2 (number_kept s low high apart g m.0)
  kept subject s Timeout w g more apart e =
      let m = made_ok (with_timeout g) _ more e in
      subst (λ (h : Given). slot s h ≡ slot s g) m.2 (timeout_kept s apart g m.0)
  kept subject s Message w g more apart e =
      let m = made_ok (with_message g origin) _ more e in
      subst (λ (h : Given). slot s h ≡ slot s g) m.2 (message_kept s apart g origin m.0)
  kept subject s Mode w g more apart e =
      let m = made_ok (with_mode g) _ more e in
      subst (λ (h : Given). slot s h ≡ slot s g) m.2 (mode_kept s apart g m.0)

  all_kept : (n : ℕ) (s : Shape) (ss : List Shape) (ws : List (List ℕ)) (g done : Given) → list_any (clash s) ss ≡ false → with_words at n origin names g ss ws ≡ Ok done → slot s done ≡ slot s g
  all_kept n s [] ws g done apart e = ap (slot s) (sym (cc e))
  all_kept n s (t ∷ ss) [] g done apart e = ap (slot s) (sym (cc e))
  all_kept n s (t ∷ ss) (w ∷ ws) g done apart e =
      let m = then_ok (with_word (of_word at origin n) origin names g t w) _ done e in
      let a = or_false (clash s t) (list_any (clash s) ss) apart in
      all_kept (n + 1) s ss ws m.0 done a.1 m.2 ∙ kept (of_word at origin n) s t w g m.0 a.0 m.1

  name_of_word : (subject : Subject) (w : List ℕ) (name : List ℕ) (b : Bool) → (if b then Ok w else Err (BadName subject)) ≡ Ok name → (w ≡ name) × (b ≡ true)
  name_of_word subject w name true e = (cc e, refl)
  name_of_word subject w name false e = absurd (cc e)

  name_said : (k : Kind) (w : List ℕ) (g : Given) (o : Option ℕ) → position_from (bytes_eq w) 0 (names_in names k) ≡ o → (literal : g.literal ≡ []) → is_name w ≡ true → Says origin names (Named k) w (slot (Named k) (with_name g origin w o))
  name_said k w g (Some i) found bare good =
      let p = place_law w (names_in names k) i found in
      (p.below, bare, p.text)
  name_said k w g None found bare good = (tt, (refl, good), refl)

  said : (subject : Subject) (s : Shape) (w : List ℕ) (g more : Given) → (fills_literal s ≡ true → g.literal ≡ []) → is_narrow s ≡ true → has_form s w ≡ true → with_word subject origin names g s w ≡ Ok more → Says origin names s w (slot s more)
  unfolding with_word
  said subject (Entry k) w g more bare narrow form e =
      let m = made_ok (with_entry g) _ more e in
      subst (λ (h : Given). Says origin names (Entry k) w (slot (Entry k) h)) m.2 (entry_law subject (names_in names k) w m.0 m.1)
  said subject (Named k) w g more bare narrow form e =
      let m = made_ok (λ name. with_name g origin name (position_from (bytes_eq name) 0 (names_in names k))) (well_formed subject w) more e in
      let n = name_of_word subject w m.0 (is_name w) m.1 in
      let same : with_name g origin w (position_from (bytes_eq w) 0 (names_in names k)) ≡ more =
      subst (λ name. with_name g origin name (position_from (bytes_eq name) 0 (names_in names k)) ≡ more) (sym n.0) m.2 in
      subst (λ (h : Given). Says origin names (Named k) w (slot (Named k) h)) same (name_said k w g _ refl (bare refl) n.1)
  said subject (Number low high) w g more bare narrow form e =
      let m = made_ok (with_number g) _ more e in
      subst (λ (h : Given). Says origin names (Number low high) w (slot (Number low high) h)) m.2 (number_law subject low high (grind (arith, nat_tests, narrow)) w m.0 m.1)
  said subject Timeout w g more bare narrow form e =
      let m = made_ok (with_timeout g) _ more e in
      subst (λ (h : Given). Says origin names Timeout w (slot Timeout h)) m.2 (timeout_law subject w m.0 m.1)
  said subject Message w g more bare narrow form e =
      let m = made_ok (with_message g origin) _ more e in
      let b = message_law subject w m.0 m.1 (not_true (is_empty w) (and_true (not (is_empty w)) _ form).0) in
      subst (λ (h : Given). Says origin names Message w (slot Message h)) m.2 (record { given = refl; many = refl; few = b.few }, b.text)
  said subject Mode w g more bare narrow form e =
      let m = made_ok (with_mode g) _ more e in
      subst (λ (h : Given). Says origin names Mode w (slot Mode h)) m.2 (mode_law w m.0 (some_or_ok (BadStep subject) _ m.0 m.1))

  -- a shape that fills no literal leaves it
  literal_kept : (subject : Subject) (s : Shape) (w : List ℕ) (g more : Given) → fills_literal s ≡ false → with_word subject origin names g s w ≡ Ok more → more.literal ≡ g.literal
  unfolding with_word
  literal_kept subject (Entry k) w g more fills e = ap (λ (h : Given). h.literal) (sym (made_ok (with_entry g) _ more e).2)
  literal_kept subject (Named k) w g more fills e = true-false fills
  literal_kept subject (Number low high) w g more fills e = ap (λ (h : Given). h.literal) (sym (made_ok (with_number g) _ more e).2)
  literal_kept subject Timeout w g more fills e = ap (λ (h : Given). h.literal) (sym (made_ok (with_timeout g) _ more e).2)
  literal_kept subject Message w g more fills e = true-false fills
  literal_kept subject Mode w g more fills e = ap (λ (h : Given). h.literal) (sym (made_ok (with_mode g) _ more e).2)

  -- no word fills the literal
  pub bare_literal : (n : ℕ) (ss : List Shape) (ws : List (List ℕ)) (g done : Given) → list_any fills_literal ss ≡ false → with_words at n origin names g ss ws ≡ Ok done → done.literal ≡ g.literal
  bare_literal n [] ws g done bare e =
      let same : g ≡ done = cc e in
      ap (λ (h : Given). h.literal) (sym same)
  bare_literal n (s ∷ ss) [] g done bare e =
      let same : g ≡ done = cc e in
      ap (λ (h : Given). h.literal) (sym same)
  bare_literal n (s ∷ ss) (w ∷ ws) g done bare e =
      let m = then_ok (with_word (of_word at origin n) origin names g s w) _ done e in
      let a = or_false (fills_literal s) (list_any fills_literal ss) bare in
      bare_literal (n + 1) ss ws m.0 done a.1 m.2 ∙ literal_kept (of_word at origin n) s w g m.0 a.0 m.1

  -- the words after one that fills the literal do not
  free_after : (subject : Subject) (s : Shape) (ss : List Shape) (w : List ℕ) (g more : Given) (b : Bool) → fills_literal s ≡ b → list_any (clash s) ss ≡ false → (list_any fills_literal (s ∷ ss) ≡ true → g.literal ≡ []) → with_word subject origin names g s w ≡ Ok more → list_any fills_literal ss ≡ true → more.literal ≡ []
  free_after subject s ss w g more true fills apart free e some = true-false (sym some ∙ sym (same_fills s fills ss) ∙ apart)
  free_after subject s ss w g more false fills apart free e some = literal_kept subject s w g more fills e ∙ free (rw (fills) some)

  -- what each of the words of a row says
  pub all_said : (n : ℕ) (ss : List Shape) (ws : List (List ℕ)) (g done : Given) → are_apart ss ≡ true → list_all is_narrow ss ≡ true → (list_any fills_literal ss ≡ true → g.literal ≡ []) → have_forms ss ws ≡ true → with_words at n origin names g ss ws ≡ Ok done → AllSay origin names ss ws done
  all_said n [] [] g done apart narrow free forms e = tt
  all_said n [] (w ∷ ws) g done apart narrow free forms e = absurd (cc forms)
  all_said n (s ∷ ss) [] g done apart narrow free forms e = absurd (cc forms)
  all_said n (s ∷ ss) (w ∷ ws) g done apart narrow free forms e =
      let m = then_ok (with_word (of_word at origin n) origin names g s w) _ done e in
      let a = and_true (not (list_any (clash s) ss)) (are_apart ss) apart in
      let thin = and_true (is_narrow s) (list_all is_narrow ss) narrow in
      let f = and_true (has_form s w) (have_forms ss ws) forms in
      let clear : list_any (clash s) ss ≡ false = not_true _ a.0 in
      let here : Says origin names s w (slot s m.0) = said (of_word at origin n) s w g m.0 (λ fills. free (rw (fills) refl)) thin.0 f.0 m.1 in (
        subst (Says origin names s w) (sym (all_kept (n + 1) s ss ws m.0 done clear m.2)) here,
        all_said (n + 1) ss ws m.0 done a.1 thin.1 (free_after (of_word at origin n) s ss w g m.0 (fills_literal s) refl clear free m.1) f.1 m.2,
      )
