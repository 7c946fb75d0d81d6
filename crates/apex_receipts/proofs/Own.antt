-- The entries of one core or of the ticker.
use Rattle.std.proofs.Common.{◌≡◌, ℕ, ◌+◌, ◌≤◌, Bool, true, false, List, [], ◌∷◌, ◌++◌, length, refl, ap, sym, ◌∙◌, arith, length-append, append_assoc}
use Rattle.std.proofs.lemmas.List.{append-nil}
use Rattle.std.proofs.lemmas.List.Elements.{filter-append}
use Rattle.std.proofs.lemmas.Bool.Decides.{nat_tests}
use mathlib.Core.List.{IsPrefix}
use Rattle.apex_types.specs.declared.entries.Entry.{Entry}
use Rattle.apex_types.specs.declared.entries.Who.{Who}
use Rattle.apex_types.specs.declared.entries.Who.TheVariants.{Core, Ticker}
use Rattle.apex_receipts.specs.Receipts.{IsAtItsPlace, count_who, is_who, own_entries}

pub own_append : (who : Who) (xs ys : List Entry) → own_entries who (xs ++ ys) ≡ own_entries who xs ++ own_entries who ys
own_append who xs ys = filter-append (λ (e : Entry). is_who who e.who) xs ys

pub who_append : (who : Who) (xs ys : List Entry) → count_who who (xs ++ ys) ≡ count_who who xs + count_who who ys
who_append who xs ys = ap length (own_append who xs ys) ∙ length-append (own_entries who xs) (own_entries who ys)

-- a longer list with no more entries of a voice has the same ones
pub own_same : (who : Who) (first es : List Entry) → IsPrefix first es → count_who who es ≤ count_who who first
    → own_entries who es ≡ own_entries who first
own_same who first es begins most =
    let parts : own_entries who es ≡ own_entries who first ++ own_entries who begins.0 =
    ap (λ (w : List Entry). own_entries who w) (sym begins.1) ∙ own_append who first begins.0 in
    let few : length (own_entries who begins.0) ≤ 0 =
    omega (arith, most, ap (λ (w : List Entry). length w) parts, length-append (own_entries who first) (own_entries who begins.0)) in
    parts ∙ (ap (λ (w : List Entry). own_entries who first ++ w) (none (own_entries who begins.0) few) ∙ append-nil (own_entries who first)) where
      none : (w : List Entry) → length w ≤ 0 → w ≡ []
      none [] few = refl
      none (e ∷ w) few = absurd (omega (arith, few))

-- a maker that passes the test is the same core, or the ticker too
pub is_who_same : (v w : Who) → is_who v w ≡ true → v ≡ w
is_who_same (Core c) (Core d) is = let same : c ≡ d = grind (arith, nat_tests) in ap Core same
is_who_same (Core c) Ticker is = absurd (cc is)
is_who_same Ticker (Core d) is = absurd (cc is)
is_who_same Ticker Ticker is = refl

pub is_who_self : (who : Who) → is_who who who ≡ true
is_who_self (Core c) = grind (arith, nat_tests)
is_who_self Ticker = refl

-- an entry more of this core or of the ticker
pub own_snoc : (who : Who) (es : List Entry) (e : Entry) → e.who ≡ who → own_entries who (es ++ e ∷ []) ≡ own_entries who es ++ e ∷ []
own_snoc who es e same =
    let is : is_who who e.who ≡ true = ap (λ (w : Who). is_who who w) same ∙ is_who_self who in
    let one : own_entries who (e ∷ []) ≡ e ∷ [] = rw is refl in
    own_append who es (e ∷ []) ∙ ap (λ (w : List Entry). own_entries who es ++ w) one

-- an entry in a prefix of the history is in the history
pub place_begin : (first es : List Entry) (e : Entry) (place : ℕ) → IsPrefix first es → IsAtItsPlace first e place → IsAtItsPlace es e place
place_begin first es e place begins stands =
    record {
      before = stands.before;
      after = stands.after ++ begins.0;
      parts =
          sym begins.1
          ∙ (ap (λ (w : List Entry). w ++ begins.0) stands.parts ∙ append_assoc stands.before (e ∷ stands.after) begins.0);
      at_number = stands.at_number;
      at_place = stands.at_place;
    }

-- no more entries are of one core than there are
pub count_most : (who : Who) (es : List Entry) → count_who who es ≤ length es
count_most who [] = omega arith
count_most who (e ∷ es) = at (is_who who e.who) refl (count_most who es) where
  at : (b : Bool) → is_who who e.who ≡ b → count_who who es ≤ length es → count_who who (e ∷ es) ≤ length (e ∷ es)
  at true is less = rw is (omega (arith, less))
  at false is less = rw is (omega (arith, less))
