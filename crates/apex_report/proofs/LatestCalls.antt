-- The latest calls after one entry more, in a list by place.
use Rattle.std.proofs.Common.{◌≡◌, ℕ, ◌+◌, ◌<◌, ◌≤◌, ◌==◌, zero, suc, if◌then◌else◌, List, [], ◌∷◌, ◌++◌, Option, None, Some, option_to_list, length, get_or, take, map, set, refl, sym, ap, ◌∙◌, arith, inl, inr}
use Rattle.std.specs.List.{cons_option, filter_map, range_with_len}
use Rattle.std.proofs.lemmas.List.{take_more}
use Rattle.std.proofs.lemmas.List.Elements.{filter_map-append}
use Rattle.std.proofs.lemmas.Bool.{cases_Bool, eqb-true, eq-eqb}
use Rattle.std.proofs.lemmas.List.Sums.{fold_push}
use Rattle.apex_types.specs.declared.entries.Caller.TheVariants.{Process, Init, Nobody}
use Rattle.apex_machine.specs.services.Callers.{is_by_process}
use Rattle.apex_machine.specs.services.Satisfied.{latest_after, latest_call}
use Rattle.apex_report.specs.Latest.{latest_by, latest_calls, latest_set}
use Rattle.apex_report.specs.Terms.{Call, Caller, Entry, Notice, Waking}
use Rattle.apex_report.specs.declared.waits.TheConstants.{ID_PLACES}

same_mapped : {X : Type 0} (f g : ℕ → X) (a n : ℕ) → ((k : ℕ) → a ≤ k → f k ≡ g k)
    → map f (range_with_len a n) ≡ map g (range_with_len a n)
same_mapped f g a zero same = refl
same_mapped f g a (suc n) same =
    rw (same a (omega arith), same_mapped f g (a + 1) n (λ k le. same k (omega (arith, le)))) refl

one_found : {X : Type 0} (x : Option X) → cons_option x [] ≡ option_to_list x
one_found None = refl
one_found (Some x) = refl

-- what one notice more wakes comes last
pub found_more : (h : Notice → Option Waking) (xs : List Notice) (i : ℕ) (x : Notice) → i < length xs → x ≡ get_or xs i x
    → filter_map h (take (i + 1) xs) ≡ filter_map h (take i xs) ++ option_to_list (h x)
found_more h xs i x within here =
    ap (filter_map h) (take_more xs i x within ∙ ap (λ y. take i xs ++ y ∷ []) (sym here))
    ∙ filter_map-append h (take i xs) (x ∷ [])
    ∙ ap (λ l. filter_map h (take i xs) ++ l) (one_found (h x))

-- the list with one place set is that of a rule which differs there alone
set_mapped : {X : Type 0} (f g : ℕ → X) (y : X) (a n i : ℕ) → y ≡ g (a + i) → ((k : ℕ) → (k ≡ a + i → ⊥) → f k ≡ g k)
    → set (map f (range_with_len a n)) i y ≡ map g (range_with_len a n)
set_mapped f g y a zero i is others = refl
set_mapped f g y a (suc n) zero is others =
    let here : y ≡ g a = is ∙ ap g (omega arith) in
    rw (here, same_mapped f g (a + 1) n (λ k le. others k (λ e. omega (arith, le, e)))) refl
set_mapped f g y a (suc n) (suc i) is others =
    let at : a + suc i ≡ (a + 1) + i = omega arith in
    rw (
      others a (λ e. omega (arith, e)),
      set_mapped f g y (a + 1) n i (is ∙ ap g at) (λ k other. others k (λ e. other (e ∙ at))),
    )
    refl

-- the latest call of process p after an entry of this caller
abbrev after_caller : ℕ → Option Call → Caller → Option Call → Option Call
after_caller p before caller call = if is_by_process p caller then call else before

grow_by : (before : ℕ → Option Call) (caller : Caller) (call : Option Call) (n : ℕ)
    → map (λ p. after_caller p (before p) caller call) (range_with_len 0 n)
    ≡ latest_by caller call (map before (range_with_len 0 n))
grow_by before (Process q) call n =
    sym (set_mapped before (λ p. after_caller p (before p) (Process q) call) call 0 n q
    (rw (eq-eqb (0 + q) q (omega arith)) refl)
    (λ k other. elim (cases_Bool (k == q)) [
      | inl is ↦ absurd (other (omega (arith, eqb-true k q is)))
      | inr is ↦ rw is refl
    ]))
grow_by before Init call n = same_mapped (λ p. after_caller p (before p) Init call) before 0 n (λ k le. refl)
grow_by before Nobody call n = same_mapped (λ p. after_caller p (before p) Nobody call) before 0 n (λ k le. refl)

-- the latest calls after one entry more
pub latest_grow : (history : List Entry) (e : Entry) → latest_calls (history ++ e ∷ []) ≡ latest_set e (latest_calls history)
latest_grow history e =
    same_mapped (λ p. latest_call p (history ++ e ∷ [])) (λ p. after_caller p (latest_call p history) e.process e.call) 0 ID_PLACES
    (λ k le. fold_push (latest_after k) None history e)
    ∙ grow_by (λ p. latest_call p history) e.process e.call ID_PLACES
