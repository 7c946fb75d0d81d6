-- The numbers of the entries of a run rise.
use Rattle.std.proofs.Common.{◌≡◌, ◌∙◌, ℕ, ◌+◌, ◌<◌, ◌≤◌, List, [], ◌∷◌, ◌++◌, inl, inr, All, ap, arith, drop, get_or, length, map, refl, subst, sym, take}
use Rattle.std.proofs.lemmas.Bool.{cases_lt}
use Rattle.std.proofs.lemmas.List.{get_or-drop, get_or-map, get_or-take, length-drop, length-map, length-take, length_push}
use Rattle.std.proofs.lemmas.List.Elements.{All-nil, All-push, All-weaker}
use Rattle.std.proofs.lemmas.List.Kept.{AllPairs-filter}
use Rattle.std.proofs.lemmas.List.Quantifiers.{all_pairs_push}
use Rattle.std.specs.List.{AllPairs, filter}
use Rattle.apex_types.specs.declared.entries.Event.TheVariants.{Turn, Tick}
use Rattle.apex_machine.specs.Machine.{Machine, accept, happen, opening, run, tick, turn}
use Rattle.apex_machine.specs.table.Table.{Table}
use Rattle.apex_laws.proofs.Runs.{accept-full, accept-room}
use Rattle.apex_moments.specs.Terms.{Entry, Event}
use Rattle.apex_pictures.specs.Excerpts.{columns_of, drawn_at, has_column, never, timed}
use Rattle.apex_pictures.specs.Laws.{history_of}
use Rattle.apex_pictures.specs.declared.excerpts.Extent.{Extent}
use Rattle.apex_pictures.specs.declared.excerpts.Timed.{Timed}
use Rattle.apex_pictures.proofs.Times.{nothing}

-- an entry has a smaller number than another one
abbrev IsEarlier : Entry → Entry → Type 0
IsEarlier one other = one.number < other.number

-- the numbers of a history rise, and none is beyond its length
pub record AreNumbered (history : List Entry) : Type 0 where
  pub within : All (λ entry. entry.number ≤ length history) history
  pub rise : AllPairs IsEarlier history

numbered_none : AreNumbered []
numbered_none = record {
  within = All-nil (λ (entry : Entry). entry.number ≤ 0);
  rise = λ i j d order within. absurd (omega (arith, within));
}

numbered_push : (done : List Entry) (entry : Entry) → AreNumbered done → entry.number ≡ length done + 1
    → AreNumbered (done ++ entry ∷ [])
numbered_push done entry is number =
    let many = length_push done entry in
    record {
      within = All-push (λ (e : Entry). e.number ≤ length (done ++ entry ∷ [])) done entry
          (All-weaker (λ (e : Entry). e.number ≤ length done) (λ (e : Entry). e.number ≤ length (done ++ entry ∷ []))
          (λ e old. omega (arith, old, many)) done is.within)
          (omega (arith, number, many));
      rise = all_pairs_push IsEarlier done entry is.rise (λ k d inside. omega (arith, is.within k d inside, number));
    }

-- an entry has the number of entries up to it
event_numbered : (table : Table) (machine : Machine) (event : Event)
    → (entry : Entry) × (happen table machine event).history ≡ machine.history ++ entry ∷ []
    × entry.number ≡ length machine.history + 1
unfolding turn tick
event_numbered table machine (Turn core) = (_, refl, refl)
event_numbered table machine (Tick n) = (_, refl, refl)

numbered_accept : (table : Table) (machine : Machine) (event : Event) → AreNumbered machine.history
    → AreNumbered (accept table machine event).history
numbered_accept table machine event is = elim (cases_lt (length machine.history) table.limit) [
  | inl room ↦
      let (entry, history, number) = event_numbered table machine event in
      subst AreNumbered (sym (ap (λ (m : Machine). m.history) (accept-room table machine event room) ∙ history))
      (numbered_push machine.history entry is number)
  | inr full ↦ subst (λ (m : Machine). AreNumbered m.history) (sym (accept-full table machine event full)) is
]

numbered_run : (table : Table) (events : List Event) (machine : Machine) → AreNumbered machine.history
    → AreNumbered (run table machine events).history
numbered_run table [] machine is = is
numbered_run table (event ∷ events) machine is =
    numbered_run table events (accept table machine event) (numbered_accept table machine event is)

pub numbered_after : (table : Table) (events : List Event) → AreNumbered (history_of table events)
numbered_after table events = numbered_run table events (opening table) numbered_none

-- the number of one of the entries that have a column, as the history has it
number_at : (columns : List Entry) (others many n : ℕ) → n < length (take many (drop others (map timed columns)))
    → (drawn_at (take many (drop others (map timed columns))) n).number ≡ (get_or columns (others + n) nothing).number
number_at columns others many n within =
    let all = map timed columns in
    let behind = drop others all in
    let long = length-take many behind in
    let rest = length-drop others all in
    let whole = length-map columns timed in
    ap (λ (e : Timed). e.number)
    (get_or-take many behind n never (omega (arith, within, long)) ∙ get_or-drop others all n never
    ∙ get_or-map timed columns (others + n) nothing never (omega (arith, within, long, rest, whole)))

-- the entries that have a column follow one another
pub columns_follow : (extent : Extent) (others many n : ℕ) (history : List Entry) → AreNumbered history
    → n + 1 < length (take many (drop others (columns_of extent history)))
    → (drawn_at (take many (drop others (columns_of extent history))) n).number
    < (drawn_at (take many (drop others (columns_of extent history))) (n + 1)).number
columns_follow extent others many n history is within =
    let columns = filter (has_column extent) history in
    let all = map timed columns in
    let long = length-take many (drop others all) in
    let rest = length-drop others all in
    let whole = length-map columns timed in
    let rise = AllPairs-filter IsEarlier (has_column extent) history is.rise (others + n) (others + (n + 1)) nothing
    (omega arith) (omega (arith, within, long, rest, whole)) in
    omega (arith, rise, number_at columns others many n (omega (arith, within)), number_at columns others many (n + 1) within)
