-- The text behind the first lines of a whole history.
use Rattle.std.proofs.Common.{◌≡◌, ◌∙◌, ℕ, ◌+◌, ◌<◌, ◌≤◌, List, [], ◌∷◌, ◌++◌, Result, Ok, Err, refl, sym, ap, subst, arith, inl, inr, length, map, append_assoc, append-nil, length-append}
use Rattle.std.specs.List.{AllByRecursion}
use Rattle.std.proofs.lemmas.Bool.{cases_lt, lt-ltb}
use Rattle.std.proofs.lemmas.Grind.{flat_map-append}
use Rattle.std.proofs.lemmas.List.{append_cancel_left, length-map, map-append}
use Rattle.apex_types.specs.declared.limits.TheConstants.{MOST_LINE}
use Rattle.apex_check.specs.Terms.{Entry, Event}
use Rattle.apex_machine.specs.table.Table.{Table}
use Rattle.apex_calls.specs.Lines.{line_of, lines_of}
use Rattle.apex_machine.specs.Machine.{Machine, accept, happen, opening, run}
use Rattle.apex_laws.proofs.Runs.{accept-full, accept-room, length-happen, run-append}
use Rattle.apex_history.specs.declared.LineFault.{LineFault}
use Rattle.apex_history.specs.declared.LineFault.TheVariants.{TooLong}
use Rattle.apex_check.specs.Histories.{Follows, IsNext, event_named, history_of}
use Rattle.apex_incoming.specs.Lines.{IsOneLine, ended, line_feeds, text_of}
use Rattle.apex_check.proofs.Apart.{feeds_text, first_of_lines, no_longer, one_feed, same_lines, some_feeds}
use Rattle.apex_incoming.proofs.FirstLines.{same_first}
use Rattle.apex_check.proofs.MoreLines.{event_adds}

-- The lines behind those of the first events, and the events that they name.
pub record GoesOn (table : Table) (firsts all : List Event) (behind : List ℕ) : Type 0 where
  pub lines : List (List ℕ)
  pub events : List Event
  pub whole : behind ≡ text_of lines
  pub apart : AllByRecursion IsOneLine lines
  pub named : map (event_named table.cores) lines ≡ map Ok events
  pub both : all ≡ firsts ++ events

same_events : (all firsts : List Event) (tail : List (Result Event LineFault)) → map Ok all ≡ map Ok firsts ++ tail
    → (events : List Event) × (all ≡ firsts ++ events) × (tail ≡ map Ok events)
same_events all [] tail e = (all, refl, sym e)
same_events [] (f ∷ fs) tail e =
    let no : ⊥ = cc in
    absurd no
same_events (a ∷ more) (f ∷ fs) tail e =
    let head : a ≡ f = cc in
    let rest : map Ok more ≡ map Ok fs ++ tail = cc in
    let (events, whole, is) = same_events more fs tail rest in
    (events, cc, is)

pub goes_on : (table : Table) (text behind : List ℕ) (all firsts : List Event) → Follows table text all []
    → Follows table text firsts behind → GoesOn table firsts all behind
goes_on table text behind all firsts (bytes, whole, are) (front, parts, before) =
    let e : text_of are.lines ≡ text_of before.lines ++ behind =
    sym are.whole ∙ sym (append-nil bytes) ∙ sym whole ∙ parts ∙ ap (λ l. l ++ behind) before.whole in
    let (lines, split, is, apart) = same_lines before.lines are.lines behind before.apart are.apart e in
    let named : map Ok all ≡ map Ok firsts ++ map (event_named table.cores) lines =
    sym are.named ∙ ap (map (event_named table.cores)) split ∙ map-append (event_named table.cores) before.lines lines
    ∙ ap (λ (l : List (Result Event LineFault)). l ++ map (event_named table.cores) lines) before.named in
    let (events, ends, same) = same_events all firsts (map (event_named table.cores) lines) named in
    record { lines = lines; events = events; whole = is; apart = apart; named = same; both = ends }

-- ---- the next line

-- nothing is behind the last line
none_of : (cores : ℕ) (lines : List (List ℕ)) (events : List Event) → [] ≡ text_of lines
    → map (event_named cores) lines ≡ map Ok events → events ≡ []
none_of cores [] [] e named = refl
none_of cores [] (event ∷ events) e named = cc
none_of cores (l ∷ ls) events e named =
    let none : [] ≡ l ++ (10 ∷ text_of ls) = e ∙ first_of_lines l ls in
    absurd (omega (arith, ap length none, length-append l (10 ∷ text_of ls)))

pub none_behind : {table : Table} {firsts all : List Event} → GoesOn table firsts all [] → all ≡ firsts
none_behind {table} {firsts} on =
    on.both ∙ ap (λ (l : List Event). firsts ++ l) (none_of table.cores on.lines on.events on.whole on.named) ∙ append-nil firsts

-- the next line names the next event
next_of : (cores : ℕ) (lines : List (List ℕ)) (events : List Event) (line behind : List ℕ) → IsOneLine line
    → line ++ (10 ∷ behind) ≡ text_of lines → AllByRecursion IsOneLine lines → map (event_named cores) lines ≡ map Ok events
    → (event : Event) × (later : List Event) × (event_named cores line ≡ Ok event) × (events ≡ event ∷ later)
next_of cores [] events line behind one e apart named =
    absurd (omega (arith, ap length e, length-append line (10 ∷ behind)))
next_of cores (l ∷ ls) [] line behind one e apart named =
    let no : ⊥ = cc in
    absurd no
next_of cores (l ∷ ls) (event ∷ later) line behind one e apart named =
    let same = same_first line l behind (text_of ls) one apart.0 (e ∙ first_of_lines l ls) in
    let names : event_named cores l ≡ Ok event = cc in
    (event, later, ap (event_named cores) same.0 ∙ names, refl)

module _ (table : Table) (firsts all : List Event) (line behind : List ℕ) (on : GoesOn table firsts all (ended line ++ behind)) (one : IsOneLine line) where
  pub next_named : (event : Event) × (later : List Event) × (event_named table.cores line ≡ Ok event) × (all ≡ firsts ++ event ∷ later)
  next_named =
      let (event, later, names, is) = next_of table.cores on.lines on.events line behind one
      (sym (append_assoc line (10 ∷ []) behind) ∙ on.whole) on.apart on.named in
      (event, later, names, on.both ∙ ap (λ (l : List Event). firsts ++ l) is)

-- a line that is longer than any names no event
long_is_none : (cores : ℕ) (line : List ℕ) (event : Event) → MOST_LINE < length line → event_named cores line ≡ Ok event → ⊥
long_is_none cores line event long names =
    let none : Err TooLong ≡ Ok event = rw (lt-ltb _ _ long) at names in
    cc

first_long : (cores : ℕ) (lines : List (List ℕ)) (events : List Event) (part behind : List ℕ) → IsOneLine part → MOST_LINE < length part
    → part ++ behind ≡ text_of lines → map (event_named cores) lines ≡ map Ok events → ⊥
first_long cores [] events part behind one long e named = omega (arith, ap length e, length-append part behind)
first_long cores (l ∷ ls) [] part behind one long e named = cc
first_long cores (l ∷ ls) (event ∷ events) part behind one long e named =
    let more = no_longer part behind l (text_of ls) one (sym (e ∙ first_of_lines l ls)) in
    let names : event_named cores l ≡ Ok event = cc in
    long_is_none cores l event (omega (arith, more, long)) names

pub not_too_long : {table : Table} {firsts all : List Event} → (part behind : List ℕ) → GoesOn table firsts all (part ++ behind)
    → IsOneLine part → MOST_LINE < length part → ⊥
not_too_long {table} part behind on one long = first_long table.cores on.lines on.events part behind one long on.whole on.named

-- bytes without a line feed are no line
some_line : (lines : List (List ℕ)) (rest : List ℕ) → rest ≡ text_of lines → IsOneLine rest → 0 < length rest → ⊥
some_line [] rest e one some = omega (arith, ap length e, some)
some_line (l ∷ ls) rest e one some =
    let feeds : 0 < line_feeds rest = subst (λ t. 0 < line_feeds t) (sym e) (some_feeds [] l (text_of ls)) in
    omega (arith, feeds, one)

pub not_unended : {table : Table} {firsts all : List Event} → (rest : List ℕ) → GoesOn table firsts all rest
    → IsOneLine rest → 0 < length rest → ⊥
not_unended rest on one some = some_line on.lines rest on.whole one some

-- ---- the machine's line

-- a run keeps the entries that it has
run_keeps : (table : Table) (machine : Machine) (events : List Event)
    → (later : List Entry) × ((run table machine events).history ≡ machine.history ++ later)
run_keeps table machine [] = ([], sym (append-nil machine.history))
run_keeps table machine (event ∷ events) = elim (cases_lt (length machine.history) table.limit) [
  | inl room ↦
      let (later, is) = run_keeps table (accept table machine event) events in
      let (entry, more, tells) = event_adds table machine event in (
        entry ∷ later,
        is ∙ ap (λ (m : Machine). m.history ++ later) (accept-room table machine event room)
            ∙ ap (λ (l : List Entry). l ++ later) more ∙ append_assoc machine.history (entry ∷ []) later,
      )
  | inr full ↦
      let (later, is) = run_keeps table (accept table machine event) events in
      (later, is ∙ ap (λ (m : Machine). m.history ++ later) (accept-full table machine event full))
]

-- events for which there is room have an entry each
run_fits : (table : Table) (machine : Machine) (events : List Event) → length machine.history + length events ≤ table.limit
    → length machine.history + length events ≤ length (run table machine events).history
run_fits table machine [] fits = omega arith
run_fits table machine (event ∷ events) fits =
    let room : length machine.history < table.limit = omega (arith, fits) in
    let more = length-happen table machine event in
    let rest = run_fits table (happen table machine event) events (omega (arith, fits, more)) in
    subst (λ (m : Machine). length machine.history + length (event ∷ events) ≤ length (run table m events).history)
    (sym (accept-room table machine event room)) (omega (arith, rest, more))

-- the line of an entry ends with a line feed
shows : (table : Table) (entry : Entry) → (shown : List ℕ) × (line_of table entry ≡ ended shown)
shows table entry = (_, refl)

-- the entries behind that of the next event
later_entries : (table : Table) (firsts later : List Event) (event : Event) (entry : Entry) → IsNext table firsts event entry
    → (entries : List Entry) × (history_of table (firsts ++ event ∷ later) ≡ history_of table firsts ++ entry ∷ entries)
later_entries table firsts later event entry next =
    let (entries, more) = run_keeps table (run table (opening table) (firsts ++ event ∷ [])) later in
    let split : firsts ++ event ∷ later ≡ (firsts ++ event ∷ []) ++ later = sym (append_assoc firsts (event ∷ []) later) in (
      entries,
      ap (history_of table) split
          ∙ ap (λ (m : Machine). m.history) (run-append table (opening table) (firsts ++ event ∷ []) later)
          ∙ more ∙ ap (λ (l : List Entry). l ++ entries) next
          ∙ append_assoc (history_of table firsts) (entry ∷ []) entries,
    )

-- the next line of a whole history is the machine's
module _ (table : Table) (text behind line : List ℕ) (all firsts : List Event) (event : Event) (entry : Entry) where
  pub same_line : Follows table text all [] → Follows table text firsts (ended line ++ behind) → IsOneLine line
      → event_named table.cores line ≡ Ok event → IsNext table firsts event entry → ended line ≡ line_of table entry
  same_line (bytes, whole, are) (front, parts, before) one named next =
      let on = goes_on table text (ended line ++ behind) all firsts (bytes, whole, are) (front, parts, before) in
      let (found, later, names, is) = next_named table firsts all line behind on one in
      let tells = sym named ∙ names in
      let same : event ≡ found = cc in
      let (entries, more) = later_entries table firsts later event entry next in
      let history : history_of table all ≡ history_of table firsts ++ entry ∷ entries =
      ap (history_of table) (is ∙ ap (λ (e : Event). firsts ++ e ∷ later) (sym same)) ∙ more in
      let lines : bytes ≡ lines_of table (history_of table firsts ++ entry ∷ entries) = are.same ∙ ap (lines_of table) history in
      let few : line_feeds (lines_of table (history_of table firsts ++ entry ∷ entries)) ≤ length (history_of table firsts) + 1 + length entries =
      omega (
        arith,
        ap line_feeds lines,
        ap line_feeds are.whole,
        feeds_text are.lines are.apart,
        ap length are.named,
        length-map are.lines (event_named table.cores),
        length-map {B = Result Event LineFault} all Ok,
        run_fits table (opening table) all (omega (arith, are.fits)),
        ap length history,
        length-append (history_of table firsts) (entry ∷ entries),
      ) in
      let (shown, ends) = shows table entry in
      let single : IsOneLine shown = one_feed (line_of table) (shows table) (history_of table firsts) entry entries few in
      let rest : ended line ++ behind ≡ line_of table entry ++ lines_of table entries =
      append_cancel_left front _ _
      (sym parts ∙ whole ∙ append-nil bytes ∙ lines ∙ flat_map-append (line_of table) (history_of table firsts) (entry ∷ entries)
      ∙ ap (λ l. l ++ (line_of table entry ++ lines_of table entries)) (sym before.same)) in
      let first = same_first line shown behind (lines_of table entries) one single
      (sym (append_assoc line (10 ∷ []) behind) ∙ rest ∙ ap (λ l. l ++ lines_of table entries) ends ∙ append_assoc shown (10 ∷ []) (lines_of table entries)) in
      ap ended first.0 ∙ sym ends
