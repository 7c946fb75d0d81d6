-- The lines of a history, one more each time.
use Rattle.std.proofs.Common.{◌≡◌, ◌∙◌, ℕ, ◌+◌, ◌<◌, ◌≤◌, Bool, true, false, List, [], ◌∷◌, ◌++◌, Option, None, Some, Result, Ok, Err, refl, sym, ap, arith, get_or, length, map, take, nat_lt, subst, append_assoc, append-nil, length-append, length-take-le, take-take}
use Rattle.std.specs.Prelude.{◌≢◌}
use Rattle.std.specs.List.{All, last_or}
use Rattle.std.proofs.lemmas.Bool.{ltb-true}
use Rattle.std.proofs.lemmas.Grind.{flat_map-append}
use Rattle.std.proofs.lemmas.List.{length-map, map-append}
use Rattle.std.proofs.Math.Seq.{take-append_seam, get_or-append_seam}
use Rattle.apex_types.specs.declared.limits.TheConstants.{MOST_LINE}
use Rattle.apex_check.specs.Terms.{Entry, Event}
use Rattle.apex_table.proofs.Results.{all_append}
use Rattle.apex_types.specs.declared.entries.Event.TheVariants.{Turn, Tick}
use Rattle.apex_machine.specs.table.Table.{Table}
use Rattle.apex_calls.specs.Lines.{line_of, lines_of}
use Rattle.apex_machine.specs.Machine.{Machine, accept, happen, event_of, events_of, replay, tick, turn}
use Rattle.apex_laws.proofs.Runs.{accept-full, accept-room}
use Rattle.apex_history.specs.declared.LineFault.{LineFault}
use Rattle.apex_history.specs.declared.LineFault.TheVariants as line_fault
use Rattle.apex_history.specs.ReadLines as words
use Rattle.apex_history.specs.ReadLines.{line_result, or_bad_line}
use Rattle.apex_history.specs.Words.{parts}
use Rattle.apex_check.specs.declared.verdicts.Verdict.TheVariants.{Legal, DepartsAt}
use Rattle.apex_check.specs.declared.verdicts.CheckFault.TheVariants.{BadLine, Read, TooLong}
use Rattle.apex_check.specs.declared.verdicts.CheckFault.{CheckFault}
use Rattle.apex_incoming.specs.Ahead.{IsAhead}
use Rattle.apex_check.specs.Histories.{AreLines, Follows, event_named, history_of, is_of_cores, of_cores}
use Rattle.apex_check.specs.declared.following.Answer.{Answer}
use Rattle.apex_check.specs.declared.following.Answer.TheVariants.{Same, Differs, Beyond}
use Rattle.apex_check.specs.Steps.{Adds, Answers, IsLineFaultOf, Judged, fault_at}
use Rattle.apex_incoming.specs.Lines.{IsOneLine, ended}
use Rattle.apex_check.specs.Verdicts.{JudgesLines, LineIsAtFault, bad, beyond, departs, legal, too_long, unended}
use Rattle.apex_check.proofs.Separated.{text_more}
use Rattle.apex_history.proofs.EntriesOf.{last_put}

-- ---- the entry that an event adds

pub event_adds : (table : Table) (machine : Machine) (event : Event)
    → (entry : Entry) × ((happen table machine event).history ≡ machine.history ++ entry ∷ []) × (event_of entry ≡ event)
unfolding turn tick
event_adds table machine (Turn core) = (_, refl, refl)
event_adds table machine (Tick n) = (_, refl, refl)

last_at : (o : Option Entry) (entry : Entry) (rest : List Entry) (found : Entry) → last_or o (entry ∷ rest) ≡ Some found
    → get_or (entry ∷ rest) (length rest) found ≡ found
last_at o entry [] found is = cc
last_at o entry (next ∷ rest) found is = last_at (Some entry) next rest found is

-- what holds of all entries holds of the last one
pub holds_of_last : (P : Entry → Type 0) (entries : List Entry) (found : Entry) → last_or None entries ≡ Some found → All P entries → P found
holds_of_last P [] found is all = absurd cc
holds_of_last P (entry ∷ rest) found is all = subst P (last_at None entry rest found is) (all (length rest) found (omega arith))

-- the last entry after an event for which there was room
module _ (table : Table) (machine : Machine) (event : Event) (entries : List Entry) (room : length machine.history < table.limit)
    (ran : entries ≡ (accept table machine event).history) where
  grown : (entry : Entry) × (entries ≡ machine.history ++ entry ∷ []) × (event_of entry ≡ event)
  grown =
      let (entry, more, tells) = event_adds table machine event in
      (entry, ran ∙ ap (λ (m : Machine). m.history) (accept-room table machine event room) ∙ more, tells)

  pub latest_some : last_or None entries ≡ None → ⊥
  latest_some none =
      let (entry, more, tells) = grown in
      let some : Some entry ≡ None = sym (last_put None machine.history entry) ∙ ap (last_or None) (sym more) ∙ none in
      cc

  same_latest : (found : Entry) → last_or None entries ≡ Some found → grown.0 ≡ found
  same_latest found is =
      let some : Some grown.0 ≡ Some found = sym (last_put None machine.history grown.0) ∙ ap (last_or None) (sym grown.1) ∙ is in
      cc

  pub latest_adds : (found : Entry) → last_or None entries ≡ Some found → Adds table machine event found
  latest_adds found is =
      let same = same_latest found is in
      (sym ran ∙ grown.1 ∙ ap (λ (x : Entry). machine.history ++ x ∷ []) same, ap event_of (sym same) ∙ grown.2)

  pub latest_holds : (P : Entry → Type 0) (found : Entry) → last_or None entries ≡ Some found → All P entries → P found
  latest_holds P found is all =
      let whole : entries ≡ machine.history ++ found ∷ [] = grown.1 ∙ ap (λ (x : Entry). machine.history ++ x ∷ []) (same_latest found is) in
      let n : length machine.history < length entries = omega (arith, ap length whole, length-append machine.history (found ∷ [])) in
      let at : get_or entries (length machine.history) found ≡ found =
      ap (λ (l : List Entry). get_or l (length machine.history) found) whole ∙ get_or-append_seam machine.history found [] found in
      subst P at (all (length machine.history) found n)

-- ---- one line more

-- the events of a history with one entry more
events_more : (entries : List Entry) (entry : Entry) (event : Event) → event_of entry ≡ event
    → events_of (entries ++ entry ∷ []) ≡ events_of entries ++ event ∷ []
events_more entries entry event tells = map-append event_of entries (entry ∷ []) ∙ ap (λ (x : Event). events_of entries ++ x ∷ []) tells

lines_more : (table : Table) (entries : List Entry) (entry : Entry) → lines_of table (entries ++ entry ∷ []) ≡ lines_of table entries ++ line_of table entry
lines_more table entries entry =
    flat_map-append (line_of table) entries (entry ∷ []) ∙ ap (λ l. lines_of table entries ++ l) (append-nil (line_of table entry))

-- the history that replays is that of its events
history_is : (table : Table) (machine : Machine) → replay table machine.history ≡ machine → history_of table (events_of machine.history) ≡ machine.history
history_is table machine again = ap (λ (m : Machine). m.history) again

module _ (table : Table) (machine new : Machine) (bytes found : List ℕ) (event : Event) (entry : Entry) where
  pub lines_grow : AreLines table bytes (events_of machine.history) → IsOneLine found → event_named table.cores found ≡ Ok event
      → new.history ≡ machine.history ++ entry ∷ [] → event_of entry ≡ event → ended found ≡ line_of table entry
      → replay table machine.history ≡ machine → replay table new.history ≡ new → length new.history ≤ table.limit
      → AreLines table (bytes ++ ended found) (events_of new.history)
  lines_grow are one named grown tells same again replays fits =
      let events : events_of new.history ≡ events_of machine.history ++ event ∷ [] = ap events_of grown ∙ events_more machine.history entry event tells in
      record {
        lines = are.lines ++ found ∷ [];
        whole = ap (λ l. l ++ ended found) are.whole ∙ sym (text_more are.lines found);
        apart = all_append IsOneLine are.lines (found ∷ []) are.apart (one, tt);
        named =
            map-append (event_named table.cores) are.lines (found ∷ [])
            ∙ ap (λ (l : List (Result Event LineFault)). l ++ event_named table.cores found ∷ []) are.named
            ∙ ap (λ (r : Result Event LineFault). map Ok (events_of machine.history) ++ r ∷ []) named
            ∙ sym (map-append Ok (events_of machine.history) (event ∷ []))
            ∙ ap (map Ok) (sym events);
        fits = omega (arith, length-map new.history event_of, fits);
        same =
            ap (λ l. l ++ ended found) (are.same ∙ ap (lines_of table) (history_is table machine again))
            ∙ ap (λ l. lines_of table machine.history ++ l) same
            ∙ sym (lines_more table machine.history entry)
            ∙ ap (lines_of table) (sym (history_is table new replays ∙ grown));
      }

  pub next_is : new.history ≡ machine.history ++ entry ∷ [] → event_of entry ≡ event
      → replay table machine.history ≡ machine → replay table new.history ≡ new
      → history_of table (events_of machine.history ++ event ∷ []) ≡ history_of table (events_of machine.history) ++ entry ∷ []
  next_is grown tells again replays =
      ap (history_of table) (sym (ap events_of grown ∙ events_more machine.history entry event tells))
      ∙ history_is table new replays ∙ grown
      ∙ ap (λ (l : List Entry). l ++ entry ∷ []) (sym (history_is table machine again))

-- ---- the event that a line names

-- a turn of a core is no fault but of a core that is lacking
named_by : (cores : ℕ) (result : Result Event LineFault) → of_cores cores result ≡ Err line_fault.TooLong → result ≡ Err line_fault.TooLong
named_by cores (Err fault) e = e
named_by cores (Ok event) e = go (is_of_cores cores event) refl
  where
    go : (b : Bool) → is_of_cores cores event ≡ b → Ok event ≡ Err line_fault.TooLong
    go true t =
        let none : Ok event ≡ Err line_fault.TooLong = rw t at e in
        none
    go false t =
        let none : Err line_fault.BadLine ≡ Err line_fault.TooLong = rw t at e in
        cc

bad_or_ok : (named : Option Event) → or_bad_line named ≡ Err line_fault.TooLong → ⊥
bad_or_ok None e = cc
bad_or_ok (Some event) e = cc

long_line : (cores : ℕ) (line : List ℕ) → event_named cores line ≡ Err line_fault.TooLong → MOST_LINE < length line
long_line cores line e = go (nat_lt MOST_LINE (length line)) refl
  where
    found : line_result line ≡ Err line_fault.TooLong
    found = named_by cores (line_result line) e

    go : (b : Bool) → nat_lt MOST_LINE (length line) ≡ b → MOST_LINE < length line
    go true t = ltb-true _ _ t
    go false t = absurd (bad_or_ok (words.event_named (parts 32 line)) (rw t at found))

-- ---- the judgement on a line

-- a line is read apart from the text that follows it
follows : (table : Table) (bytes behind : List ℕ) (events : List Event) → AreLines table bytes events
    → Follows table (bytes ++ behind) events behind
follows table bytes behind events are = (bytes, refl, are)

pub counted : (entries : List Entry) → length (events_of entries) ≡ length entries
counted entries = length-map entries event_of

module _ (table : Table) (entries : List Entry) (bytes : List ℕ) (are : AreLines table bytes (events_of entries)) where
  pub differs : (found behind : List ℕ) (event : Event) (entry : Entry) → IsOneLine found → event_named table.cores found ≡ Ok event
      → history_of table (events_of entries ++ event ∷ []) ≡ history_of table (events_of entries) ++ entry ∷ []
      → (ended found ≢ line_of table entry)
      → JudgesLines table (bytes ++ (ended found ++ behind)) (DepartsAt (length entries + 1) (Some entry)) (events_of entries ++ event ∷ [])
  differs found behind event entry one named next other =
      subst (λ n. JudgesLines table (bytes ++ (ended found ++ behind)) (DepartsAt (n + 1) (Some entry)) (events_of entries ++ event ∷ [])) (counted entries)
      (departs behind found event entry (follows table bytes (ended found ++ behind) (events_of entries) are) one named next other)

  pub full : (found behind : List ℕ) (event : Event) → IsOneLine found → event_named table.cores found ≡ Ok event
      → table.limit ≤ length entries
      → JudgesLines table (bytes ++ (ended found ++ behind)) (DepartsAt (length entries + 1) None) (events_of entries)
  full found behind event one named many =
      let all : length (events_of entries) ≡ table.limit = omega (arith, counted entries, are.fits, many) in
      subst (λ n. JudgesLines table (bytes ++ (ended found ++ behind)) (DepartsAt (n + 1) None) (events_of entries)) (counted entries)
      (beyond behind found event (follows table bytes (ended found ++ behind) (events_of entries) are) one named all)

  pub ends : (pending left : List ℕ) → pending ≡ [] → left ≡ [] → JudgesLines table (bytes ++ (pending ++ left)) (Legal (length entries)) (events_of entries)
  ends pending left none end =
      let nothing : pending ++ left ≡ [] = ap (λ l. l ++ left) none ∙ end in
      let whole : bytes ++ (pending ++ left) ≡ bytes ++ [] = ap (λ l. bytes ++ l) nothing in
      subst (λ n. JudgesLines table (bytes ++ (pending ++ left)) (Legal n) (events_of entries)) (counted entries)
      (legal (bytes, whole, are))

  pub rests : (pending left : List ℕ) → IsOneLine pending → 0 < length pending → length pending ≤ MOST_LINE → left ≡ []
      → LineIsAtFault table (bytes ++ (pending ++ left)) (BadLine (length entries + 1))
  rests pending left one some few end =
      let whole : bytes ++ (pending ++ left) ≡ bytes ++ pending = ap (λ l. bytes ++ l) (ap (λ l. pending ++ l) end ∙ append-nil pending) in
      subst (λ n. LineIsAtFault table (bytes ++ (pending ++ left)) (BadLine (n + 1))) (counted entries)
      (unended pending (bytes, whole, are) one some few)

  pub runs_on : (pending left : List ℕ) → IsOneLine pending → MOST_LINE < length pending
      → LineIsAtFault table (bytes ++ (pending ++ left)) (TooLong (length entries + 1))
  runs_on pending left one long =
      subst (λ n. LineIsAtFault table (bytes ++ (pending ++ left)) (TooLong (n + 1))) (counted entries)
      (too_long left pending (bytes, refl, are) one long)

  pub faulty : (found behind : List ℕ) (fault : LineFault) → IsOneLine found → event_named table.cores found ≡ Err fault
      → LineIsAtFault table (bytes ++ (ended found ++ behind)) (fault_at (length entries + 1) fault)
  faulty found behind line_fault.BadLine one named =
      subst (λ n. LineIsAtFault table (bytes ++ (ended found ++ behind)) (BadLine (n + 1))) (counted entries)
      (bad behind found (follows table bytes (ended found ++ behind) (events_of entries) are) one named)
  faulty found behind line_fault.TooLong one named =
      let split : bytes ++ (ended found ++ behind) ≡ bytes ++ (found ++ (10 ∷ behind)) =
      ap (λ l. bytes ++ l) (append_assoc found (10 ∷ []) behind) in
      subst (λ n. LineIsAtFault table (bytes ++ (ended found ++ behind)) (TooLong (n + 1))) (counted entries)
      (too_long (10 ∷ behind) found (bytes, split, are) one (long_line table.cores found named))

-- the judgement on a line, by the comparison of the machine's line with it
pub judged : (table : Table) (machine new : Machine) (bytes found line : List ℕ) (event : Event)
    → AreLines table bytes (events_of machine.history) → IsOneLine found → event_named table.cores found ≡ Ok event → line ≡ ended found
    → new.history ≡ (accept table machine event).history
    → replay table machine.history ≡ machine → replay table new.history ≡ new → length new.history ≤ table.limit
    → (answer : Answer) → Answers table machine event line answer → Judged table bytes found new.history (Ok answer)
judged table machine new bytes found line event are one named e ran again replays fits Same (entry, adds, same) =
    lines_grow table machine new bytes found event entry are one named (ran ∙ adds.0) adds.1 (sym e ∙ same) again replays fits
judged table machine new bytes found line event are one named e ran again replays fits Differs (entry, adds, other) = λ behind.
    let grown : new.history ≡ machine.history ++ entry ∷ [] = ran ∙ adds.0 in
    let count : length new.history ≡ length machine.history + 1 = omega (arith, ap length grown, length-append machine.history (entry ∷ [])) in
    let last : last_or None new.history ≡ Some entry = ap (last_or None) grown ∙ last_put None machine.history entry in
    let events : events_of new.history ≡ events_of machine.history ++ event ∷ [] = ap events_of grown ∙ events_more machine.history entry event adds.1 in
    rw (count, last, events) (differs table machine.history bytes are found behind event entry one named
    (next_is table machine new bytes found event entry grown adds.1 again replays) (λ same. other (e ∙ same)))
judged table machine new bytes found line event are one named e ran again replays fits Beyond many = λ behind.
    let kept : new.history ≡ machine.history = ran ∙ ap (λ (m : Machine). m.history) (accept-full table machine event many) in
    rw kept (full table machine.history bytes are found behind event one named many)

pub line_fault_of : (table : Table) (known : Option (List ℕ)) (fault : CheckFault)
    → ((text : List ℕ) × IsAhead text known × LineIsAtFault table text fault) → IsLineFaultOf table known fault
line_fault_of table known Read found = tt
line_fault_of table known fault found = found

-- a line without its line feed
pub unended_is : (bytes found : List ℕ) (end : ℕ) → end < length bytes → take (end + 1) bytes ≡ ended found → take end bytes ≡ found
unended_is bytes found end within e =
    let n : end ≡ length found = omega (arith, ap length e, length-append found (10 ∷ []), length-take-le (end + 1) bytes (omega (arith, within))) in
    sym (take-take end (end + 1) bytes (omega arith)) ∙ ap (take end) e
    ∙ (rw n (take-append_seam found (10 ∷ [])))
