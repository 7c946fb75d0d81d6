-- Each step that is read is lawful: it names entries of the table, or its own literal. And its call,
-- written again, is its text.
use Rattle.std.proofs.Common.{◌≡◌, ℕ, ◌<◌, ◌≤◌, Bool, true, false, if◌then◌else◌, List, [], ◌∷◌, length, map, Option, Some, None, IfSome, Result, Ok, Err, IfOk, refl, sym, ap, subst, ◌∙◌, arith}
use Rattle.std.specs.List.{AllByRecursion, list_any, list_all}
use Rattle.std.specs.Str.{bytes_eq}
use Rattle.std.proofs.lemmas.List.Splits.{join_with_byte-slice_split}
use Rattle.std.proofs.lemmas.Option.{none-some, same_Some}
use Rattle.std.proofs.lemmas.Result.{IfOk-weaker}
use Rattle.std.proofs.lemmas.Slice.Eq.{bytes_eq-Decides}
use Rattle.apex_types.specs.Calls.{unknown}
use Rattle.apex_machine.specs.services.Calls.{origin_of, message_in}
use Rattle.apex_machine.specs.table.Table.{HasNumbersInRange, IsKnown, IsLawfulStep, IsLawfulTimeout, IsLiteral, IsMessageOf, Step, Table}
use Rattle.apex_machine.specs.text.Texts.{bytes_text}
use Rattle.apex_types.specs.declared.calls.Named.TheVariants.{Known, Unknown}
use Rattle.apex_types.specs.declared.calls.Origin.TheVariants.{Script}
use Rattle.apex_calls.specs.Catalogue.{Row, IsRow, rows, row_in, row_of}
use Rattle.apex_calls.specs.Parts.{IsInRange, call_of}
use Rattle.apex_calls.specs.CallText.{IsKnownWord, call_words, count_of, named_text, row_words, spaced, word_text}
use Rattle.apex_calls.specs.declared.catalogue.Kind.TheVariants.{Process, Semaphore, Buffer, Blackboard, EventFlag, Mutex}
use Rattle.apex_calls.specs.declared.catalogue.Service.TheVariants as services
use Rattle.apex_calls.specs.declared.catalogue.Shape.TheVariants.{Entry, Named, Number, Timeout, Message, Mode}
use Rattle.apex_calls.proofs.Rows.{row_of_word_law}
use Rattle.apex_table.specs.Terms.{Arguments, Kind, Named as NameOf, Origin, Place, Service, Shape, TableFault}
use Rattle.apex_words.specs.declared.fault.TableFault.TheVariants.{BadStep}
use Rattle.apex_words.specs.Outcome.{made, some_or}
use Rattle.apex_table.specs.Names.{Names, names_in}
use Rattle.apex_words.specs.Words.{words}
use Rattle.apex_table.specs.Steps.{Given, nothing, of_word, misfit, have_forms, with_words, step_with, row_step, step_of, step}
use Rattle.apex_table.specs.Scripts.{script}
use Rattle.apex_table.proofs.Results.{ok_then, AllFrom, all_any, each_from, each_length}
use Rattle.apex_table.proofs.Spelling.{some_or_ok}
use Rattle.apex_table.proofs.Slots.{slot, Says, AllSay, name_at, fills_literal, are_apart, is_narrow, apart_row, narrow_row, bare_literal, all_said}

-- of each kind there are as many names as the table has things
pub record AreNamesOf (table : Table) (names : Names) : Type 0 where
  pub processes : length names.processes ≡ length table.processes
  pub semaphores : length names.semaphores ≡ length table.semaphores
  pub buffers : length names.buffers ≡ length table.buffers
  pub blackboards : length names.blackboards ≡ length table.blackboards
  pub event_flags : length names.event_flags ≡ length table.event_flags
  pub mutexes : length names.mutexes ≡ length table.mutexes

many_names : (table : Table) (names : Names) → AreNamesOf table names → (k : Kind) → length (names_in names k) ≡ count_of table k
many_names table names same Process = same.processes
many_names table names same Semaphore = same.semaphores
many_names table names same Buffer = same.buffers
many_names table names same Blackboard = same.blackboards
many_names table names same EventFlag = same.event_flags
many_names table names same Mutex = same.mutexes

-- the literal is what the word gives, where it gives one
abbrev GivesLiteral : Origin → Given → Shape → Type 0
GivesLiteral origin g (Named k) = IsLiteral origin g.literal (unknown g.arguments.named) None
GivesLiteral origin g Message = IsMessageOf origin g.literal g.arguments.message
GivesLiteral origin g _ = Unit {0}

-- what each word says, as a fact of its shape
from_said : (origin : Origin) (names : Names) (g : Given) (R : Shape → Type 0) → ((s : Shape) (w : List ℕ) → Says origin names s w (slot s g) → R s) → (ss : List Shape) (ws : List (List ℕ)) → AllSay origin names ss ws g → AllByRecursion R ss
from_said origin names g R gives [] ws all = tt
from_said origin names g R gives (s ∷ ss) [] all = absurd all
from_said origin names g R gives (s ∷ ss) (w ∷ ws) all = (gives s w all.0, from_said origin names g R gives ss ws all.1)

range_of : (origin : Origin) (names : Names) (g : Given) (s : Shape) (w : List ℕ) → Says origin names s w (slot s g) → IsInRange g.arguments s
range_of origin names g (Number low high) w h = (h.least, h.most)
range_of origin names g _ w h = tt

-- the number or the timeout, if the shape has one, is in its range
abbrev IsLawfulIn : Arguments → Shape → Type 0
IsLawfulIn a (Number low high) = (low ≤ a.number) × (a.number ≤ high)
IsLawfulIn a Timeout = IsLawfulTimeout a.timeout
IsLawfulIn a _ = Unit {0}

lawful_of : (origin : Origin) (names : Names) (g : Given) (s : Shape) (w : List ℕ) → Says origin names s w (slot s g) → IsLawfulIn g.arguments s
lawful_of origin names g (Number low high) w h = (h.least, h.most)
lawful_of origin names g Timeout w h = h.lawful
lawful_of origin names g _ w h = tt

known_of : (table : Table) (names : Names) → AreNamesOf table names → (origin : Origin) (g : Given) (s : Shape) (w : List ℕ) → Says origin names s w (slot s g) → IsKnownWord table g.arguments s
known_of table names same origin g (Entry k) w h = subst (λ n. g.arguments.entry < n) (many_names table names same k) h.below
known_of table names same origin g (Named k) w h = rw (many_names table names same k) at h.0
known_of table names same origin g _ w h = tt

gives_of : (origin : Origin) (names : Names) (g : Given) (s : Shape) (w : List ℕ) → Says origin names s w (slot s g) → GivesLiteral origin g s
gives_of origin names g (Named k) w h = h.1
gives_of origin names g Message w h = h.0
gives_of origin names g _ w h = tt

named_word : (names : ℕ → List ℕ) (literals : Origin → List ℕ) (origin : Origin) (literal : List ℕ) → literals origin ≡ literal → (n : NameOf ℕ) (w : List ℕ) → IsLiteral origin literal (unknown n) None → named_text names (λ o. literal) n ≡ w → named_text names literals n ≡ w
named_word names literals origin literal same (Known i) w own text = text
named_word names literals origin literal same (Unknown o) w own text = ap literals own.0 ∙ same ∙ text

module _ (origin : Origin) (names : Names) (g : Given) (literals : Origin → List ℕ) (same : literals origin ≡ g.literal) where
  text_of : (s : Shape) (w : List ℕ) → Says origin names s w (slot s g) → word_text (name_at names) literals g.arguments s ≡ w
  text_of (Entry k) w h = h.text
  text_of (Named k) w h = named_word (name_at names k) literals origin g.literal same g.arguments.named w h.1 h.2
  text_of (Number low high) w h = h.text
  text_of Timeout w h = h.text
  text_of Message w h = ap (λ o. bytes_text (literals o)) h.0.given ∙ ap bytes_text same ∙ h.1
  text_of Mode w h = h

  texts_of : (ss : List Shape) (ws : List (List ℕ)) → AllSay origin names ss ws g → map (word_text (name_at names) literals g.arguments) ss ≡ ws
  texts_of [] [] all = refl
  texts_of [] (w ∷ ws) all = absurd all
  texts_of (s ∷ ss) [] all = absurd all
  texts_of (s ∷ ss) (w ∷ ws) all = rw (text_of s w all.0, texts_of ss ws all.1) refl

-- the call of a service, by what its words say
known_call : (table : Table) (a : Arguments) (s : Service) → AllByRecursion (IsKnownWord table a) (row_of s).shapes → IsKnown table (call_of s a)
known_call table a services.SetPartitionMode h = tt
known_call table a services.GetPartitionStatus h = tt
known_call table a services.StopSelf h = tt
known_call table a services.SuspendSelf h = tt
known_call table a services.GetMyId h = tt
known_call table a services.GetMyProcessorCoreId h = tt
known_call table a services.TimedWait h = tt
known_call table a services.PeriodicWait h = tt
known_call table a services.Replenish h = tt
known_call table a services.GetTime h = tt
known_call table a services.Work h = tt
known_call table a _ h = h.0

numbers_call : (a : Arguments) (s : Service) → AllByRecursion (IsLawfulIn a) (row_of s).shapes → HasNumbersInRange (call_of s a)
numbers_call a services.InitializeProcessCoreAffinity h = h.1.0.1
numbers_call a services.SetPriority h = h.1.0.1
numbers_call a services.DelayedStart h = h.1.0
numbers_call a services.SuspendSelf h = h.0
numbers_call a services.TimedWait h = h.0
numbers_call a services.Replenish h = h.0
numbers_call a services.Work h = h.0
numbers_call a services.WaitSemaphore h = h.1.0
numbers_call a services.SendBuffer h = h.1.1.0
numbers_call a services.ReceiveBuffer h = h.1.0
numbers_call a services.ReadBlackboard h = h.1.0
numbers_call a services.WaitEvent h = h.1.0
numbers_call a services.AcquireMutex h = h.1.0
numbers_call a _ h = tt

literal_call : (origin : Origin) (g : Given) (s : Service) → AllByRecursion (GivesLiteral origin g) (row_of s).shapes → (list_any fills_literal (row_of s).shapes ≡ false → g.literal ≡ []) → IsLiteral origin g.literal (origin_of (call_of s g.arguments)) (message_in (call_of s g.arguments))
literal_call origin g services.CreateProcess h bare = h.0
literal_call origin g services.GetProcessId h bare = h.0
literal_call origin g services.CreateSemaphore h bare = h.0
literal_call origin g services.GetSemaphoreId h bare = h.0
literal_call origin g services.CreateBuffer h bare = h.0
literal_call origin g services.GetBufferId h bare = h.0
literal_call origin g services.SendBuffer h bare = h.1.0
literal_call origin g services.CreateBlackboard h bare = h.0
literal_call origin g services.GetBlackboardId h bare = h.0
literal_call origin g services.DisplayBlackboard h bare = h.1.0
literal_call origin g services.CreateEvent h bare = h.0
literal_call origin g services.GetEventId h bare = h.0
literal_call origin g services.CreateMutex h bare = h.0
literal_call origin g services.GetMutexId h bare = h.0
literal_call origin g _ h bare = bare refl

words_call : (names : Kind → ℕ → List ℕ) (literals : Origin → List ℕ) (a : Arguments) (s : Service) → call_words names literals (call_of s a) ≡ row_words names literals (row_of s) a
words_call names literals a services.SetPartitionMode = refl
words_call names literals a _ = refl

-- the row that is found has the word
found_here : (r : Row) (rest : Option Row) (word : List ℕ) (row : Row) (b : Bool) → bytes_eq r.word word ≡ b → (if b then Some r else rest) ≡ Some row → (rest ≡ Some row → row.word ≡ word) → row.word ≡ word
found_here r rest word row true same e there =
    ap (λ (r : Row). r.word) (sym (same_Some r row e)) ∙ (bytes_eq-Decides r.word word).0 same
found_here r rest word row false same e there = there e

found_word : (rs : List Row) (word : List ℕ) (row : Row) → row_in rs word ≡ Some row → row.word ≡ word
found_word [] word row e = absurd (none-some row e)
found_word (r ∷ rs) word row e = found_here r (row_in rs word) word row (bytes_eq r.word word) refl e (found_word rs word row)

-- what holds of a step that these words give
pub record IsReadStep (table : Table) (origin : Origin) (names : Names) (ws : List (List ℕ)) (step : Step) : Type 0 where
  pub lawful : IsLawfulStep table origin step
  pub words : (literals : Origin → List ℕ) → literals origin ≡ step.literal → call_words (name_at names) literals step.call ≡ ws

module _ (at : Place) (origin : Origin) (names : Names) where
  -- what the words of a row say
  row_said : (r : Row) → IsRow r → (ws : List (List ℕ)) (done : Given) → have_forms r.shapes ws ≡ true → with_words at 1 origin names nothing r.shapes ws ≡ Ok done → AllSay origin names r.shapes ws done
  row_said r own ws done forms e =
      all_said at origin names 1 r.shapes ws nothing done
      (subst (λ (r : Row). are_apart r.shapes ≡ true) own.own (apart_row r.service))
      (subst (λ (r : Row). list_all is_narrow r.shapes ≡ true) own.own (narrow_row r.service))
      (λ fills. refl) forms e

  pub in_range : (r : Row) → IsRow r → (ws : List (List ℕ)) (done : Given) → have_forms r.shapes ws ≡ true → with_words at 1 origin names nothing r.shapes ws ≡ Ok done → AllByRecursion (IsInRange done.arguments) (row_of r.service).shapes
  in_range r own ws done forms e =
      subst (λ (r : Row). AllByRecursion (IsInRange done.arguments) r.shapes) (sym own.own)
      (from_said origin names done (IsInRange done.arguments) (range_of origin names done) r.shapes ws (row_said r own ws done forms e))

  module _ (table : Table) (same : AreNamesOf table names) where
    row_law : (r : Row) → IsRow r → (ws : List (List ℕ)) (done : Given) → have_forms r.shapes ws ≡ true → with_words at 1 origin names nothing r.shapes ws ≡ Ok done → IsReadStep table origin names (r.word ∷ ws) (step_with r done)
    row_law r own ws done forms e =
        let said : AllSay origin names r.shapes ws done = row_said r own ws done forms e in
        let back : r ≡ row_of r.service = sym own.own in
        let known : AllByRecursion (IsKnownWord table done.arguments) (row_of r.service).shapes =
        subst (λ (r : Row). AllByRecursion (IsKnownWord table done.arguments) r.shapes) back
        (from_said origin names done (IsKnownWord table done.arguments) (known_of table names same origin done) r.shapes ws said) in
        let numbers : AllByRecursion (IsLawfulIn done.arguments) (row_of r.service).shapes =
        subst (λ (r : Row). AllByRecursion (IsLawfulIn done.arguments) r.shapes) back
        (from_said origin names done (IsLawfulIn done.arguments) (lawful_of origin names done) r.shapes ws said) in
        let gives : AllByRecursion (GivesLiteral origin done) (row_of r.service).shapes =
        subst (λ (r : Row). AllByRecursion (GivesLiteral origin done) r.shapes) back
        (from_said origin names done (GivesLiteral origin done) (gives_of origin names done) r.shapes ws said) in
        let bare : list_any fills_literal (row_of r.service).shapes ≡ false → done.literal ≡ [] =
        λ none. bare_literal at origin names 1 r.shapes ws nothing done (subst (λ (r : Row). list_any fills_literal r.shapes ≡ false) own.own none) e in
        record {
          lawful = record {
            known = known_call table done.arguments r.service known;
            numbers = numbers_call done.arguments r.service numbers;
            literal = literal_call origin done r.service gives bare;
          };
          words = λ literals same.
              words_call (name_at names) literals done.arguments r.service
              ∙ ap (λ (r : Row). row_words (name_at names) literals r done.arguments) own.own
              ∙ ap (λ rest. r.word ∷ rest) (texts_of origin names done literals same r.shapes ws said);
        }

    by_forms : (r : Row) → IsRow r → (ws : List (List ℕ)) (b : Bool) → have_forms r.shapes ws ≡ b → IfOk (if b then made (step_with r) (with_words at 1 origin names nothing r.shapes ws) else Err (BadStep (misfit at origin r.shapes ws))) (IsReadStep table origin names (r.word ∷ ws))
    by_forms r own ws true forms = of_words (with_words at 1 origin names nothing r.shapes ws) refl
      where
        of_words : (read : Result Given TableFault) → with_words at 1 origin names nothing r.shapes ws ≡ read → IfOk (made (step_with r) read) (IsReadStep table origin names (r.word ∷ ws))
        of_words (Ok done) e = row_law r own ws done forms e
        of_words (Err fault) e = tt
    by_forms r own ws false forms = tt

    row_step_law : (r : Row) → IsRow r → (ws : List (List ℕ)) → IfOk (row_step at origin names r ws) (IsReadStep table origin names (r.word ∷ ws))
    unfolding row_step
    row_step_law r own ws = by_forms r own ws (have_forms r.shapes ws) refl

    step_of_law : (ws : List (List ℕ)) → IfOk (step_of at origin names ws) (IsReadStep table origin names ws)
    step_of_law [] = tt
    step_of_law (service ∷ ws) =
        ok_then (some_or (BadStep (of_word at origin 0)) (row_in rows service)) _ (IsReadStep table origin names (service ∷ ws)) (λ row e.
        let found : row_in rows service ≡ Some row = some_or_ok (BadStep (of_word at origin 0)) _ row e in
        let own : IsRow row = subst (λ o. IfSome o IsRow) found (row_of_word_law service) in
        subst (λ word. IfOk (row_step at origin names row ws) (IsReadStep table origin names (word ∷ ws))) (found_word rows service row found) (row_step_law row own ws))

    pub step_law : (text : List ℕ) → IfOk (step at origin names text) (IsLawfulStep table origin)
    unfolding step
    step_law text =
        IfOk-weaker (step_of at origin names (words text)) _ _ (λ s h. h.lawful) (step_of_law (words text))

    -- the call of a step that is read, written again, is the step's text
    pub text_law : (text : List ℕ) → IfOk (step at origin names text) (λ s. (literals : Origin → List ℕ) → literals origin ≡ s.literal → spaced (call_words (name_at names) literals s.call) ≡ text)
    unfolding step
    text_law text =
        IfOk-weaker (step_of at origin names (words text)) _ _ (λ s h literals same. ap spaced (h.words literals same) ∙ join_with_byte-slice_split 32 text) (step_of_law (words text))

module _ (table : Table) (names : Names) (same : AreNamesOf table names) (at : Place) where
  pub script_law : (p : ℕ) (texts : List (List ℕ)) → IfOk (script at p names texts) (AllFrom (λ k s. IsLawfulStep table (Script p k) s) 0)
  script_law p texts =
      each_from (λ before t. step at (Script p (length before)) names t) (λ k s. IsLawfulStep table (Script p k) s) (λ t. Unit {0})
      (λ done t _. step_law at (Script p (length done)) names table same t) [] texts tt (all_any texts)

pub script_length : (at : Place) (names : Names) (p : ℕ) (texts : List (List ℕ)) → IfOk (script at p names texts) (λ steps. length steps ≡ length texts)
script_length at names p texts =
    IfOk-weaker (script at p names texts) _ _ (λ steps h. omega arith) (each_length (λ before t. step at (Script p (length before)) names t) [] texts)
