-- The figures of an object of a history with one entry more are the figures after that entry.
use Rattle.std.proofs.Common.{◌≡◌, ℕ, ◌+◌, ◌-◌, Bool, true, false, ◌&&◌, if◌then◌else◌, cond, List, [], ◌∷◌, ◌++◌, Option, None, Some, fold, length, map, flat_map, refl, sym, ap, ◌∙◌, append_assoc, append-nil, arith, inl, inr, option_to_list}
use Rattle.std.specs.List.{cons_option, count_by, filter, filter_map, range_with_len, sum}
use Rattle.std.specs.Option.{is_some}
use Rattle.std.proofs.lemmas.Bool.{cases_Bool}
use Rattle.std.proofs.lemmas.List.{length-drop}
use Rattle.std.proofs.lemmas.List.Elements.{filter-append}
use Rattle.std.proofs.lemmas.List.MinMax.{IsStrictWeakOrder-by_number, IsStrictWeakOrder-flip}
use Rattle.std.proofs.lemmas.List.Sums.{sum_by-append, sum_by-cons}
use Rattle.apex_types.specs.declared.entries.Notice.TheVariants.{Woken, Released, Missed}
use Rattle.apex_machine.specs.declared.records.Queue.TheVariants as queues
use Rattle.apex_machine.specs.processes.Queues.{is_queue}
use Rattle.apex_machine.specs.services.Calls.{names, sent_message}
use Rattle.apex_machine.specs.services.Satisfied.{answered_by, calls_where, is_no_error, is_satisfied, latest_call, own_call, satisfied, satisfied_by, satisfied_from}
use Rattle.apex_machine.specs.table.Table.{Table}
use Rattle.std.proofs.lemmas.List.{map-append}
use Rattle.std.proofs.lemmas.List.FromFn.{map-range_with_len_more}
use Rattle.apex_report.specs.declared.objects.Kind.{Kind}
use Rattle.apex_report.specs.Along.{along}
use Rattle.apex_report.specs.Objects.{content, given, highest, initial, is_given, is_higher, is_late, is_taken, late_by, level_by, object_figures, queue_at, queues_of, taken, timeouts}
use Rattle.apex_report.specs.ObjectSteps.{given_by, level_at, object_after, passes, passes_now, passes_then, taken_by}
use Rattle.apex_report.specs.Ownerships.{held_ticks, is_longer, longest_ownership, owner_after, owner_along, ownership_by}
use Rattle.apex_report.specs.Processes.{process_figures}
use Rattle.apex_report.specs.Steps.{one_if}
use Rattle.apex_report.specs.Terms.{Call, Entry, Level, Notice, Owner, Ownership, ProcessFigures, Queue, Waking}
use Rattle.apex_report.specs.Unbeaten.{kept}
use Rattle.apex_report.specs.Waits.{waiting, waking_by, wakings}
use Rattle.apex_report.proofs.Growth.{along_more, sum_push}
use Rattle.apex_report.proofs.Unbeaten.{unbeaten_grows}

pub count_cons : {X : Type 0} (p : X → Bool) (x : X) (xs : List X) → count_by p (x ∷ xs) ≡ one_if (p x) + count_by p xs
count_cons p x xs = sum_by-cons (λ y. cond (p y) 1 0) x xs

count_joined : {X : Type 0} (p : X → Bool) (xs ys : List X) → count_by p (xs ++ ys) ≡ count_by p xs + count_by p ys
count_joined p xs ys = sum_by-append (λ y. cond (p y) 1 0) xs ys

pub count_mapped : {X Y : Type 0} (p : Y → Bool) (f : X → Y) (xs : List X) → count_by p (map f xs) ≡ count_by (λ x. p (f x)) xs
count_mapped p f [] = refl
count_mapped p f (x ∷ xs) =
    count_cons p (f x) (map f xs) ∙ ap (λ n. one_if (p (f x)) + n) (count_mapped p f xs)
    ∙ sym (count_cons (λ y. p (f y)) x xs)

count_none : {X : Type 0} (xs : List X) → count_by (λ x. false) xs ≡ 0
count_none [] = refl
count_none (x ∷ xs) = omega (arith, count_cons (λ y. false) x xs, count_none xs)

length_kept : {X : Type 0} (x : Option X) (xs : List X) → length (cons_option x xs) ≡ one_if (is_some x) + length xs
length_kept None xs = omega arith
length_kept (Some x) xs = omega arith

length_given : {X Y : Type 0} (h : X → Option Y) (xs : List X) → length (filter_map h xs) ≡ count_by (λ x. is_some (h x)) xs
length_given h [] = refl
length_given h (x ∷ xs) =
    length_kept (h x) (filter_map h xs) ∙ ap (λ n. one_if (is_some (h x)) + n) (length_given h xs)
    ∙ sym (count_cons (λ y. is_some (h y)) x xs)

satisfied_along : (before later : List Entry) → satisfied_from before later ≡ along satisfied_by before later
satisfied_along before [] = refl
satisfied_along before (e ∷ later) = ap (λ calls. satisfied_by before e ++ calls) (satisfied_along (before ++ e ∷ []) later)

satisfied_more : (history : List Entry) (e : Entry) → satisfied (history ++ e ∷ []) ≡ satisfied history ++ satisfied_by history e
satisfied_more history e =
    satisfied_along [] (history ++ e ∷ []) ∙ along_more satisfied_by [] history e
    ∙ ap (λ calls. calls ++ satisfied_by history e) (sym (satisfied_along [] history))

-- the satisfied calls for an object that pass a test
module _ (queue : Queue) (test : Call → Bool) where
  abbrev those : List Call → ℕ
  those calls = count_by test (filter (names queue) calls)

  those_joined : (xs ys : List Call) → those (xs ++ ys) ≡ those xs + those ys
  those_joined xs ys =
      ap (count_by test) (filter-append (names queue) xs ys) ∙ count_joined test (filter (names queue) xs) (filter (names queue) ys)

  those_one : (call : Call) → those (call ∷ []) ≡ one_if (names queue call && test call)
  those_one call = elim (cases_Bool (names queue call)) [
    | inl names_it ↦ elim (cases_Bool (test call)) [ inl is ↦ rw (names_it, is) refl | inr is ↦ rw (names_it, is) refl ]
    | inr other ↦ rw other refl
  ]

  those_own : (so : Bool) (call : Option Call) → those (if so then option_to_list call else []) ≡ one_if (so && passes queue test call)
  those_own true None = refl
  those_own true (Some call) = those_one call
  those_own false call = refl

  those_then : (history : List Entry) (notices : List Notice) → those (flat_map (answered_by history) notices)
      ≡ count_by (passes_then queue test) (filter_map (waking_by history) notices)
  those_then history [] = refl
  those_then history (Woken p code ∷ notices) =
      let woken : Waking = record { process = p; code = code; call = latest_call p history } in
      omega (
        arith,
        those_joined (answered_by history (Woken p code)) (flat_map (answered_by history) notices),
        those_own (is_no_error code) (latest_call p history),
        those_then history notices,
        count_cons (passes_then queue test) woken (filter_map (waking_by history) notices),
      )
  those_then history (Released p ∷ notices) = those_then history notices
  those_then history (Missed p kind ∷ notices) = those_then history notices

  pub those_more : (history : List Entry) (e : Entry) → those (satisfied (history ++ e ∷ []))
      ≡ those (satisfied history) + one_if (passes_now queue test e) + count_by (passes_then queue test) (wakings history e)
  those_more history e =
      omega (
        arith,
        ap those (satisfied_more history e),
        those_joined (satisfied history) (satisfied_by history e),
        those_joined (own_call e) (flat_map (answered_by history) e.notices),
        those_own (is_satisfied e.reply) e.call,
        those_then history e.notices,
      )

-- what an object holds is what was put in less what was taken out
content_is : (table : Table) (queue : Queue) (history : List Entry) → content table queue history ≡ initial table queue + given queue history - taken queue history
content_is table (queues.Semaphore s) history = refl
content_is table (queues.Buffer b) history =
    let calls = calls_where (names (queues.Buffer b)) history in
    omega (
      arith,
      length-drop (taken (queues.Buffer b) history) (filter_map sent_message calls),
      length_given sent_message calls,
    )
content_is table queues.Normal history = omega (arith, count_none (calls_where (names queues.Normal) history))
content_is table (queues.Blackboard b) history = omega (arith, count_none (calls_where (names (queues.Blackboard b)) history))
content_is table (queues.EventFlag b) history = omega (arith, count_none (calls_where (names (queues.EventFlag b)) history))
content_is table (queues.Mutex b) history = omega (arith, count_none (calls_where (names (queues.Mutex b)) history))

highest_more : (count : List Entry → ℕ) (history : List Entry) (e : Entry)
    → highest count (history ++ e ∷ []) ≡ kept is_higher (highest count history) (level_at e (count (history ++ e ∷ [])))
highest_more count history e =
    rw (along_more (level_by count) [] history e)
    (unbeaten_grows is_higher
    (IsStrictWeakOrder-flip (λ (first second : Level). is_higher second first) (IsStrictWeakOrder-by_number (λ (l : Level). l.count)))
    (along (level_by count) [] history) (level_at e (count (history ++ e ∷ [])) ∷ []))

pub owner_more : (queue : Queue) (before later : List Entry) (e : Entry) (owner : Option Owner)
    → owner_along queue before (later ++ e ∷ []) owner
    ≡ owner_after queue e (wakings (before ++ later) e) (owner_along queue before later owner)
owner_more queue before [] e owner = rw (append-nil before) refl
owner_more queue before (x ∷ later) e owner =
    let after = owner_after queue x (wakings before x) owner in
    owner_more queue (before ++ x ∷ []) later e after
    ∙ ap (λ h. owner_after queue e (wakings h e) (owner_along queue (before ++ x ∷ []) later after)) (append_assoc before (x ∷ []) later)

longest_more : (queue : Queue) (history : List Entry) (e : Entry)
    → longest_ownership queue (history ++ e ∷ [])
    ≡ fold (kept is_longer) (longest_ownership queue history) (ownership_by queue history e)
longest_more queue history e =
    rw (along_more (ownership_by queue) [] history e)
    (unbeaten_grows is_longer
    (IsStrictWeakOrder-flip (λ (first second : Ownership). is_longer second first) (IsStrictWeakOrder-by_number held_ticks))
    (along (ownership_by queue) [] history) (ownership_by queue history e))

given_more : (queue : Queue) (history : List Entry) (e : Entry)
    → given queue (history ++ e ∷ [])
    ≡ given queue history + given_by queue e (wakings history e)
given_more queue history e = omega (arith, those_more queue (is_given queue) history e)

taken_more : (queue : Queue) (history : List Entry) (e : Entry)
    → taken queue (history ++ e ∷ [])
    ≡ taken queue history + taken_by queue e (wakings history e)
taken_more queue history e = omega (arith, those_more queue (is_taken queue) history e)

timeouts_more : (queue : Queue) (history : List Entry) (e : Entry)
    → timeouts queue (history ++ e ∷ []) ≡ timeouts queue history + count_by (is_late queue) (wakings history e)
timeouts_more queue history e =
    ap sum (along_more (late_by queue) [] history e)
    ∙ sum_push (along (late_by queue) [] history) (count_by (is_late queue) (wakings history e))

pub object_grows : (table : Table) (history : List Entry) (e : Entry) (queue : Queue)
    → object_figures table (history ++ e ∷ []) queue
    ≡ object_after e (wakings history e)
    (map (process_figures (history ++ e ∷ [])) (range_with_len 0 (length table.processes)))
    (object_figures table history queue)
object_grows table history e queue =
    let more = history ++ e ∷ [] in
    rw (
      highest_more (content table queue) history e,
      highest_more (waiting (length table.processes) queue) history e,
      content_is table queue more,
      given_more queue history e,
      taken_more queue history e,
      timeouts_more queue history e,
      count_mapped (λ (f : ProcessFigures). is_queue queue f.waits_in) (process_figures more) (range_with_len 0 (length table.processes)),
      owner_more queue [] history e None,
      longest_more queue history e,
    )
    refl

-- one object more of a kind
pub queues_more : {X : Type 0} (f : Queue → X) (kind : Kind) (n : ℕ)
    → map f (queues_of kind (n + 1)) ≡ map f (queues_of kind n) ++ f (queue_at kind n) ∷ []
queues_more f kind n =
    ap (map f) (map-range_with_len_more (queue_at kind) 0 n n (omega arith))
    ∙ map-append f (map (queue_at kind) (range_with_len 0 n)) (queue_at kind n ∷ [])

-- the figures of the objects of each kind, one kind behind the other
pub kinds_joined : {X : Type 0} (f : Queue → X) (a b c d e : List Queue)
    → map f (a ++ b ++ c ++ d ++ e) ≡ map f a ++ map f b ++ map f c ++ map f d ++ map f e
kinds_joined f a b c d e =
    rw (map-append f (a ++ b ++ c ++ d) e, map-append f (a ++ b ++ c) d, map-append f (a ++ b) c, map-append f a b) refl
