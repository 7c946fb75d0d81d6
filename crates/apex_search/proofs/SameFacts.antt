-- Deeds that are alike have the same facts.
use Rattle.std.proofs.Common.{◌≡◌, ℕ, zero, suc, ◌+◌, ◌-◌, ◌*◌, ◌<◌, ◌≤◌, Bool, true, false, List, [], ◌∷◌, length, Option, None, Some, inl, inr, refl, sym, ◌∙◌, ap, arith, min, ◌&&◌, not, is_none, is_some}
use Rattle.std.specs.Prelude.{◌⊎◌}
use Rattle.std.specs.List.{list_any}
use Rattle.std.proofs.lemmas.Bool.{le-leb}
use Rattle.apex_types.specs.Modes.{is_normal}
use Rattle.apex_types.specs.declared.calls.Call.TheVariants.{Time}
use Rattle.apex_types.specs.declared.calls.TimeCall.TheVariants.{GetTime}
use Rattle.apex_types.specs.declared.entries.Caller.TheVariants as callers
use Rattle.apex_types.specs.declared.entries.Reply.TheVariants.{Value}
use Rattle.apex_machine.specs.Deeds.{Deed}
use Rattle.apex_machine.specs.processes.Dues.{next_instant}
use Rattle.apex_machine.specs.processes.Periods.{awaits_first}
use Rattle.apex_machine.specs.processes.Roster.{Roster, record_at}
use Rattle.apex_alike.specs.Alike.{AreAlike, IsLater, ServesFor, later}
use Rattle.apex_alike.specs.AlikeSteps.{AreAlikeDeeds, later_reply}
use Rattle.apex_alike.proofs.Chains.{unmoved}
use Rattle.apex_alike.proofs.Choices.{same_chosen, same_next}
use Rattle.apex_search.specs.Facts.{has_chosen, has_fact, has_one, has_some, has_started, is_age, is_caller_aged, is_released_for, is_started, shown, some_passes, stands_still}
use Rattle.apex_questions.specs.declared.Fact.TheVariants.{Missed, HardMissed, TimedOut, Lost, Ended, Refused, Response, Standstill}
use Rattle.apex_search.specs.Terms.{Call, Caller, Fact, Mode, Notice, Question, Record, Reply}

-- some pass the one test if some pass the other
same_some : (passes also : ℕ → Bool) (n : ℕ) → ((i : ℕ) → passes i ≡ also i) → some_passes passes n ≡ some_passes also n
same_some passes also zero same = refl
same_some passes also (suc n) same = rw (same n, same_some passes also n same) refl

same_test : {X : Type 0} (test also : X → Bool) → ((x : X) → test x ≡ also x) → (xs : List X) → list_any test xs ≡ list_any also xs
same_test test also same [] = refl
same_test test also same (x ∷ xs) = rw (same x, same_test test also same xs) refl

none_later : (d : ℕ) (instant : Option ℕ) → is_none (later d instant) ≡ is_none instant
none_later d None = refl
none_later d (Some t) = refl

-- an age up to a period is the same, and any other stays above it
same_age : (ticks d now first second : ℕ) (period : Option ℕ) → first ≤ now → ServesFor d now period first second
    → is_age ticks period (now + d - second) ≡ is_age ticks period (now - first)
same_age ticks d now first second None before serves = refl
same_age ticks d now first second (Some n) before serves = by_past serves.past where
  by_past : (serves.periods ≡ 0) ⊎ (first + n < now) → is_age ticks (Some n) (now + d - second) ≡ is_age ticks (Some n) (now - first)
  by_past (inl none) =
      let same : now + d - second ≡ now - first = omega (arith, serves.is, unmoved serves.periods n none) in
      ap (is_age ticks (Some n)) same
  by_past (inr past) =
      let more : now + d - second ≡ now - first + serves.periods * n = omega (arith, serves.is, before) in
      let one : min ticks (n + 1) ≤ now - first = omega (arith, past) in
      let other : min ticks (n + 1) ≤ now + d - second = omega (arith, more, one) in
      le-leb (min ticks (n + 1)) (now + d - second) other ∙ sym (le-leb (min ticks (n + 1)) (now - first) one)

same_released_for : (ticks : ℕ) {d now : ℕ} {r s : Record} → IsLater d now r s → is_released_for ticks (now + d) s ≡ is_released_for ticks now r
same_released_for ticks {d} {now} {r} {s} is = ap (is_released_for ticks (now + d)) is.is ∙ by_cases r.started (awaits_first r.wait) refl refl where
  by_cases : (begun waits : Bool) → r.started ≡ begun → awaits_first r.wait ≡ waits
      → (r.started && not (awaits_first r.wait) && is_age ticks r.attributes.period (now + d - is.release))
      ≡ (r.started && not (awaits_first r.wait) && is_age ticks r.attributes.period (now - r.release))
  by_cases true false e f =
      ap (λ (b : Bool). r.started && not (awaits_first r.wait) && b)
      (same_age ticks d now r.release is.release r.attributes.period is.before (is.released e f))
  by_cases false waits e f = rw e refl
  by_cases true true e f = rw (e, f) refl

module _ {d : ℕ} {first second : Roster} (alike : AreAlike d first second) where
  same_aged : (ticks : ℕ) (caller : Caller) → is_caller_aged ticks second caller ≡ is_caller_aged ticks first caller
  same_aged ticks (callers.Process p) =
      ap (λ (t : ℕ). is_released_for ticks t (record_at second p)) alike.time ∙ same_released_for ticks (alike.each p)
  same_aged ticks callers.Init = refl
  same_aged ticks callers.Nobody = refl

  -- a standstill
  same_started : (p : ℕ) → is_started second p ≡ is_started first p
  same_started p = ap (λ (r : Record). r.started) (alike.each p).is

  same_has_started : (asked : Option ℕ) → has_started asked second ≡ has_started asked first
  same_has_started None =
      ap (some_passes (is_started second)) alike.many ∙ same_some (is_started second) (is_started first) (length first.records) same_started
  same_has_started (Some p) = same_started p

  same_running : some_passes (has_chosen second) second.cores ≡ some_passes (has_chosen first) first.cores
  same_running =
      ap (some_passes (has_chosen second)) alike.cores
      ∙ same_some (has_chosen second) (has_chosen first) first.cores (λ core. ap (λ (p : Option ℕ). is_some p) (same_chosen alike core))

  same_silence : is_none (next_instant second) ≡ is_none (next_instant first)
  same_silence = ap (λ (t : Option ℕ). is_none t) (same_next alike) ∙ none_later d (next_instant first)

  abbrev still : Bool → Bool → Bool → Bool → Bool
  still normal silent running started = normal && silent && not running && started

  same_standstill : (asked : Option ℕ) → stands_still asked second ≡ stands_still asked first
  same_standstill asked =
      ap (λ (m : Mode). still (is_normal m) (is_none (next_instant second)) (some_passes (has_chosen second) second.cores) (has_started asked second)) alike.mode
      ∙ ap (λ (b : Bool). still (is_normal first.mode) b (some_passes (has_chosen second) second.cores) (has_started asked second)) same_silence
      ∙ ap (λ (b : Bool). still (is_normal first.mode) (is_none (next_instant first)) b (has_started asked second)) same_running
      ∙ ap (still (is_normal first.mode) (is_none (next_instant first)) (some_passes (has_chosen first) first.cores)) (same_has_started asked)

-- the value that GET_TIME answers is no fact
no_fact : (question : Question) (caller : Caller) (call : Option Call) (t u : ℕ) (told : List Notice) (roster : Roster) (fact : Fact)
    → has_one question (shown caller call (Value t) told roster) fact ≡ has_one question (shown caller call (Value u) told roster) fact
no_fact question caller call t u told roster Missed = refl
no_fact question caller call t u told roster HardMissed = refl
no_fact question caller call t u told roster TimedOut = refl
no_fact question caller call t u told roster Lost = refl
no_fact question caller call t u told roster Ended = refl
no_fact question caller call t u told roster (Refused code) = refl
no_fact question caller call t u told roster (Response ticks) = refl
no_fact question caller call t u told roster Standstill = refl

same_reply : (d : ℕ) (question : Question) (caller : Caller) (call : Option Call) (reply : Reply) (told : List Notice) (roster : Roster) (fact : Fact)
    → has_one question (shown caller call (later_reply d call reply) told roster) fact ≡ has_one question (shown caller call reply told roster) fact
same_reply d question caller (Some (Time GetTime)) (Value t) told roster fact =
    no_fact question caller (Some (Time GetTime)) (t + d) t told roster fact
same_reply d question caller call reply told roster fact = refl

-- so it is with the processes that the deeds leave
same_left : {d : ℕ} {first second : Roster} → AreAlike d first second
    → (question : Question) (caller : Caller) (call : Option Call) (reply : Reply) (told : List Notice) (fact : Fact)
    → has_one question (shown caller call reply told second) fact ≡ has_one question (shown caller call reply told first) fact
same_left alike question caller call reply told Missed = refl
same_left alike question caller call reply told HardMissed = refl
same_left alike question caller call reply told TimedOut = refl
same_left alike question caller call reply told Lost = refl
same_left alike question caller call reply told Ended = refl
same_left alike question caller call reply told (Refused code) = refl
same_left alike question caller call reply told (Response ticks) = rw (same_aged alike ticks caller) refl
same_left alike question caller call reply told Standstill = same_standstill alike question.process

pub same_fact : {d : ℕ} {one other : Deed} → AreAlikeDeeds d one other → (question : Question) → has_fact question one ≡ has_fact question other
same_fact {d} {one} {other} alike question =
    let left = other.outcome.roster in
    sym (ap (λ (c : Caller). has_some question (shown c other.call other.outcome.reply other.outcome.notices left)) alike.caller
    ∙ ap (λ (c : Option Call). has_some question (shown one.caller c other.outcome.reply other.outcome.notices left)) alike.call
    ∙ ap (λ (r : Reply). has_some question (shown one.caller one.call r other.outcome.notices left)) alike.reply
    ∙ ap (λ (ns : List Notice). has_some question (shown one.caller one.call (later_reply d one.call one.outcome.reply) ns left)) alike.notices
    ∙ same_test _ _ (same_reply d question one.caller one.call one.outcome.reply one.outcome.notices left) question.facts
    ∙ same_test _ _ (same_left alike.rosters question one.caller one.call one.outcome.reply one.outcome.notices) question.facts)
