-- An entry leaves the figures of an object that it does not concern as they are.
use Rattle.std.proofs.Common.{◌≡◌, ℕ, ◌+◌, ◌-◌, Bool, true, false, ◌&&◌, ◌||◌, nat_le, not, if◌then◌else◌, List, [], ◌∷◌, Option, None, Some, fold, option_map, option_to_list, refl, sym, ap, ◌∙◌, arith}
use Rattle.std.specs.List.{count_by, list_any}
use Rattle.std.specs.Option.{is_none, option_or}
use Rattle.std.proofs.lemmas.Bool.{true≢false}
use Rattle.apex_machine.specs.services.Calls.{names}
use Rattle.apex_machine.specs.services.Satisfied.{is_accepted, is_no_error, is_satisfied}
use Rattle.apex_report.specs.Concerned.{is_awaited, is_object_concerned, is_owner_stopped, waited_for, IsAtMost, IsLevel}
use Rattle.apex_report.specs.Objects.{is_about, is_given, is_higher, is_late, is_taken}
use Rattle.apex_report.specs.ObjectSteps.{level_at, object_after, passes, passes_then, waiters_among}
use Rattle.apex_report.specs.Ownerships.{acquires, calling, ended_with, heir, heir_after, inherits, is_acquire, is_acquired, is_longer, is_release, is_released, is_stopped, next_owner, owner_after, owner_from, releases_mutex}
use Rattle.apex_report.specs.Processes.{is_timed_out}
use Rattle.apex_report.specs.Steps.{one_if}
use Rattle.apex_report.specs.Terms.{Call, Entry, Level, ObjectFigures, Owner, Ownership, ProcessFigures, Queue, Waking}
use Rattle.apex_report.specs.Unbeaten.{kept}
use Rattle.apex_report.proofs.Settled.{kept_lower}
use Rattle.apex_report.proofs.Tests.{count_of_none, each_of_five, left_fails, middle_fails, or_left, or_right, right_fails}

module _ (queue : Queue) where
  no_pass : (test : Call → Bool) (call : Option Call) → is_about queue call ≡ false → passes queue test call ≡ false
  no_pass test None fails = refl
  no_pass test (Some call) fails = left_fails (names queue call) (test call) fails

  no_acquire : (call : Option Call) → is_about queue call ≡ false → acquires queue call ≡ false
  no_acquire None fails = refl
  no_acquire (Some call) fails = left_fails (names queue call) (is_acquire call) fails

  no_release : (call : Option Call) → is_about queue call ≡ false → releases_mutex queue call ≡ false
  no_release None fails = refl
  no_release (Some call) fails = left_fails (names queue call) (is_release call) fails

  not_then : (test : Call → Bool) (w : Waking) → waited_for queue w ≡ false → passes_then queue test w ≡ false
  not_then test w fails = right_fails (is_no_error w.code) (passes queue test w.call) (no_pass test w.call fails)

  not_late : (w : Waking) → waited_for queue w ≡ false → is_late queue w ≡ false
  not_late w fails = right_fails (is_timed_out w.code) (is_about queue w.call) fails

  no_heir : (e : Entry) (before : Option ℕ) (woken : List Waking) → list_any (waited_for queue) woken ≡ false
      → fold (heir_after queue e) before woken ≡ before
  no_heir e before [] fails = refl
  no_heir e before (w ∷ ws) fails =
      let out : inherits queue e w ≡ false =
      middle_fails (is_no_error w.code) (acquires queue w.call) (not (is_stopped w.process e))
      (no_acquire w.call (or_left (waited_for queue w) (list_any (waited_for queue) ws) fails)) in
      ap (λ so. fold (heir_after queue e) (if so then Some w.process else before) ws) out
      ∙ no_heir e before ws (or_right (waited_for queue w) (list_any (waited_for queue) ws) fails)

-- an owner who neither acquires nor releases the mutex, and is not stopped, keeps it
module _ (owner : Owner) where
  owner_stays : (acquired released stopped low : Bool) (next : Option Owner) → acquired ≡ false → released ≡ false
      → stopped ≡ false → (if released && low || stopped then next else Some (record owner {
        depth = if acquired then owner.depth + 1 else if released then owner.depth - 1 else owner.depth;
      })) ≡ Some owner
  owner_stays true released stopped low next a b c = absurd (true≢false a)
  owner_stays false true stopped low next a b c = absurd (true≢false b)
  owner_stays false false true low next a b c = absurd (true≢false c)
  owner_stays false false false low next a b c = refl

no_end : (released stopped low : Bool) (ended : Option Ownership) → released ≡ false → stopped ≡ false
    → (if released && low || stopped then ended else None) ≡ None
no_end true stopped low ended a b = absurd (true≢false a)
no_end false true low ended a b = absurd (true≢false b)
no_end false false low ended a b = refl

no_next : (e : Entry) (acquired : Bool) (caller heir : Option ℕ) → acquired ≡ false → heir ≡ None
    → option_map (owner_from e) (option_or (if acquired then caller else None) heir) ≡ None
no_next e true caller heir a b = absurd (true≢false a)
no_next e false caller heir a b = rw b refl

owner_kept : (queue : Queue) (e : Entry) (woken : List Waking) (owner : Option Owner) → is_about queue e.call ≡ false
    → list_any (waited_for queue) woken ≡ false → is_owner_stopped owner e ≡ false → owner_after queue e woken owner ≡ owner
owner_kept queue e woken None other unawaited fails =
    no_next e (is_acquired queue e) (calling e.process) (heir queue e woken)
    (left_fails (acquires queue e.call) (is_accepted e.reply) (no_acquire queue e.call other))
    (no_heir queue e None woken unawaited)
owner_kept queue e woken (Some owner) other unawaited fails =
    owner_stays owner (is_acquired queue e) (is_released queue e) (is_stopped owner.process e) (nat_le owner.depth 1)
    (option_map (owner_from e) (next_owner queue e woken))
    (left_fails (acquires queue e.call) (is_accepted e.reply) (no_acquire queue e.call other))
    (left_fails (releases_mutex queue e.call) (is_accepted e.reply) (no_release queue e.call other)) fails

ended_none : (queue : Queue) (e : Entry) (owner : Option Owner) → is_about queue e.call ≡ false
    → is_owner_stopped owner e ≡ false → ended_with queue e owner ≡ None
ended_none queue e None other fails = refl
ended_none queue e (Some owner) other fails =
    no_end (is_released queue e) (is_stopped owner.process e) (nat_le owner.depth 1) _
    (left_fails (releases_mutex queue e.call) (is_accepted e.reply) (no_release queue e.call other)) fails

-- what passes neither now nor then
module _ (queue : Queue) (test : Call → Bool) (e : Entry) (woken : List Waking) (other : is_about queue e.call ≡ false)
    (unawaited : list_any (waited_for queue) woken ≡ false) where
  none_passes : (n : ℕ) → n + (one_if (is_satisfied e.reply && passes queue test e.call) + count_by (passes_then queue test) woken) ≡ n
  none_passes n =
      ap (λ so. n + (one_if so + count_by (passes_then queue test) woken))
      (right_fails (is_satisfied e.reply) (passes queue test e.call) (no_pass queue test e.call other))
      ∙ omega (arith, count_of_none (waited_for queue) (passes_then queue test) (not_then queue test) woken unawaited)

same_object : (f : ObjectFigures) (g t l : ℕ) (h q : Option Level) (o : Option Owner) (s : Option Ownership)
    → g ≡ f.given → t ≡ f.taken → h ≡ f.greatest → q ≡ f.longest_queue → l ≡ f.timeouts → o ≡ f.owner → s ≡ f.longest_ownership
    → record f { given = g; taken = t; greatest = h; longest_queue = q; timeouts = l; owner = o; longest_ownership = s } ≡ f
same_object f g t l h q o s is_g is_t is_h is_q is_l is_o is_s = rw (is_g, is_t, is_h, is_q, is_l, is_o, is_s) refl

late_kept : (queue : Queue) (woken : List Waking) (n : ℕ) → list_any (waited_for queue) woken ≡ false
    → n + count_by (is_late queue) woken ≡ n
late_kept queue woken n unawaited = omega (arith, count_of_none (waited_for queue) (is_late queue) (not_late queue) woken unawaited)

greatest_kept : (e : Entry) (initial given taken more less : ℕ) (highest : Option Level) → is_none highest ≡ false
    → IsAtMost (initial + given - taken) highest → more ≡ given → less ≡ taken
    → kept is_higher highest (level_at e (initial + more - less)) ≡ highest
greatest_kept e initial given taken more less highest present most is_more is_less =
    rw (is_more, is_less) (kept_lower highest (level_at e (initial + given - taken)) present most)

kept_object : (e : Entry) (woken : List Waking) (processes : List ProcessFigures) (f : ObjectFigures)
    → IsLevel e processes f → is_object_concerned e woken f ≡ false → object_after e woken processes f ≡ f
kept_object e woken processes f level fails =
    let queue = f.object in
    let of = each_of_five (is_none f.greatest) (is_none f.longest_queue) (is_about queue e.call) (is_awaited queue woken)
    (is_owner_stopped f.owner e) fails in
    let other = of.2 in
    let unawaited = of.3 in
    let stays = of.4 in
    let given = none_passes queue (is_given queue) e woken other unawaited f.given in
    let taken = none_passes queue (is_taken queue) e woken other unawaited f.taken in
    same_object f _ _ _ _ _ _ _ given taken
    (greatest_kept e f.initial f.given f.taken _ _ f.greatest of.0 level.content given taken)
    (kept_lower f.longest_queue (level_at e (waiters_among queue processes)) of.1 (level.queue other))
    (late_kept queue woken f.timeouts unawaited)
    (owner_kept queue e woken f.owner other unawaited stays)
    (ap (λ ended. fold (kept is_longer) f.longest_ownership (option_to_list ended)) (ended_none queue e f.owner other stays))

pub object_kept : (e : Entry) (woken : List Waking) (processes : List ProcessFigures) (f : ObjectFigures)
    → IsLevel e processes f → is_object_concerned e woken f ≡ false → f ≡ object_after e woken processes f
object_kept e woken processes f level fails = sym (kept_object e woken processes f level fails)
