-- An entry leaves the figures of a process that it does not concern as they are.
use Rattle.std.proofs.Common.{◌≡◌, ℕ, ◌+◌, Bool, true, false, ◌||◌, ◌==◌, if◌then◌else◌, Option, None, Some, fold, length, option_to_list, refl, sym, ap, ◌∙◌, ◌&&◌}
use Rattle.std.specs.List.{list_any}
use Rattle.std.proofs.lemmas.Bool.{true≢false}
use Rattle.apex_types.specs.declared.entries.Notice.TheVariants.{Woken, Released, Missed}
use Rattle.apex_types.specs.declared.modes.DeadlineType.TheVariants.{Hard, Soft}
use Rattle.apex_machine.specs.services.Callers.{is_by_process}
use Rattle.apex_report.specs.Concerned.{is_concerned, is_for}
use Rattle.apex_report.specs.Cores.{is_done, is_lost, units}
use Rattle.apex_report.specs.Jobs.{completes, ended_open, ends_own_job, is_hard_miss_of, is_release_of, is_stop_of, misses_hard, releases, stops}
use Rattle.apex_report.specs.JobFigures.{faster, slower}
use Rattle.apex_report.specs.Processes.{is_done_by, is_lost_by, is_miss_of, is_timed_out, is_timeout_of, is_turn_of_process, misses, times_out}
use Rattle.apex_report.specs.Steps.{one_if, process_after, refusals_with, with_own, with_turn}
use Rattle.apex_report.specs.Terms.{Entry, JobFigures, Notice, ProcessFigures, Queue, Refusals, Reply}
use Rattle.apex_report.specs.Unbeaten.{kept}
use Rattle.apex_report.specs.Waits.{is_woken, is_woken_by, queue_joined}
use Rattle.apex_report.proofs.Tests.{each_of_three, left_fails, no_units, none_more, none_of, or_fails, plus_zero}

miss_for : (p : ℕ) (n : Notice) → is_for p n ≡ false → is_miss_of p n ≡ false
miss_for p (Missed q kind) fails = fails
miss_for p (Woken q code) fails = refl
miss_for p (Released q) fails = refl

timeout_for : (p : ℕ) (n : Notice) → is_for p n ≡ false → is_timeout_of p n ≡ false
timeout_for p (Woken q code) fails = left_fails (p == q) (is_timed_out code) fails
timeout_for p (Missed q kind) fails = refl
timeout_for p (Released q) fails = refl

release_for : (p : ℕ) (n : Notice) → is_for p n ≡ false → is_release_of p n ≡ false
release_for p (Released q) fails = fails
release_for p (Woken q code) fails = refl
release_for p (Missed q kind) fails = refl

hard_for : (p : ℕ) (n : Notice) → is_for p n ≡ false → is_hard_miss_of p n ≡ false
hard_for p (Missed q Hard) fails = fails
hard_for p (Missed q Soft) fails = refl
hard_for p (Woken q code) fails = refl
hard_for p (Released q) fails = refl

woken_for : (p : ℕ) (n : Notice) → is_for p n ≡ false → is_woken_by p n ≡ false
woken_for p (Woken q code) fails = fails
woken_for p (Released q) fails = refl
woken_for p (Missed q kind) fails = refl

same_refusals : (r : Refusals) (a b c d e : ℕ) → a ≡ r.no_action → b ≡ r.not_available → c ≡ r.invalid_param
    → d ≡ r.invalid_config → e ≡ r.invalid_mode
    → record { no_action = a; not_available = b; invalid_param = c; invalid_config = d; invalid_mode = e } ≡ r
same_refusals r a b c d e is_a is_b is_c is_d is_e = rw (is_a, is_b, is_c, is_d, is_e) refl

pub refusals_kept : (so : Bool) (reply : Reply) (r : Refusals) → so ≡ false → refusals_with so reply r ≡ r
refusals_kept true reply r fails = absurd (true≢false fails)
refusals_kept false reply r fails =
    same_refusals r _ _ _ _ _ (plus_zero r.no_action) (plus_zero r.not_available) (plus_zero r.invalid_param)
    (plus_zero r.invalid_config) (plus_zero r.invalid_mode)

-- the jobs after an entry by whether it releases, completes and stops one
abbrev jobs_by : Bool → Bool → Bool → JobFigures → Entry → JobFigures
jobs_by released completed stopped f e =
    let done = option_to_list (ended_open completed f.open_since e) in record {
      releases = f.releases + one_if released;
      completions = f.completions + length done;
      stops = f.stops + length (option_to_list (ended_open stopped f.open_since e));
      open_since = if released then Some e.now else if completed || stopped then None else f.open_since;
      best = fold (kept faster) f.best done;
      worst = fold (kept slower) f.worst done;
    }

same_jobs : (f : JobFigures) (a b c : ℕ) → a ≡ f.releases → b ≡ f.completions → c ≡ f.stops
    → record f { releases = a; completions = b; stops = c } ≡ f
same_jobs f a b c is_a is_b is_c = rw (is_a, is_b, is_c) refl

jobs_kept : (released completed stopped : Bool) (f : JobFigures) (e : Entry) → released ≡ false → completed ≡ false
    → stopped ≡ false → jobs_by released completed stopped f e ≡ f
jobs_kept true completed stopped f e a b c = absurd (true≢false a)
jobs_kept false true stopped f e a b c = absurd (true≢false b)
jobs_kept false false true f e a b c = absurd (true≢false c)
jobs_kept false false false f e a b c =
    same_jobs f _ _ _ (plus_zero f.releases) (plus_zero f.completions) (plus_zero f.stops)

wait_kept : (woken stopped own : Bool) (joined before : Option Queue) → woken ≡ false → stopped ≡ false → own ≡ false
    → (if woken || stopped then None else if own then joined else before) ≡ before
wait_kept true stopped own joined before a b c = absurd (true≢false a)
wait_kept false true own joined before a b c = absurd (true≢false b)
wait_kept false false true joined before a b c = absurd (true≢false c)
wait_kept false false false joined before a b c = refl

same_process : (f : ProcessFigures) (t m o d l : ℕ) (r : Refusals) (j : JobFigures) (w : Option Queue)
    → t ≡ f.turns → m ≡ f.misses → o ≡ f.timeouts → d ≡ f.work_done → l ≡ f.work_lost → r ≡ f.refusals → j ≡ f.jobs
    → w ≡ f.waits_in
    → record f { turns = t; misses = m; timeouts = o; work_done = d; work_lost = l; refusals = r; jobs = j; waits_in = w } ≡ f
same_process f t m o d l r j w is_t is_m is_o is_d is_l is_r is_j is_w =
    rw (is_t, is_m, is_o, is_d, is_l, is_r, is_j, is_w) refl

kept_process : (e : Entry) (f : ProcessFigures) → is_concerned f.process e ≡ false → process_after e f ≡ f
kept_process e f fails =
    let p = f.process in
    let of = each_of_three (is_by_process p e.process) (list_any (is_for p) e.notices) (is_stop_of p e.call e.reply) fails in
    let own = of.0 in
    let noticed = of.1 in
    let stopped : stops p e ≡ false =
    or_fails (is_stop_of p e.call e.reply) (misses_hard p e) of.2 (none_of (is_for p) (is_hard_miss_of p) (hard_for p) e.notices noticed) in
    let done = left_fails (is_by_process p e.process) (is_done e.reply) own in
    let lost = left_fails (is_by_process p e.process) (is_lost e.reply) own in
    let completed = left_fails (is_by_process p e.process) (ends_own_job e.call e.reply) own in
    let woken = none_of (is_for p) (is_woken_by p) (woken_for p) e.notices noticed in
    same_process f _ _ _ _ _ _ _ _
    (none_more f.turns (is_turn_of_process p e) own)
    (none_more f.misses (misses p e) (none_of (is_for p) (is_miss_of p) (miss_for p) e.notices noticed))
    (none_more f.timeouts (times_out p e) (none_of (is_for p) (is_timeout_of p) (timeout_for p) e.notices noticed))
    (no_units f.work_done (is_done_by p e) (units e.call) done)
    (no_units f.work_lost (is_lost_by p e) (units e.call) lost)
    (refusals_kept (is_turn_of_process p e) e.reply f.refusals own)
    (jobs_kept (releases p e) (completes p e) (stops p e) f.jobs e
    (none_of (is_for p) (is_release_of p) (release_for p) e.notices noticed) completed stopped)
    (wait_kept (is_woken p e) (stops p e) (is_by_process p e.process) (queue_joined e.call e.reply) f.waits_in woken stopped own)

pub process_kept : (e : Entry) (f : ProcessFigures) → is_concerned f.process e ≡ false → f ≡ process_after e f
process_kept e f fails = sym (kept_process e f fails)

same_turn : (f : ProcessFigures) (t d l : ℕ) (r : Refusals) → t ≡ f.turns → d ≡ f.work_done → l ≡ f.work_lost → r ≡ f.refusals
    → record f { turns = t; work_done = d; work_lost = l; refusals = r } ≡ f
same_turn f t d l r is_t is_d is_l is_r = rw (is_t, is_d, is_l, is_r) refl

-- the turn of another process
pub other_turn : (e : Entry) (f : ProcessFigures) → is_by_process f.process e.process ≡ false → f ≡ with_turn e f
other_turn e f fails =
    let p = f.process in
    sym (same_turn f _ _ _ _ (none_more f.turns (is_turn_of_process p e) fails)
    (no_units f.work_done (is_done_by p e) (units e.call) (left_fails (is_by_process p e.process) (is_done e.reply) fails))
    (no_units f.work_lost (is_lost_by p e) (units e.call) (left_fails (is_by_process p e.process) (is_lost e.reply) fails))
    (refusals_kept (is_turn_of_process p e) e.reply f.refusals fails))

abbrev turn_by : Bool → Entry → ProcessFigures → ProcessFigures
turn_by so e f = record f {
  turns = f.turns + one_if so;
  work_done = f.work_done + (if so && is_done e.reply then units e.call else 0);
  work_lost = f.work_lost + (if so && is_lost e.reply then units e.call else 0);
  refusals = refusals_with so e.reply f.refusals;
}

-- the process's own turn
pub own_turn : (e : Entry) (f : ProcessFigures) (amount : ℕ) → is_by_process f.process e.process ≡ true → amount ≡ units e.call
    → with_own e.reply amount f ≡ with_turn e f
own_turn e f amount own is = ap (λ n. with_own e.reply n f) is ∙ ap (λ so. turn_by so e f) (sym own)
