-- The highest levels of an object are at least those after the last entry.
use Rattle.std.proofs.Common.{◌≡◌, ℕ, ◌≤◌, Bool, true, false, ◌||◌, if◌then◌else◌, List, [], ◌∷◌, Option, None, Some, map, refl, sym, ap, ◌∙◌, arith}
use Rattle.std.specs.List.{AllByRecursion}
use Rattle.std.specs.Option.{is_none}
use Rattle.std.proofs.lemmas.Bool.{le-ltb, ltb-false, true≢false}
use Rattle.apex_types.specs.declared.entries.Reply.TheVariants.{Blocked}
use Rattle.apex_machine.specs.processes.Queues.{is_queue}
use Rattle.apex_machine.specs.services.Callers.{is_by_process}
use Rattle.apex_report.specs.Concerned.{IsAtMost, IsLevel, IsSettled}
use Rattle.apex_report.specs.Jobs.{stops}
use Rattle.apex_report.specs.Objects.{is_about, is_higher}
use Rattle.apex_report.specs.ObjectSteps.{content_after, level_at, object_after, waiters_among}
use Rattle.apex_report.specs.Steps.{one_if, process_after}
use Rattle.apex_report.specs.Terms.{Call, Entry, Level, ObjectFigures, ProcessFigures, Queue, Reply, Waking}
use Rattle.apex_report.specs.Unbeaten.{kept}
use Rattle.apex_report.specs.Waits.{is_woken, queue_joined}
use Rattle.apex_report.proofs.Bounds.{all_weaker}
use Rattle.apex_report.proofs.ObjectGrowth.{count_cons}

above_by : (b x : Level) (higher : Bool) → is_higher x b ≡ higher → x.count ≤ (if higher then x else b).count
above_by b x true is = omega arith
above_by b x false is = ltb-false b.count x.count is

-- the level that is kept is at least the new one
kept_above : (o : Option Level) (x : Level) → IsAtMost x.count (kept is_higher o x)
kept_above None x = omega arith
kept_above (Some b) x = above_by b x (is_higher x b) refl

-- a level that is not above the one before is not kept
pub kept_lower : (o : Option Level) (x : Level) → is_none o ≡ false → IsAtMost x.count o → kept is_higher o x ≡ o
kept_lower None x present most = absurd (true≢false present)
kept_lower (Some b) x present most = ap (λ higher. Some (if higher then x else b)) (le-ltb b.count x.count most)

settled_after : (e : Entry) (woken : List Waking) (processes : List ProcessFigures) (f : ObjectFigures)
    → IsSettled processes (object_after e woken processes f)
settled_after e woken processes f = record {
  content = kept_above f.greatest (level_at e (content_after e woken f));
  queue = kept_above f.longest_queue (level_at e (waiters_among f.object processes));
}

pub settled_more : (e : Entry) (woken : List Waking) (processes : List ProcessFigures) (fs : List ObjectFigures)
    → AllByRecursion (IsSettled processes) (map (object_after e woken processes) fs)
settled_more e woken processes [] = tt
settled_more e woken processes (f ∷ fs) = (settled_after e woken processes f, settled_more e woken processes fs)

-- the caller joins no queue but that of the object which its call names
joined_none : (queue : Queue) (call : Option Call) (reply : Reply) → is_about queue call ≡ false
    → is_queue queue (queue_joined call reply) ≡ false
joined_none queue None reply fails = refl
joined_none queue (Some call) Blocked fails = fails
joined_none queue (Some call) _ fails = refl

waited_before : (queue : Queue) (ended own : Bool) (joined before : Option Queue) → is_queue queue joined ≡ false
    → is_queue queue (if ended then None else if own then joined else before) ≡ true → is_queue queue before ≡ true
waited_before queue true own joined before fails is = absurd (true≢false (sym is))
waited_before queue false true joined before fails is = absurd (true≢false (sym is ∙ fails))
waited_before queue false false joined before fails is = is

one_fewer : (a b : Bool) → (a ≡ true → b ≡ true) → one_if a ≤ one_if b
one_fewer true true so = omega arith
one_fewer true false so = absurd (true≢false (sym (so refl)))
one_fewer false true so = omega arith
one_fewer false false so = omega arith

module _ (queue : Queue) (e : Entry) (other : is_about queue e.call ≡ false) where
  abbrev waits : ProcessFigures → Bool
  waits f = is_queue queue f.waits_in

  -- fails process begins to wait for an object that the call does not name
  fewer : (fs : List ProcessFigures) → waiters_among queue (map (process_after e) fs) ≤ waiters_among queue fs
  fewer [] = omega arith
  fewer (f ∷ fs) =
      let p = f.process in
      let one = one_fewer (waits (process_after e f)) (waits f)
      (waited_before queue (is_woken p e || stops p e) (is_by_process p e.process) (queue_joined e.call e.reply) f.waits_in
      (joined_none queue e.call e.reply other)) in
      omega (arith, one, fewer fs, count_cons waits f fs, count_cons waits (process_after e f) (map (process_after e) fs))

less_at_most : (m n : ℕ) (o : Option Level) → m ≤ n → IsAtMost n o → IsAtMost m o
less_at_most m n None le most = tt
less_at_most m n (Some b) le most = omega (arith, le, most)

pub level_of : (e : Entry) (processes : List ProcessFigures) (f : ObjectFigures) → IsSettled processes f
    → IsLevel e (map (process_after e) processes) f
level_of e processes f settled = record {
  content = settled.content;
  queue = λ other. less_at_most _ _ f.longest_queue (fewer f.object e other processes) settled.queue;
}

pub levels_of : (e : Entry) (processes : List ProcessFigures) (fs : List ObjectFigures)
    → AllByRecursion (IsSettled processes) fs → AllByRecursion (IsLevel e (map (process_after e) processes)) fs
levels_of e processes fs all = all_weaker (IsSettled processes) (IsLevel e (map (process_after e) processes)) (level_of e processes) fs all
