-- The closed history of a run has the entries that each worker has made.
use Rattle.std.proofs.Common.{◌≡◌, ℕ, suc, ◌<◌, ◌≤◌, Bool, true, false, List, [], ◌∷◌, length, slice_index_or, refl, ap, sym, subst, ◌∙◌, inl, inr, arith}
use Rattle.std.specs.Prelude.{All}
use Rattle.std.specs.List.{AllByRecursion}
use Rattle.apex_machine.specs.table.Table.{Table}
use Rattle.apex_types.specs.declared.entries.Entry.{Entry}
use Rattle.apex_types.specs.declared.entries.Who.{Who}
use Rattle.apex_types.specs.declared.entries.Who.TheVariants.{Core, Ticker}
use Rattle.apex_receipts.specs.Receipts.{Spoken, count_who, unspoken}
use Rattle.apex_partition.specs.Seats.{IsOneOf, IsRun, IsSettled}
use Rattle.apex_cores.specs.Plans.{HasNoOthers, IsRunByThreads, plan_of}
use Rattle.apex_cores.specs.Runs.{HasRun, IsTickOfOne}
use Rattle.apex_cores.specs.Threads.{HasWorked, HaveWorked}
use Rattle.apex_cores.specs.declared.plans.RunPlan.{RunPlan}
use Rattle.apex_cores.proofs.Counting.{IsWorked, is_done, is_full, stays_within}
use Rattle.apex_cores.proofs.Counting as counting
use Rattle.apex_cores.proofs.Rows.{each_at}

-- a property of all by their places, one after the other
pub one_by_one : (Q : Entry → Type 0) (es : List Entry) → All Q es → AllByRecursion Q es
one_by_one Q [] all = tt
one_by_one Q (e ∷ es) all = (all 0 e (omega arith), one_by_one Q es (λ k d below. all (suc k) d (omega (arith, below))))

-- the history has as many entries of a worker as the worker has made
pub worked_in : (table : Table) (history : List Entry) (who : Who) (seat : Spoken) (wanted made : ℕ) (full : Bool)
    → IsSettled table history who seat → HasRun (unspoken who) wanted seat made full
    → IsWorked wanted table.limit history (count_who who history)
worked_in table history who seat wanted made full settled ran = at full refl where
  same : count_who who history ≡ made
  same = ap length settled.own ∙ (ap length ran.made.own ∙ ran.counted)

  at : (b : Bool) → full ≡ b → IsWorked wanted table.limit history (count_who who history)
  at true is = let cut = ran.stopped.cut is in record { few = omega (arith, same, cut.0); whole = inr (settled.told cut.1) }
  at false is = let whole = ran.stopped.whole is in record { few = omega (arith, same, whole.0); whole = inl (same ∙ whole.0) }

-- the facts at the close of a run about its history, and about the seats that the workers gave back
pub record HasClosed (table : Table) (history : List Entry) (seats : List Spoken) (last : Spoken) : Type 0 where
  pub run : IsRun table history
  pub room : length history ≤ table.limit
  pub others : HasNoOthers table.cores history
  pub settled : (core : ℕ) (d : Spoken) → core < length seats → IsSettled table history (Core core) (slice_index_or seats core d)
  pub ticker : IsSettled table history Ticker last

all_worked : (table : Table) (plan : RunPlan) (history : List Entry) (seats : List Spoken) (last : Spoken)
    → HasClosed table history seats last → HaveWorked plan table.cores seats last
    → counting.HaveWorked (plan_of table.cores plan) table.limit history
all_worked table plan history seats last closed worked = record {
  planned_only = one_by_one (λ (e : Entry). IsOneOf table.cores e.who) history closed.others;
  room = closed.room;
  cores = λ i below.
      let within : i < length seats = omega (arith, worked.each, below) in
      let seat = slice_index_or seats i last in
      let here : HasWorked plan.turns i seat =
      subst (λ (k : ℕ). HasWorked plan.turns k seat) (omega arith) (each_at (HasWorked plan.turns) 0 seats i last worked.cores within) in
      worked_in table history (Core i) seat plan.turns here.made here.full (closed.settled i last within) here.ran;
  ticker = worked_in table history Ticker last plan.ticks worked.ticker.made worked.ticker.full closed.ticker worked.ticker.ran.ran;
}

-- so the history is one that threads make of the table
pub by_threads : (table : Table) (plan : RunPlan) (history : List Entry) (seats : List Spoken) (last : Spoken)
    → HasClosed table history seats last → HaveWorked plan table.cores seats last
    → IsRunByThreads table (plan_of table.cores plan) history
by_threads table plan history seats last closed worked =
    let all = all_worked table plan history seats last closed worked in record {
      run = closed.run;
      ticks = subst (λ (es : List Entry). All IsTickOfOne es) (sym (closed.ticker.own ∙ worked.ticker.ran.ran.made.own)) worked.ticker.ran.ones;
      others = closed.others;
      done = is_done (plan_of table.cores plan) table.limit history all;
      full = is_full (plan_of table.cores plan) table.limit history all;
      few = stays_within (plan_of table.cores plan) table.limit history all;
    }
