use Rattle.std.proofs.Common.{◌≡◌, ◌<◌, ◌∙◌, Bool, true, false, Option, None, cond, nat_lt, refl, inl, inr, arith}
use Rattle.std.proofs.lemmas.Bool.{cases_lt, lt-ltb}
use Rattle.std.proofs.lemmas.List.{get_or_past}
use Rattle.apex_laws.specs.Terms.{OpenWork}
use Rattle.apex_dispatch.specs.Works.{work_at}
use Rattle.apex_dispatch.proofs.works.Works.watch_cores.Goals as goal

-- no work is open past the last core
nothing : (b : Bool) → cond {A = Option OpenWork} b None None ≡ None
nothing true = refl
nothing false = refl

pub returns : goal.returns
returns g c core = elim (cases_lt core 8) [
  | inl within ↦
      let passed : core < c.loop-core.core = omega (arith, within, c.loop-core-test.false) in
      c.loop-core.invariant core ∙ rw (lt-ltb core c.loop-core.core passed) refl
  | inr past ↦
      let none : work_at c.args.self.now core ≡ None = get_or_past c.args.self.now core None (omega (arith, past, c.places.ensures)) in
      c.loop-core.invariant core ∙ rw none (nothing (nat_lt core c.loop-core.core))
]
