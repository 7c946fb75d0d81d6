use Rattle.std.proofs.Common.{◌≡◌, ℕ, suc, ◌+◌, ◌≤◌, length, sym, ◌∙◌, arith}
use Rattle.apex_links.specs.Links.{list_at}
use Rattle.apex_links.proofs.Walking.{such_end, such_here, such_later, past_all, here, here_known, here_stands}
use Rattle.apex_links.proofs.links.LinkSet.first_such.Goals as goal

pub returns-in_default-clause-value : goal.returns-in_default-clause-value
returns-in_default-clause-value g c =
    sym (such_end _ c.loop-round._round (list_at c.args.self.now c.args.list) (sym c.loop-round.invariant.0 ∙ c.in_default.is)) ∙ c.loop-round.invariant.1

pub passes-requires : goal.passes-requires
passes-requires g c =
    omega (arith, c.requires.known, here_known c.args.self.now c.holds.ensures c.args.list c.loop-round._round c.in-Some.process _ c.loop-round.invariant.0 c.in-Some.is)

pub returns-then-passes-clause-value : goal.returns-then-passes-clause-value
returns-then-passes-clause-value g c =
    let there = here c.args.self.now c.holds.ensures c.args.list c.loop-round._round c.in-Some.process _ c.loop-round.invariant.0 c.in-Some.is in
    sym (such_here _ c.loop-round._round c.in-Some.process (list_at c.args.self.now c.args.list) there (sym c.passes.ensures ∙ c.if-passes.true)) ∙ c.loop-round.invariant.1

pub returns-then-passes-clause-there : goal.returns-then-passes-clause-there
returns-then-passes-clause-there g c =
    here_stands c.args.self.now c.holds.ensures c.args.list c.loop-round._round c.in-Some.process _ c.loop-round.invariant.0 c.in-Some.is

pub next-at-requires : goal.next-at-requires
next-at-requires g c = here_known c.args.self.now c.holds.ensures c.args.list c.loop-round._round c.in-Some.process _ c.loop-round.invariant.0 c.in-Some.is

one : (k : ℕ) → k + 1 ≡ suc k
one k = omega arith

pub loop-round-preserved : goal.loop-round-preserved
loop-round-preserved g c =
    let there = here c.args.self.now c.holds.ensures c.args.list c.loop-round._round c.in-Some.process _ c.loop-round.invariant.0 c.in-Some.is in
    let later = such_later _ c.loop-round._round c.in-Some.process (list_at c.args.self.now c.args.list) there (sym c.passes.ensures ∙ c.if-passes.false) in
    (c.next-at.ensures.at c.args.list c.loop-round._round there, rw (one c.loop-round._round) (sym later ∙ c.loop-round.invariant.1))

pub returns-clause-value : goal.returns-clause-value
returns-clause-value g c =
    let all : length (list_at c.args.self.now c.args.list) ≤ c.loop-round._round = omega (arith, c.process_count-round-end.ensures, c.holds.ensures.short c.args.list, c.loop-round-test.false) in
    sym (past_all _ c.loop-round._round (list_at c.args.self.now c.args.list) all) ∙ c.loop-round.invariant.1
