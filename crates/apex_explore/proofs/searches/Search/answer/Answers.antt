-- What a search that stops says.
use Rattle.std.proofs.Common.{◌≡◌, ℕ, ◌+◌, length, ap, subst}
use Rattle.apex_states.proofs.Registering.{AllPairs-from_apart, AreApart-push}
use Rattle.apex_explore.specs.Paths.{ReachesWithin}
use Rattle.apex_explore.specs.Systems.{step_within}
use Rattle.apex_explore.proofs.Levels.{IsLevel-closed, IsLevel-found, IsLevel-full, IsLevel-trail}
use Rattle.apex_explore.proofs.searches.Search.answer.Goals as goal

pub path_to-requires : goal.path_to-requires
path_to-requires g c =
    let step = step_within (g.S.System.choice_count c.args.system.now) (g.S.System.step c.args.system.now) in
    let reached = c.args.self.now.states in
    let front = c.args.self.now.front in
    let struck = rw c.in-Struck.is at c.requires.stop in
    rw c.origins.ensures (IsLevel-trail step (g.S.System.start c.args.system.now) reached.states reached.origins front.at front.depth front.level_end struck.0 c.requires.searched)

pub returns-in_ok-push-in-Struck : goal.returns-in_ok-push-in-Struck
returns-in_ok-push-in-Struck g c =
    let step = step_within (g.S.System.choice_count c.args.system.now) (g.S.System.step c.args.system.now) in
    let reached = c.args.self.now.states in
    let front = c.args.self.now.front in
    let struck = rw c.in-Struck.is at c.requires.stop in
    let read = rw c.origins.ensures at c.in_ok-path-in-Struck.ensures in
    rw c.in_ok-push-in-Struck.ensures.items (IsLevel-found step (g.S.System.start c.args.system.now) reached.states reached.origins front.at front.depth front.level_end c.in_ok-path-in-Struck.path.items
    struck.1.0 c.in-Struck.choice struck.0 c.requires.searched struck.1.1 struck.1.2 read)

pub returns-in-Over : goal.returns-in-Over
returns-in-Over g c =
    let step = step_within (g.S.System.choice_count c.args.system.now) (g.S.System.step c.args.system.now) in
    let first = g.S.System.start c.args.system.now in
    let reached = c.args.self.now.states in
    let front = c.args.self.now.front in
    let stopped = rw c.in-Over.is at c.requires.stop in
    let over = stopped.3 in
    let pairs = AllPairs-from_apart _ (AreApart-push reached.states over.1 c.len-states.ensures.apart over.5) in
    let full = IsLevel-full step first reached.states reached.origins front.at front.depth front.level_end stopped.0 over.0 over.1 over.2 stopped.1 stopped.2 pairs c.requires.searched over.3 over.4 in
    let count : length reached.states + 1 ≡ reached.room + 1 = ap (λ n. n + 1) over.6 in
    let Within : ℕ → Type 0 = λ n. ReachesWithin step first (front.depth + 1) n in
    (full.0, subst Within count full.1)

pub returns-in-Done : goal.returns-in-Done
returns-in-Done g c =
    let step = step_within (g.S.System.choice_count c.args.system.now) (g.S.System.step c.args.system.now) in
    let reached = c.args.self.now.states in
    let front = c.args.self.now.front in
    let pairs = AllPairs-from_apart reached.states c.len-states.ensures.apart in
    rw c.len-states.ensures.len (IsLevel-closed step (g.S.System.start c.args.system.now) reached.states reached.origins front.at front.depth front.level_end (rw c.in-Done.is at c.requires.stop) pairs c.requires.searched)
