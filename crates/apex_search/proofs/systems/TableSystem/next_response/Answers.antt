-- What the search says, in the words of any system for which it asks for such a response.
use Rattle.std.proofs.Common.{◌≡◌, ◌∙◌, ◌<◌, ◌≤◌, length, ap, arith, refl}
use Rattle.apex_explore.specs.Searches.{room_of}
use Rattle.apex_machine.specs.table.Table.{Table}
use Rattle.apex_search.specs.Steps.{Searched}
use Rattle.apex_search.proofs.Responses.{now_below, now_beyond, now_full, now_overruns, now_slower}
use Rattle.apex_search.proofs.systems.TableSystem.next_response.Goals as goal

pub returns-in-Closed-clause-says : goal.returns-in-Closed-clause-says
returns-in-Closed-clause-says g c system same =
    now_below system c.args.self.now c.args.process c.args.least same _ (rw c.in-Closed.is at c.in_ok-path.ensures.says)

pub returns-in-Full-clause-says : goal.returns-in-Full-clause-says
returns-in-Full-clause-says g c system same =
    now_full system c.args.self.now c.args.process c.args.least same c.in-Full.depth (room_of c.args.search.now)
    (rw c.in-Full.is at c.in_ok-path.ensures.says)

pub returns-then-len-limit-clause-says : goal.returns-then-len-limit-clause-says
returns-then-len-limit-clause-says g c system same =
    let limit : c.limit-limit.result ≡ system.table.limit =
    c.limit-limit.ensures.value ∙ ap (λ (t : Table). t.limit) (c.table.ensures ∙ ap (λ (s : Searched). s.table) same) in
    let past : c.limit-limit.result < length c.in-Found.path.items = omega (arith, c.len.ensures, c.if-len-limit.true) in
    let beyond =
    now_beyond system c.args.self.now c.args.process c.args.least same c.in-Found.path.items (rw c.in-Found.is at c.in_ok-path.ensures.says)
    c.lawful.ensures.pace c.lawful.ensures.table c.lawful.ensures.reach c.forms_stand_for_situations.ensures c.limit-limit.result past in
    (limit, beyond.0, beyond.1)

pub returns-then-response-from-clause-says : goal.returns-then-response-from-clause-says
returns-then-response-from-clause-says g c system same =
    let limit : c.limit-limit.result ≡ system.table.limit =
    c.limit-limit.ensures.value ∙ ap (λ (t : Table). t.limit) (c.table.ensures ∙ ap (λ (s : Searched). s.table) same) in
    let few : length c.in-Found.path.items ≤ system.table.limit = omega (arith, c.len.ensures, c.if-len-limit.false, limit) in
    let past : c.in_ok-schedule.job.period < c.in_ok-schedule.job.response = omega (arith, c.from.ensures, c.if-response-from.true) in
    now_overruns system c.args.self.now c.args.process c.args.least same c.in-Found.path.items
    (rw c.in-Found.is at c.in_ok-path.ensures.says) c.in_ok-schedule.schedule.items c.in_ok-schedule.job
    (rw c.as_slice.ensures.value at c.in_ok-schedule.ensures) past few

pub returns-clause-says : goal.returns-clause-says
returns-clause-says g c system same =
    let limit : c.limit-limit.result ≡ system.table.limit =
    c.limit-limit.ensures.value ∙ ap (λ (t : Table). t.limit) (c.table.ensures ∙ ap (λ (s : Searched). s.table) same) in
    let few : length c.in-Found.path.items ≤ system.table.limit = omega (arith, c.len.ensures, c.if-len-limit.false, limit) in
    let within : c.in_ok-schedule.job.response ≤ c.in_ok-schedule.job.period = omega (arith, c.from.ensures, c.if-response-from.false) in
    now_slower system c.args.self.now c.args.process c.args.least same c.in-Found.path.items
    (rw c.in-Found.is at c.in_ok-path.ensures.says) c.in_ok-schedule.schedule.items c.in_ok-schedule.job
    (rw c.as_slice.ensures.value at c.in_ok-schedule.ensures) c.ask_for_response.new.self c.go_on.new.search
    (record { response = c.in_ok-schedule.job.response; schedule = c.in_ok-schedule.schedule }) refl refl within
    (omega arith) few c.ask_for_response.ensures c.in_ok-path.ensures.search
