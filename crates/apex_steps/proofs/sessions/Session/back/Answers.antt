use Rattle.std.proofs.Common.{◌≡◌, ◌≤◌, ◌∙◌, None, Some, List, ap, arith, length, length-take-le, refl, sym, take}
use Rattle.std.specs.List.{position}
use Rattle.std.proofs.lemmas.List.{length-map}
use Rattle.std.proofs.lemmas.List.Elements.{All-take}
use Rattle.apex_machine.specs.Events.{IsWithin}
use Rattle.apex_machine.specs.Machine.{event_of, events_of, opening, run}
use Rattle.apex_machine.specs.table.Table.{Table}
use Rattle.apex_steps.specs.Kept.{is_kept_as, session_kept}
use Rattle.apex_steps.specs.Sessions.{Session, gone_back}
use Rattle.apex_steps.specs.declared.sessions.Mark.{Mark as MarkKept}
use Rattle.apex_steps.proofs.Marks.{none_named}
use Rattle.apex_steps.proofs.MarksLeft.{few_entries, goes_back, kept_left, some_left}
use Rattle.apex_steps.proofs.sessions.Session.back.Goals as goal

pub returns-in_default : goal.returns-in_default
returns-in_default c =
    let kernel = c.self.inside.kernel in
    let missing : position (is_kept_as c.args.name.now) c.self.inside.marks.items ≡ None =
    ap (λ (l : List MarkKept). position (is_kept_as c.args.name.now) l) (sym c.as_slice.ensures.value) ∙ sym c.place_of.ensures ∙ c.in_default.is in (
      ap (λ (s : Session). gone_back c.args.name.now s) (sym c.self.view_is)
          ∙ none_named c.args.name.now kernel.table kernel.machine c.self.inside.marks.items missing,
      refl,
    )

pub index-requires : goal.index-requires
index-requires c =
    let kernel = c.self.inside.kernel in
    let found : position (is_kept_as c.args.name.now) c.self.inside.marks.items ≡ Some c.in-Some.place =
    ap (λ (l : List MarkKept). position (is_kept_as c.args.name.now) l) (sym c.as_slice.ensures.value) ∙ sym c.place_of.ensures ∙ c.in-Some.is in
    let some = some_left c.args.name.now kernel.table kernel.machine c.self.inside.marks.items c.from_place-marks.result.items c.in-Some.place
    c.in_ok-table.ensures.replays c.in_ok-table.ensures.within c.self.invariant found c.from_place-marks.ensures in
    omega (arith, some, c.from_place-marks.result.ok.0)

pub slice_bounds-first-end : goal.slice_bounds-first-end
slice_bounds-first-end c =
    let kernel = c.self.inside.kernel in
    let found : position (is_kept_as c.args.name.now) c.self.inside.marks.items ≡ Some c.in-Some.place =
    ap (λ (l : List MarkKept). position (is_kept_as c.args.name.now) l) (sym c.as_slice.ensures.value) ∙ sym c.place_of.ensures ∙ c.in-Some.is in
    let few = few_entries c.args.name.now kernel.table kernel.machine c.self.inside.marks.items c.from_place-marks.result.items c.in-Some.place
    c.in_ok-table.ensures.replays c.in_ok-table.ensures.within c.self.invariant found c.from_place-marks.ensures c.index.result.now c.index.ensures in
    let many : length c.as_slice-all.result.now ≡ length kernel.machine.history =
    ap length (c.as_slice-all.ensures.value ∙ c.in_ok-table.ensures.events) ∙ length-map kernel.machine.history event_of in
    let fits : c.index.result.now.entries ≤ length c.as_slice-all.result.now = omega (arith, few, many) in
    omega (arith, fits, length-take-le c.index.result.now.entries c.as_slice-all.result.now fits)

pub kernel_after-requires : goal.kernel_after-requires
kernel_after-requires c =
    let kernel = c.self.inside.kernel in
    rw (c.in_ok-table.ensures.table, c.as_slice-all.ensures.value, c.in_ok-table.ensures.events)
    (All-take (IsWithin kernel.table.cores) c.index.result.now.entries (events_of kernel.machine.history) c.in_ok-table.ensures.ranges)

pub invariant_of-result : goal.invariant_of-result
invariant_of-result c =
    let kernel = c.self.inside.kernel in
    let found : position (is_kept_as c.args.name.now) c.self.inside.marks.items ≡ Some c.in-Some.place =
    ap (λ (l : List MarkKept). position (is_kept_as c.args.name.now) l) (sym c.as_slice.ensures.value) ∙ sym c.place_of.ensures ∙ c.in-Some.is in
    let made : c.in_ok-kernel.kernel.machine ≡ run kernel.table (opening kernel.table) (take c.index.result.now.entries (events_of kernel.machine.history)) =
    rw (c.in_ok-table.ensures.table, c.as_slice-all.ensures.value, c.in_ok-table.ensures.events) at c.in_ok-kernel.ensures.machine in
    kept_left c.args.name.now kernel.table kernel.machine c.self.inside.marks.items c.from_place-marks.result.items c.in-Some.place
    c.in_ok-table.ensures.replays c.in_ok-table.ensures.within c.self.invariant found c.from_place-marks.ensures c.index.result.now c.index.ensures
    c.in_ok-kernel.kernel.machine made

pub returns : goal.returns
returns c =
    let kernel = c.self.inside.kernel in
    let left = c.from_place-marks.result.items in
    let found : position (is_kept_as c.args.name.now) c.self.inside.marks.items ≡ Some c.in-Some.place =
    ap (λ (l : List MarkKept). position (is_kept_as c.args.name.now) l) (sym c.as_slice.ensures.value) ∙ sym c.place_of.ensures ∙ c.in-Some.is in
    let made : c.in_ok-kernel.kernel.machine ≡ run kernel.table (opening kernel.table) (take c.index.result.now.entries (events_of kernel.machine.history)) =
    rw (c.in_ok-table.ensures.table, c.as_slice-all.ensures.value, c.in_ok-table.ensures.events) at c.in_ok-kernel.ensures.machine in
    ap (λ (s : Session). gone_back c.args.name.now s) (sym c.self.view_is)
    ∙ goes_back c.args.name.now kernel.table kernel.machine c.self.inside.marks.items left c.in-Some.place
    c.in_ok-table.ensures.replays c.in_ok-table.ensures.within c.self.invariant found c.from_place-marks.ensures c.index.result.now c.index.ensures
    c.in_ok-kernel.kernel.machine made
    ∙ ap (λ (t : Table). Some (session_kept t c.in_ok-kernel.kernel.machine left)) (sym (c.in_ok-kernel.ensures.table ∙ c.in_ok-table.ensures.table))
