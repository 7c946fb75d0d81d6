-- The fronts of one partition go forward.
use Rattle.std.proofs.Common.{◌≡◌, ◌+◌, List, ◌++◌, length, ap, sym, ◌∙◌, arith, length-append}
use Rattle.std.proofs.lemmas.List.{map-append}
use Rattle.apex_types.specs.declared.entries.Entry.{Entry}
use Rattle.apex_types.specs.declared.entries.Event.{Event}
use Rattle.apex_machine.specs.Machine.{Machine, event_of, events_of, opening, run}
use Rattle.apex_machine.specs.table.Table.{Table}
use Rattle.apex_laws.specs.Laws.{HistoriesReplay, TimeGoesForward}
use Rattle.apex_board.specs.Fronts.{Front}
use Rattle.apex_partition.specs.Forward.{FrontsGoForward}

pub fronts_forward : (table : Table) → HistoriesReplay table → TimeGoesForward table → FrontsGoForward table
fronts_forward table replays times before after first later prefix f g =
    let rest = prefix.0 in
    let state : List Event → Machine = λ events. run table (opening table) events in
    let earlier : state (events_of before) ≡ state f.events = ap (λ (h : List Entry). state (events_of h)) (sym f.told) ∙ replays f.events in
    let latest : state (events_of after) ≡ state g.events = ap (λ (h : List Entry). state (events_of h)) (sym g.told) ∙ replays g.events in
    let split : events_of before ++ events_of rest ≡ events_of after = sym (map-append event_of before rest) ∙ ap events_of prefix.1 in
    let few : first.entries ≡ length before = ap (λ (x : Front). x.entries) f.shown ∙ ap (λ (h : List Entry). length h) f.told in
    let many : later.entries ≡ length after = ap (λ (x : Front). x.entries) g.shown ∙ ap (λ (h : List Entry). length h) g.told in
    let longer : length before + length rest ≡ length after = sym (length-append before rest) ∙ ap (λ (h : List Entry). length h) prefix.1 in
    let was : first.now ≡ (state (events_of before)).roster.now =
    ap (λ (x : Front). x.now) f.shown ∙ sym (ap (λ (m : Machine). m.roster.now) earlier) in
    let is : later.now ≡ (state (events_of before ++ events_of rest)).roster.now =
    ap (λ (x : Front). x.now) g.shown
    ∙ sym (ap (λ (m : Machine). m.roster.now) latest)
    ∙ sym (ap (λ (events : List Event). (state events).roster.now) split) in
    let on = times.forward (events_of before) (events_of rest) in
    record { entries = omega (arith, few, many, longer); now = omega (arith, was, is, on) }
