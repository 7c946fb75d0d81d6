-- Columns are apart, along either axis.
use Rattle.std.proofs.Common.{◌≡◌, ℕ, ◌+◌, ◌-◌, ◌*◌, ◌/◌, ◌<◌, ◌≤◌, List, ap, arith, drop, le_trans, length, take}
use Rattle.std.proofs.Math.Nat.{div-le_of_le-mul, div-mul-le_self, mul-le-mul_left}
use Rattle.std.proofs.lemmas.Nat.{le-div}
use Rattle.std.specs.Prelude.{max}
use Rattle.apex_machine.specs.Machine.{opening, run}
use Rattle.apex_pictures.specs.Axes.{all_ticks, idle_width, ticks_before, ticks_width, time_of}
use Rattle.apex_pictures.specs.Excerpts.{columns_of, drawn_at, never}
use Rattle.apex_pictures.specs.Laws.{AreApart, ColumnsAreApart}
use Rattle.apex_pictures.specs.declared.excerpts.Timed.{Timed}
use Rattle.apex_scales.specs.declared.Axis.{Axis}
use Rattle.apex_scales.specs.declared.Axis.TheVariants.{Entries, Time}
use Rattle.apex_pictures.specs.declared.axes.TheConstants.{MOST_ROOM, TICK}
use Rattle.apex_pictures.proofs.Numbers.{columns_follow, numbered_after}
use Rattle.apex_pictures.proofs.Times.{AreInOrder, columns_in_order, timed_after}

div_rises : (a b c : ℕ) → 0 < c → a ≤ b → a / c ≤ b / c
div_rises a b c some order = le-div (a / c) b c some (le_trans (div-mul-le_self a c) order)

-- the share of these ticks in the room
abbrev share : ℕ → ℕ → ℕ
share all ticks = MOST_ROOM * ticks / max all 1

share_rises : (all s t : ℕ) → s ≤ t → share all s ≤ share all t
share_rises all s t order = div_rises (MOST_ROOM * s) (MOST_ROOM * t) (max all 1) (omega arith) (omega (arith, order))

pub share_within : (all ticks : ℕ) → ticks ≤ all → share all ticks ≤ MOST_ROOM
share_within all ticks within = div-le_of_le-mul (max all 1) (omega (arith, within))

times_few : (t m : ℕ) → m ≤ 4000 → 8 * t * m ≤ 32000 * t
times_few t m few = le_trans (mul-le-mul_left (8 * t) few) (omega arith)

-- a tick has its whole width if there is room for all of them
share_whole : (all ticks : ℕ) → TICK * all ≤ MOST_ROOM → TICK * ticks ≤ share all ticks
share_whole all ticks room =
    let few : max all 1 ≤ 4000 = omega (arith, room) in
    le-div (TICK * ticks) (MOST_ROOM * ticks) (max all 1) (omega arith) (times_few ticks (max all 1) few)

width_rises : (axis : Axis) (all s t : ℕ) → s ≤ t → idle_width axis all s ≤ idle_width axis all t
width_rises Entries all s t order = omega arith
width_rises Time all s t order = omega (arith, order, share_rises all s t order)

width_within : (axis : Axis) (all ticks : ℕ) → ticks ≤ all → idle_width axis all ticks ≤ MOST_ROOM
width_within Entries all ticks within = omega arith
width_within Time all ticks within = omega (arith, share_within all ticks within)

width_whole : (all ticks : ℕ) → TICK * all ≤ MOST_ROOM → ticks_width all ticks ≡ TICK * ticks
width_whole all ticks room = omega (arith, share_whole all ticks room)

places_apart : (axis : Axis) (entries : List Timed) (n : ℕ) → (drawn_at entries n).number < (drawn_at entries (n + 1)).number
    → time_of entries 0 ≤ time_of entries n → time_of entries n ≤ time_of entries (n + 1)
    → time_of entries n ≤ time_of entries (length entries - 1) → AreApart axis entries n
places_apart axis entries n follows begun forward within =
    let all = all_ticks entries in
    let here = ticks_before entries n in
    let next = ticks_before entries (n + 1) in
    record {
      follows = follows;
      apart = omega (arith, width_rises axis all here next (omega (arith, forward)));
      beside = λ same.
          let width = ap (λ (t : ℕ). idle_width axis all (t - time_of entries 0)) same in
          omega (arith, width);
      within = omega (arith, width_within axis all here (omega (arith, within)));
      wider = λ by_time room.
          let so_far : idle_width axis all here ≡ TICK * here = rw by_time (width_whole all here room) in
          let further : idle_width axis all next ≡ TICK * next = rw by_time (width_whole all next room) in
          omega (arith, begun, forward, so_far, further);
    }

-- the time of one of some entries is no later than that of one behind it
pub rises_to : (entries : List Timed) (now m n : ℕ) → AreInOrder entries now → m ≤ n → n < length entries
    → time_of entries m ≤ time_of entries n
rises_to entries now m n is order within = is.rises m n never order within

pub columns_apart : ColumnsAreApart
columns_apart axis table lawful events extent others many n within =
    let machine = run table (opening table) events in
    let entries = take many (drop others (columns_of extent machine.history)) in
    let now = machine.roster.now in
    let is = columns_in_order extent others many machine.history now (timed_after table lawful events) in
    places_apart axis entries n (columns_follow extent others many n machine.history (numbered_after table events) within)
    (rises_to entries now 0 n is (omega arith) (omega (arith, within)))
    (rises_to entries now n (n + 1) is (omega arith) within)
    (rises_to entries now n (length entries - 1) is (omega (arith, within)) (omega (arith, within)))
