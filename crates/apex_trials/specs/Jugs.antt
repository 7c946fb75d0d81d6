-- Two jugs, which are filled, emptied and poured into each other. A state has two words: what the
-- small jug holds, and what the large one does.
use Rattle.std.specs.Prelude.{ℕ, ◌+◌, ◌-◌, ◌==◌, ◌&&◌, ◌||◌, min, if◌then◌else◌, List, [], ◌∷◌, slice_index}
use Rattle.apex_explore.specs.Systems.{Step, refuses, goes, hits}

-- what the jugs hold after a choice, if they have room for this much and hold this much
abbrev pub poured : ℕ → ℕ → ℕ → ℕ → ℕ → ℕ × ℕ
poured small_room large_room small large choice =
    let on = min small (large_room - large) in
    let back = min large (small_room - small) in
    if choice == 0 then (small_room, large)
    else if choice == 1 then (small, large_room)
    else if choice == 2 then (0, large)
    else if choice == 3 then (small, 0)
    else if choice == 4 then (small - on, large + on)
    else (small + back, large - back)

-- a choice that changes nothing is refused, and one that leaves what is wanted in a jug hits
abbrev pub step_from : ℕ → ℕ → ℕ → ℕ × ℕ → Step (List ℕ)
step_from small large wanted next =
    if (next.0 == small) && (next.1 == large) then refuses
    else if (next.0 == wanted) || (next.1 == wanted) then hits
    else goes (next.0 ∷ next.1 ∷ [])

-- the step of a choice
abbrev pub pour : ℕ → ℕ → ℕ → List ℕ → ℕ → Step (List ℕ)
pour small_room large_room wanted state choice =
    let small = slice_index state 0 in
    let large = slice_index state 1 in
    step_from small large wanted (poured small_room large_room small large choice)
