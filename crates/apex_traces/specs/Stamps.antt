-- The texts of a slice's end and of its beginning, before the number of its track and behind it.
use Rattle.std.specs.Prelude.{◌≡◌, ℕ, List, ◌++◌, codes, decimal}
use Rattle.apex_traces.specs.Times.{time_back}
use Rattle.apex_traces.specs.declared.stamps.Group.{Group}
use Rattle.apex_traces.specs.declared.stamps.Group.TheVariants.{Cores, Processes, Objects}
use Rattle.apex_traces.specs.declared.trace.Spot.{Spot}

-- the number of a group in the trace
abbrev pub group_number : Group → ℕ
group_number Cores = 1
group_number Processes = 2
group_number Objects = 3

-- the end of a slice, up to the number of its track
abbrev pub end_front : Group → List ℕ
end_front group = codes ",\n{\"ph\":\"E\",\"pid\":" ++ decimal (group_number group) ++ codes ",\"tid\":"

-- the beginning of a slice, up to the number of its track
abbrev pub begin_front : Group → List ℕ
begin_front group = codes ",\n{\"ph\":\"B\",\"pid\":" ++ decimal (group_number group) ++ codes ",\"tid\":"

-- what is behind the number of a track at the beginning of a slice, up to its name
abbrev pub begin_back : ℕ → List ℕ
begin_back time = time_back time ++ codes ",\"name\":\""

-- the time is that of a track
abbrev pub Stamps : ℕ → Spot → Type 0
Stamps time spot = time ≡ spot.time
