-- The times of a trace's axis.
use Rattle.std.specs.Prelude.{ℕ, ◌/◌, ◌%◌, List, [], ◌++◌, ◌==◌, codes, decimal, if◌then◌else◌}

-- the thousandths beyond the units, if there are any, without zeros at the end
abbrev pub fraction_text : ℕ → List ℕ
fraction_text rest =
    if rest == 0 then []
    else if rest % 100 == 0 then codes "." ++ decimal (rest / 100)
    else if rest % 10 == 0 then codes "." ++ decimal (rest / 100) ++ decimal (rest / 10 % 10)
    else codes "." ++ decimal (rest / 100) ++ decimal (rest / 10 % 10) ++ decimal (rest % 10)

-- nanoseconds, in microseconds
unfoldable pub time_text : ℕ → List ℕ
time_text time = decimal (time / 1000) ++ fraction_text (time % 1000)

-- the time behind the number of a track
abbrev pub time_back : ℕ → List ℕ
time_back time = codes ",\"ts\":" ++ time_text time
