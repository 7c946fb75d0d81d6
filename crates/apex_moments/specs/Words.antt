-- The words for notices, and the numbers of profiles.
use Rattle.std.specs.Prelude.{ℕ, List, codes}
use Rattle.apex_moments.specs.Terms.{Notice}
use Rattle.apex_types.specs.declared.entries.Notice.TheVariants.{Woken, Released, Missed}
use Rattle.apex_machine.specs.declared.profiles.Profile.{Profile}
use Rattle.apex_machine.specs.declared.profiles.Profile.TheVariants.{One, Two}

-- the word of a notice
abbrev pub notice_word : Notice → List ℕ
notice_word (Woken p code) = codes "woken"
notice_word (Released p) = codes "released"
notice_word (Missed p kind) = codes "missed"

-- the number of a profile, as a table gives it
abbrev pub profile_number : Profile → ℕ
profile_number One = 1
profile_number Two = 2
