-- The two profiles of a table: one machine, with other numbers.
use Rattle.std.specs.Prelude.{ℕ, ◌==◌, if◌then◌else◌}
use Rattle.apex_types.specs.declared.limits.TheConstants.{MOST_OWNED, MOST_OWNED_IN_ONE, MOST_PROCESSES, MOST_PROCESSES_IN_ONE}
use Rattle.apex_machine.specs.Terms.{Profile}
use Rattle.apex_machine.specs.declared.profiles.Profile.TheVariants.{One, Two}

-- the profile of this number: One of 1, and Two of any other; a table's number is 1 or 2
abbrev pub profile_of : ℕ → Profile
profile_of number = if number == 1 then One else Two

-- the most processes that a table may have
abbrev pub processes_of : Profile → ℕ
processes_of One = MOST_PROCESSES_IN_ONE
processes_of Two = MOST_PROCESSES

-- the most mutexes that a process may own at once
abbrev pub owned_of : Profile → ℕ
owned_of One = MOST_OWNED_IN_ONE
owned_of Two = MOST_OWNED
