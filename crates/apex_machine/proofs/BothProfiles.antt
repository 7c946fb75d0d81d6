-- Facts that both profiles keep to.
use Rattle.std.proofs.Common.{lit≤, ◌≤◌, length, arith}
use Rattle.apex_machine.specs.Terms.{Profile}
use Rattle.apex_machine.specs.declared.profiles.Profile.TheVariants.{One, Two}
use Rattle.apex_types.specs.declared.limits.TheConstants.{MOST_OWNED, MOST_PROCESSES}
use Rattle.apex_machine.specs.table.Profiles.{owned_of, processes_of}
use Rattle.apex_machine.specs.table.Table.{IsLawful, Table}

pub few_processes : (profile : Profile) → processes_of profile ≤ MOST_PROCESSES
few_processes One = lit≤ tt
few_processes Two = lit≤ tt

pub some_owned : (profile : Profile) → 1 ≤ owned_of profile
some_owned One = lit≤ tt
some_owned Two = lit≤ tt

pub few_owned : (profile : Profile) → owned_of profile ≤ MOST_OWNED
few_owned One = lit≤ tt
few_owned Two = lit≤ tt

-- an accepted table has at least one process, and no more than profile 2 allows
pub lawful_count : (table : Table) → IsLawful table → (1 ≤ length table.processes) × (length table.processes ≤ MOST_PROCESSES)
lawful_count table lawful =
    let few = few_processes table.profile in
    (lawful.process_count.0, omega (arith, few, lawful.process_count.1))
