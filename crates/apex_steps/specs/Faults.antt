-- The faults of a session.
use Rattle.apex_check.specs.declared.LeadingFault.{LeadingFault}
use Rattle.apex_check.specs.declared.LeadingFault.TheVariants as leading
use Rattle.apex_steps.specs.declared.faults.StepFault.{StepFault}
use Rattle.apex_steps.specs.declared.faults.StepFault.TheVariants.{Memory, Table, NoSeparator, Read}

-- a fault of the table with which a text begins
abbrev pub fault_of_leading : LeadingFault → StepFault
fault_of_leading leading.Memory = Memory
fault_of_leading (leading.Table fault) = Table fault
fault_of_leading leading.NoSeparator = NoSeparator
fault_of_leading leading.Read = Read
