-- The fault of a table as one of a text that begins with it, and that as one of a text with a history.
use Rattle.apex_words.specs.declared.TableFault.{TableFault}
use Rattle.apex_words.specs.declared.TableFault.TheVariants as table_fault
use Rattle.apex_check.specs.declared.tables.LeadingFault.{LeadingFault}
use Rattle.apex_check.specs.declared.tables.LeadingFault.TheVariants as leading
use Rattle.apex_check.specs.declared.verdicts.CheckFault.{CheckFault}
use Rattle.apex_check.specs.declared.verdicts.CheckFault.TheVariants.{Memory, Table, NoSeparator, Read}

abbrev pub fault_of_table : TableFault → LeadingFault
fault_of_table table_fault.Memory = leading.Memory
fault_of_table fault = leading.Table fault

abbrev pub fault_of_leading : LeadingFault → CheckFault
fault_of_leading leading.Memory = Memory
fault_of_leading (leading.Table fault) = Table fault
fault_of_leading leading.NoSeparator = NoSeparator
fault_of_leading leading.Read = Read
