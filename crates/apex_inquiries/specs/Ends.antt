-- The ends of a search.
use Rattle.std.specs.Prelude.{Result, Ok, Err}
use Rattle.apex_inquiries.specs.declared.endings.SearchEnding.{SearchEnding}
use Rattle.apex_inquiries.specs.declared.endings.SearchEnding.TheVariants.{Found, Never}
use Rattle.apex_inquiries.specs.declared.endings.SearchFault.{SearchFault}

-- the end of a search
pub data End : Type 0 where
  -- a schedule was found
  found : End
  -- no schedule leads to what is looked for
  unfound : End
  -- this fault
  fails : SearchFault → End

-- the end of an outcome
abbrev pub end_in : Result SearchEnding SearchFault → End
end_in (Ok Found) = found
end_in (Ok Never) = unfound
end_in (Err fault) = fails fault
