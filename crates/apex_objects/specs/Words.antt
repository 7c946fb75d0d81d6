-- The line that has the texts of a call and of a reply, and no others that vary.
use Rattle.std.specs.Prelude.{ℕ, List, [], Option}
use Rattle.apex_calls.specs.Lines.{line_of}
use Rattle.apex_objects.specs.Terms.{Call, Reply}
use Rattle.apex_machine.specs.table.Table.{Table}
use Rattle.apex_types.specs.declared.entries.Caller.TheVariants.{Nobody}
use Rattle.apex_types.specs.declared.entries.Who.TheVariants.{Ticker}

-- the line of the ticker at time 0, with this call and this reply: `0 0 ticker - call -> reply`
abbrev pub words_line : Table → Option Call → Reply → List ℕ
words_line table call reply =
    line_of table
    (record {
      number = 0;
      now = 0;
      who = Ticker;
      process = Nobody;
      call = call;
      reply = reply;
      notices = [];
    })
