use Rattle.std.specs.Prelude.{None}
use Rattle.apex_receipts.specs.Receipts.{voice_of}
use Rattle.apex_cli.proofs.runs.run_plan.Given as goal

abbrev pub ghosts-run_named : goal.ghosts-run_named
ghosts-run_named g a = record {
  book = a.opened.book;
  scribe = a.opened.scribe;
  voice = voice_of a.opened.cores a.opened.ticker;
  table = a.table;
  cell = None;
}

abbrev pub ghosts-run_read : goal.ghosts-run_read
ghosts-run_read g a = record {
  book = a.opened.book;
  scribe = a.opened.scribe;
  voice = voice_of a.opened.cores a.opened.ticker;
  table = a.table;
  cell = a.board.cell;
}
