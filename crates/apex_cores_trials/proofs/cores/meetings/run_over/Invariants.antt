use Rattle.std.specs.Prelude.{None}
use Rattle.apex_receipts.specs.Receipts.{voice_of}
use Rattle.apex_cores_trials.proofs.cores.meetings.run_over.Given as goal

abbrev pub ghosts-run_named : goal.ghosts-run_named
ghosts-run_named g a = record {
  book = a.opened.book;
  scribe = a.opened.scribe;
  voice = voice_of a.opened.cores a.opened.ticker;
  table = a.table;
  cell = None;
}
