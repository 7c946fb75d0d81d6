use Rattle.apex_receipts.specs.Receipts.{voice_of}
use Rattle.apex_cores_trials.proofs.partition.readers.take_readers_of.Given as goal

abbrev pub ghosts-take_readers : goal.ghosts-take_readers
ghosts-take_readers g a = record {
  book = a.opened.book;
  scribe = a.opened.scribe;
  voice = voice_of a.opened.cores a.opened.ticker;
  table = a.table;
  cell = a.board.cell;
}
