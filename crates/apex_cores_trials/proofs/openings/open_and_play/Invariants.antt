use Rattle.std.specs.Prelude.{None}
use Rattle.apex_receipts.specs.Receipts.{voice_of}
use Rattle.apex_cores_trials.proofs.openings.open_and_play.Given as goal

abbrev pub ghosts-play_with_reader : goal.ghosts-play_with_reader
ghosts-play_with_reader g a = record {
  book = a.opened.book;
  scribe = a.opened.scribe;
  voice = voice_of a.opened.cores a.opened.ticker;
  table = a.table;
  cell = a.board.cell;
}

abbrev pub ghosts-play_without_reader : goal.ghosts-play_without_reader
ghosts-play_without_reader g a = record {
  book = a.opened.book;
  scribe = a.opened.scribe;
  voice = voice_of a.opened.cores a.opened.ticker;
  table = a.table;
  cell = None;
}
