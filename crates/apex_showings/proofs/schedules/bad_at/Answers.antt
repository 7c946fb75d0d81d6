use Rattle.std.proofs.Common.{refl}
use Rattle.apex_showings.proofs.FaultPlaces.{within_text}
use Rattle.apex_showings.proofs.schedules.bad_at.Goals as goal

pub line_and_column-line-requires : goal.line_and_column-line-requires
line_and_column-line-requires c = within_text c.args.text.now c.args.reason c.args.place c.requires

pub returns-clause-fault : goal.returns-clause-fault
returns-clause-fault c = record {
  place = c.args.place;
  has = c.requires;
  is = rw (c.line_and_column-line.ensures.line, c.line_and_column-line.ensures.column) refl;
}
