-- The column is that of the situation's roster and objects.
use Rattle.apex_traces.proofs.trace.add_column.Goals as goal

pub returns-clause-text : goal.returns-clause-text
returns-clause-text g c = rw (c.objects-objects.ensures, c.store-store.ensures.roster) at c.add_column.ensures.text

pub returns-clause-shown : goal.returns-clause-shown
returns-clause-shown g c = rw (c.objects-objects.ensures, c.store-store.ensures.roster) at c.add_column.ensures.shown
