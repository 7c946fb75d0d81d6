use Rattle.apex_warnings.proofs.Lists.{script_length}
use Rattle.apex_warnings.proofs.steps.TableSteps.script.Goals as goal

pub returns-clause-range : goal.returns-clause-range
returns-clause-range c =
    script_length c.args.self.now _ c.args.process _ c.table.ensures c.lawful.ensures c.requires c.script_of.ensures
