use Rattle.apex_json.proofs.ReadBack.{read_back}
use Rattle.apex_json.proofs.laws.strings_are_read_back.Goals as goal

pub returns : goal.returns
returns c = read_back
