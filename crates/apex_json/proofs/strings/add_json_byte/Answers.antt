use Rattle.std.proofs.Common.{rules}
use Rattle.apex_json.proofs.strings.add_json_byte.Goals as goal

pub returns-else-byte-lt32-clause-text : goal.returns-else-byte-lt32-clause-text
returns-else-byte-lt32-clause-text c = search rules
