use Rattle.std.proofs.Common.{rules}
use Rattle.apex_buffer.proofs.buffers.Buffer.take_first.Goals as goal

pub returns-else-is_empty-clause-first : goal.returns-else-is_empty-clause-first
returns-else-is_empty-clause-first c = search rules
