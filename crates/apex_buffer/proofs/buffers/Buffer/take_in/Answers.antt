use Rattle.std.proofs.Common.{rules}
use Rattle.apex_buffer.proofs.buffers.Buffer.take_in.Goals as goal

pub returns : goal.returns
returns c = search rules
