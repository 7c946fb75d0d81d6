use Rattle.apex_states.proofs.Registering.{IsCopying}
use Rattle.apex_states.proofs.registers.Register.grown.Given as goal

abbrev pub invariant-loop-place : goal.invariant-loop-place
invariant-loop-place l = IsCopying l.self.rows l.self.width l.room l.place l.grown
