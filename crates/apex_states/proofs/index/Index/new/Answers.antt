use Rattle.std.proofs.Common.{rules, ◌≡◌, ℕ, length, replicate, sym, ap, ◌∙◌, subst, arith}
use Rattle.std.proofs.lemmas.List.{length-replicate}
use Rattle.apex_states.proofs.Probing.{map_vacant}
use Rattle.apex_states.proofs.index.Index.new.Goals as goal

pub returns : goal.returns
returns c =
    let filled : c.resize.new.self.items ≡ replicate c.min.result (record { code = 0 }) = search rules in
    let long : length c.resize.new.self.items ≡ c.min.result = ap length filled ∙ length-replicate c.min.result (record { code = 0 }) in
    let Filled : ℕ → Type 0 = λ n. c.resize.new.self.items ≡ replicate n (record { code = 0 }) in
    record {
      some = omega (arith, long, c.min.ensures);
      vacant = map_vacant (length c.resize.new.self.items) c.resize.new.self.items (subst Filled (sym long) filled);
      memory = omega (arith, c.in_ok-slots.ensures.capacity, c.in_ok-resize.ensures.capacity);
    }
