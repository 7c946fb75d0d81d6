-- The bytes that one write took are the front of the rest.
use Rattle.std.proofs.Common.{rules, ◌≡◌, ℕ, ◌-◌, ◌<◌, List, ◌++◌, length, take, drop, sym, ap, subst, ◌∙◌, append_assoc, take-append-drop, arith}
use Rattle.std.proofs.lemmas.Result.{err_from_is_err_and}
use Rattle.std.proofs.lemmas.List.{nil_from_length, take_rest}
use Rattle.std.proofs.KnownBytes.{Appends-trans}
use Rattle.apex_history.specs.Counted.{inner_of, Writes, whole, part, failed}
use Rattle.std.proofs.lemmas.Grind.{common_steps}
use Rattle.apex_history.proofs.counting.CountedWrite.write_all.Goals as goal

front_moved : (all done rest : List ℕ) (n : ℕ) → all ≡ done ++ rest → all ≡ (done ++ take n rest) ++ take (length rest - n) (drop n rest)
front_moved all done rest n e =
    e ∙ ap (λ l. done ++ l) (sym (take-append-drop n rest)) ∙ sym (append_assoc done (take n rest) (drop n rest)) ∙ ap (λ l. (done ++ take n rest) ++ l) (sym (take_rest rest n))

pub loop-rest-preserved : goal.loop-rest-preserved
loop-rest-preserved g c =
    let (done, split, appended) = c.loop-rest.invariant.bytes in
    let rest = c.loop-rest.rest.now in
    let n = c.in_ok-taken.taken in
    let some : 0 < length c.loop-rest.rest.now = search rules in
    record {
      bytes = (done ++ take n rest, front_moved _ done rest n split, Appends-trans _ _ _ _ _ appended c.in_ok-taken.ensures.bytes);
      given = λ result after later. c.loop-rest.invariant.given result after
          (part n (c.in_ok-taken.ensures.taken some) c.in_ok-taken.ensures.given
          (subst (λ (l : List ℕ). Writes g.W.Sink.accepts (inner_of c.write.new.self) l result after) (take_rest rest n) later));
      failures = c.in_ok-taken.ensures.counted ∙ c.loop-rest.invariant.failures;
      reads = c.write.ensures.reads ∙ c.loop-rest.invariant.reads;
    }

pub returns-in_err-taken-clause-given : goal.returns-in_err-taken-clause-given
returns-in_err-taken-clause-given g c =
    let p = err_from_is_err_and c.from_residual.result c.from_residual.ensures.1 in
    rw (p.1, p.2) (c.loop-rest.invariant.given _ _ (failed c.in_err-taken.ensures.given))

pub returns-clause-given : goal.returns-clause-given
returns-clause-given g c =
    let none : length c.loop-rest.rest.now ≡ 0 = search rules in
    c.loop-rest.invariant.given _ _ (subst (λ (l : List ℕ). Writes g.W.Sink.accepts (inner_of c.loop-rest.self) l _ (inner_of c.loop-rest.self)) (sym (nil_from_length _ none)) whole)

pub returns-clause-bytes : goal.returns-clause-bytes
returns-clause-bytes g c = grind (arith, common_steps)
