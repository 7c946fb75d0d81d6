-- What was written when calls of a writer follow one another.
use Rattle.std.proofs.Common.{◌≡◌, ℕ, List, [], ◌++◌, Option, Result, Ok, Err, OnErr, OnOk, sym, append-nil}
use Rattle.std.proofs.KnownBytes.{Appends-kept}
use Rattle.std.specs.Io.KnownBytes.{Appends, Keeps}
use Rattle.apex_history.specs.Counted.{AppendsBeginning}
use Rattle.apex_history.specs.Page.{Passes}
use Rattle.apex_history.proofs.Passing.{beginning_after, passes_with}
use Rattle.apex_steps.specs.Conversations.{IsFlushed}

-- a fact that holds also holds if a call went well
pub OnOk-always : {T E P : Type 0} (r : Result T E) → P → OnOk r P
OnOk-always (Ok x) p = p
OnOk-always (Err e) p = tt

-- a flush behind a text
pub unflushed : (a b c : Option (List ℕ)) (text : List ℕ) → Appends a b text → Keeps b c → AppendsBeginning a c text
unflushed a b c text first kept = (text, [], sym (append-nil text), Appends-kept a b c text first kept)

pub flushes : {W E : Type 0} (drains : W → Result (Unit {0}) E → W → Type 0) (before after : W) (r : Result (Unit {0}) E)
    → drains before r after → OnOk r (IsFlushed drains after)
flushes drains before after (Ok tt) drained = (before, drained)
flushes drains before after (Err e) drained = tt

-- all was written, and nothing is held
pub passes_all_by : {T E : Type 0} (r : Result T E) (a b : Option (List ℕ)) (text held : List ℕ) → held ≡ []
    → OnOk r (Appends a b text) → OnOk r (Passes a b text held)
passes_all_by (Ok x) a b text held none appends = (text, rw none (sym (append-nil text)), appends)
passes_all_by (Err e) a b text held none appends = tt

-- what is held of a text was written, and more behind it
module _ {T E : Type 0} (a b c : Option (List ℕ)) (text held more put : List ℕ) (passes : Passes a b text held) (is : put ≡ held ++ more) where
  pub begun_by : (r : Result T E) → OnErr r (AppendsBeginning b c put) → OnErr r (AppendsBeginning a c (text ++ more))
  begun_by (Ok x) begun = tt
  begun_by (Err e) begun = beginning_after a b c (text ++ more) (held ++ more) (passes_with a b text held more passes) (rw is at begun)
