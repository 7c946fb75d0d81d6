-- The log of a history as every contract sees it.
use Rattle.std.specs.Prelude.{ℕ, List}
use Rattle.apex_history.specs.Terms.{Entry}

-- the entries so far, the oldest first, and the most that there may be
pub record History : Type 0 where
  pub entries : List Entry
  pub limit : ℕ
