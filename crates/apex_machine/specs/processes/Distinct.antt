-- No two processes have the same stamp, so the choices by stamps have one answer.
use Rattle.std.specs.Prelude.{◌≡◌, ℕ, ◌<◌, ◌<ℤ◌, length}
use Rattle.apex_machine.specs.processes.Roster.{Roster, record_at}

-- no two processes have the same stamp
pub record HasDistinctStamps (roster : Roster) : Type 0 where
  pub distinct : (p q : ℕ) → p < length roster.records → q < length roster.records
      → (record_at roster p).since ≡ (record_at roster q).since → p ≡ q

-- every process's stamp is between the two counters, and is no other process's
pub record IsStamped (roster : Roster) : Type 0 where
  pub given : (p : ℕ) → p < length roster.records → (record_at roster p).since <ℤ roster.young
  pub newer : (p : ℕ) → p < length roster.records → roster.old <ℤ (record_at roster p).since
  pub distinct : HasDistinctStamps roster
