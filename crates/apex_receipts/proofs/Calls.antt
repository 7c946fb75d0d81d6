-- The notes that two speakers know of each other.
use Rattle.std.proofs.Common.{◌≡◌, ℕ, ◌+◌, ◌≤◌, ◌==◌, true, List, ap, arith}
use Rattle.std.proofs.lemmas.Bool.Decides.{nat_tests}
use mathlib.Core.List.{IsPrefix}
use Rattle.apex_receipts.specs.declared.law.Note.{Note}
use Rattle.apex_receipts.specs.Notes.{said, written}
use Rattle.apex_receipts.specs.Rules.{HasHeard, HasSaid}
use Rattle.apex_receipts.proofs.Alone.{alone_said}
use Rattle.apex_receipts.proofs.Counts.{one_if, said_snoc}
use Rattle.apex_receipts.proofs.Written.{written_begins}
use Rattle.apex_receipts.proofs.Prefixes.{prefix_trans}

-- no more was written down for a speaker than it called for
pub heard_most : (l o : ℕ) (own mine known log : List Note) → IsPrefix own known → HasHeard mine known log o
    → written l o own ≤ said o mine
heard_most l o own mine known log begins heard =
    omega (
      arith,
      written_begins l o own log (prefix_trans own known log begins heard.knew),
      heard.fair l o,
      alone_said o mine log heard.alone,
    )

pub said_more : (mine known log : List Note) (n : Note) → HasSaid mine known n log → said n.by log ≡ said n.by mine + 1
said_more mine known log n h =
    let is : (n.by == n.by) ≡ true = grind (arith, nat_tests) in
    omega (
      arith,
      ap (λ (m : List Note). said n.by m) h.added,
      said_snoc n.by h.before n,
      ap one_if is,
      alone_said n.by mine h.before h.heard.alone,
    )
