-- Cells that are home stay home.
use Rattle.std.proofs.Common.{◌≡◌, ℕ, zero, suc, ◌<◌, true, List, [], ◌∷◌, ◌++◌, length, slice_set, refl, ap, arith}
use Rattle.logbook.specs.Pages.{Cell}
use Rattle.apex_receipts.specs.declared.law.Note.{Note}
use Rattle.apex_receipts.specs.Notes.{AllUsed, IsHome, keys_after, next_keys}

-- the cells that are home here are home there
abbrev pub Keeps : List Cell → List Cell → Type 0
Keeps cells later = (k : ℕ) → IsHome cells k → IsHome later k

pub set_keeps : (cells : List Cell) (j n k : ℕ) → IsHome cells k → IsHome (slice_set cells j (n, true)) k
set_keeps [] j n k h = absurd (omega (arith, h.0))
set_keeps (c ∷ cells) zero n zero h = (omega arith, refl)
set_keeps (c ∷ cells) zero n (suc k) h = h
set_keeps (c ∷ cells) (suc j) n zero h = (omega arith, h.1)
set_keeps (c ∷ cells) (suc j) n (suc k) h =
    let r = set_keeps cells j n k (omega (arith, h.0), h.1) in (omega (arith, r.0), r.1)

-- the cell that was set is home
pub set_home : (cells : List Cell) (j n : ℕ) → j < length cells → IsHome (slice_set cells j (n, true)) j
set_home [] j n less = absurd (omega (arith, less))
set_home (c ∷ cells) zero n less = (omega arith, refl)
set_home (c ∷ cells) (suc j) n less = let r = set_home cells j n (omega (arith, less)) in (omega (arith, r.0), r.1)

pub set_length : (cells : List Cell) (j : ℕ) (c : Cell) → length (slice_set cells j c) ≡ length cells
set_length [] j c = refl
set_length (d ∷ cells) zero c = refl
set_length (d ∷ cells) (suc j) c = ap suc (set_length cells j c)

pub more_keeps : (cells more : List Cell) (k : ℕ) → IsHome cells k → IsHome (cells ++ more) k
more_keeps [] more k h = absurd (omega (arith, h.0))
more_keeps (c ∷ cells) more zero h = (omega arith, h.1)
more_keeps (c ∷ cells) more (suc k) h = let r = more_keeps cells more k (omega (arith, h.0), h.1) in (omega (arith, r.0), r.1)

-- notes stay written with the right pens
pub used_keeps : (cells later : List Cell) → Keeps cells later → (keys : ℕ → ℕ) (notes : List Note)
    → AllUsed cells keys notes → AllUsed later keys notes
used_keeps cells later keep keys [] used = tt
used_keeps cells later keep keys (n ∷ notes) used =
    (keep (keys n.by) used.0, used_keeps cells later keep (next_keys keys n) notes used.1)

-- one note more, with the right pen
pub used_snoc : (cells : List Cell) (keys : ℕ → ℕ) (log : List Note) (n : Note)
    → AllUsed cells keys log → IsHome cells (keys_after keys log n.by) → AllUsed cells keys (log ++ n ∷ [])
used_snoc cells keys [] n used home = (home, tt)
used_snoc cells keys (m ∷ log) n used home = (used.0, used_snoc cells (next_keys keys m) log n used.1 home)

-- the notes behind a prefix
pub used_rest : (cells : List Cell) (keys : ℕ → ℕ) (first rest : List Note)
    → AllUsed cells keys (first ++ rest) → AllUsed cells (keys_after keys first) rest
used_rest cells keys [] rest used = used
used_rest cells keys (n ∷ first) rest used = used_rest cells (next_keys keys n) first rest used.1
