-- Copies into a buffer, of which the first bytes are kept.
use Rattle.std.proofs.Common.{◌≡◌, ◌∙◌, ℕ, ◌+◌, ◌≤◌, List, ◌++◌, length, take, drop, sym, ap, arith, append_assoc, length-append, length-drop, length-take-le, take-append-drop}
use Rattle.std.proofs.lemmas.List.{take-append-le, take_all, take_at, take-take}
use borrow.Rule.Slice.PartMut.{put_mid, post_of}

-- the first bytes of a text and of what is behind it
behind : (text more : List ℕ) (a m : ℕ) → length text ≡ a → m ≤ length more → take (a + m) (text ++ more) ≡ text ++ take m more
behind text more a m long few =
    let parts : text ++ more ≡ text ++ take m more ++ drop m more =
    ap (λ l. text ++ l) (sym (take-append-drop m more)) ∙ sym (append_assoc text (take m more) (drop m more)) in
    let count : length (text ++ take m more) ≡ a + m =
    omega (arith, length-append text (take m more), length-take-le m more few, long) in
    ap (take (a + m)) parts ∙ take_at (text ++ take m more) (drop m more) (a + m) count

-- the bytes that are kept of a copy behind the first a cells
pub kept : (a m k : ℕ) (cells more : List ℕ) → a ≤ length cells → m ≤ length more
    → take (a + m) (put_mid a k cells more) ≡ take a cells ++ take m more
kept a m k cells more within few =
    let rest = post_of a k cells in
    behind (take a cells) (more ++ rest) a m (length-take-le a cells within) (omega (arith, length-append more rest, few))
    ∙ ap (λ l. take a cells ++ l) (take-append-le m more rest few)

-- two copies, of the first n bytes and of those from place i on, which overlap
pub both_kept : (a n i : ℕ) (cells first second more : List ℕ) → a ≤ length cells → n ≤ length more → i ≤ n → i + n ≡ length more
    → take (a + n) first ≡ take a cells ++ take n more
    → take (a + i + n) second ≡ take (a + i) first ++ take n (drop i more)
    → take (a + length more) second ≡ take a cells ++ more
both_kept a n i cells first second more within few overlap whole front back =
    let left : length (take a cells) ≡ a = length-take-le a cells within in
    let some : length (take n more) ≡ n = length-take-le n more few in
    let start : take (a + i) first ≡ take a cells ++ take i more =
    sym (take-take (a + i) (a + n) first (omega (arith, overlap))) ∙ ap (take (a + i)) front
    ∙ behind (take a cells) (take n more) a i left (omega (arith, some, overlap))
    ∙ ap (λ l. take a cells ++ l) (take-take i n more overlap) in
    let rest : take n (drop i more) ≡ drop i more = take_all n (drop i more) (omega (arith, length-drop i more, whole)) in
    let sum : a + length more ≡ a + i + n = omega (arith, whole) in
    ap (λ m. take m second) sum ∙ back ∙ ap (λ l. l ++ take n (drop i more)) start
    ∙ ap (λ l. (take a cells ++ take i more) ++ l) rest
    ∙ append_assoc (take a cells) (take i more) (drop i more)
    ∙ ap (λ l. take a cells ++ l) (take-append-drop i more)

-- fewer of the bytes that a copy puts behind the first a cells
pub front_kept : (a n m : ℕ) (cells after more : List ℕ) → a ≤ length cells → m ≤ n → n ≤ length more
    → take (a + n) after ≡ take a cells ++ take n more
    → take (a + m) after ≡ take a cells ++ take m more
front_kept a n m cells after more within few long put =
    sym (take-take (a + m) (a + n) after (omega (arith, few))) ∙ ap (take (a + m)) put
    ∙ behind (take a cells) (take n more) a m (length-take-le a cells within) (omega (arith, length-take-le n more long, few))
    ∙ ap (λ l. take a cells ++ l) (take-take m n more few)
