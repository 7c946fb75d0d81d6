-- The part of a text that is still to come.
use Rattle.std.proofs.Common.{◌≡◌, ◌∙◌, ℕ, ◌+◌, ◌-◌, List, [], ◌++◌, Option, None, Some, sym, refl, ap, subst, take, drop, append_assoc, take-append-drop}
use Rattle.std.proofs.KnownBytes.{Consumes-kept, Consumes-trans}
use Rattle.std.specs.Io.KnownBytes.{Consumes, IsAtEnd, Keeps, prepend_known}
use Rattle.apex_incoming.specs.Ahead.{IsAhead, IsFirstLine}
use Rattle.apex_incoming.specs.Lines.{ended}

-- the bytes that are left, or none if they are not known
abbrev pub or_nothing : Option (List ℕ) → List ℕ
or_nothing None = []
or_nothing (Some xs) = xs

-- there is a text that is still to come
pub ahead_of : (pending : List ℕ) (left : Option (List ℕ)) → IsAhead (pending ++ or_nothing left) (prepend_known pending left)
ahead_of pending None = tt
ahead_of pending (Some xs) = refl

-- the bytes that were taken, and those that are still to come
pub ahead_more : (old new : Option (List ℕ)) (bytes text : List ℕ) → Consumes old new bytes → IsAhead text new → IsAhead (bytes ++ text) old
ahead_more None new bytes text taken ahead = tt
ahead_more (Some xs) None bytes text taken ahead = absurd taken
ahead_more (Some xs) (Some ys) bytes text taken ahead = ap (λ l. bytes ++ l) ahead ∙ sym taken

-- nothing is left at the end
pub none_left : (left : Option (List ℕ)) → IsAtEnd left → or_nothing left ≡ []
none_left None end = refl
none_left (Some xs) end = end

-- bytes that were read ahead are taken
pub ahead_taken : (n : ℕ) (pending : List ℕ) (left : Option (List ℕ))
    → Consumes (prepend_known pending left) (prepend_known (drop n pending) left) (take n pending)
ahead_taken n pending None = tt
ahead_taken n pending (Some xs) =
    ap (λ l. l ++ xs) (sym (take-append-drop n pending)) ∙ append_assoc (take n pending) (drop n pending) xs

-- the bytes that were taken so far, after some came and a part of them was taken
pub taken_more : (old before left : Option (List ℕ)) (bytes pending : List ℕ) (n : ℕ) → Consumes old before bytes
    → Keeps before (prepend_known pending left)
    → Consumes old (prepend_known (drop n pending) left) (bytes ++ take n pending)
taken_more old before left bytes pending n taken kept =
    Consumes-trans old (prepend_known pending left) (prepend_known (drop n pending) left) bytes (take n pending)
    (Consumes-kept old before (prepend_known pending left) bytes taken kept) (ahead_taken n pending left)

-- a text is known of which these bytes were taken
pub text_ahead : (P : List ℕ → Type 0) (old before left : Option (List ℕ)) (bytes pending : List ℕ) → Consumes old before bytes
    → Keeps before (prepend_known pending left) → P (bytes ++ (pending ++ or_nothing left))
    → (text : List ℕ) × IsAhead text old × P text
text_ahead P old before left bytes pending taken kept holds = (
  bytes ++ (pending ++ or_nothing left),
  ahead_more old (prepend_known pending left) bytes (pending ++ or_nothing left)
      (Consumes-kept old before (prepend_known pending left) bytes taken kept) (ahead_of pending left),
  holds,
)

-- the first line of the bytes that come, and the bytes behind it
pub first_line_of : (end : ℕ) (pending more : List ℕ) → IsFirstLine end pending
    → pending ++ more ≡ ended (take end pending) ++ (drop (end + 1) pending ++ more)
first_line_of end pending more first =
    ap (λ l. l ++ more) (sym (take-append-drop (end + 1) pending))
    ∙ append_assoc (take (end + 1) pending) (drop (end + 1) pending) more
    ∙ ap (λ l. l ++ (drop (end + 1) pending ++ more)) first.1

-- a property of a line, whatever follows
pub line_ahead : (P : List ℕ → Type 0) (old before left : Option (List ℕ)) (bytes pending : List ℕ) (end : ℕ) → Consumes old before bytes
    → Keeps before (prepend_known pending left) → IsFirstLine end pending
    → ((behind : List ℕ) → P (bytes ++ (ended (take end pending) ++ behind)))
    → (text : List ℕ) × IsAhead text old × P text
line_ahead P old before left bytes pending end taken kept first holds =
    text_ahead P old before left bytes pending taken kept
    (subst P (ap (λ l. bytes ++ l) (sym (first_line_of end pending (or_nothing left) first)))
    (holds (drop (end + 1) pending ++ or_nothing left)))
