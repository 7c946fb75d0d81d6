-- What is heard next, by the bytes that were read ahead.
use Rattle.std.proofs.Common.{◌≡◌, ◌∙◌, ℕ, ◌+◌, ◌<◌, true, false, Option, None, Some, arith, refl, ap, subst, List, [], ◌++◌, length, take, drop, append-nil}
use Rattle.std.proofs.KnownBytes.{Consumes-kept, Consumes-nil, Consumes-trans}
use Rattle.std.proofs.lemmas.Bool.{lt-ltb}
use Rattle.std.specs.Io.KnownBytes.{Consumes, IsAtEnd, Keeps, prepend_known}
use Rattle.apex_types.specs.declared.limits.TheConstants.{MOST_LINE}
use Rattle.apex_incoming.specs.Ahead.{IsAhead, IsFirstLine}
use Rattle.apex_incoming.specs.Lines.{IsOneLine, ended}
use Rattle.apex_incoming.proofs.Coming.{ahead_more, ahead_of, none_left, or_nothing, taken_more}
use Rattle.apex_steps.specs.Answers.{answer, says, unended}
use Rattle.apex_steps.specs.Conversations.{Hears, Skips, a_line, no_line}
use Rattle.apex_steps.specs.Sessions.{Session}
use Rattle.apex_steps.specs.declared.answers.Answered.{Answered}
use Rattle.apex_steps.specs.declared.answers.Saying.TheVariants.{Refused}
use Rattle.apex_steps.specs.declared.refusals.Refusal.TheVariants.{TooLong}

-- there is a text that is still to come
pub some_ahead : (left : Option (List ℕ)) → IsAhead (or_nothing left) left
some_ahead None = tt
some_ahead (Some xs) = refl

-- what comes stays the same
ahead_kept : (before left : Option (List ℕ)) (text : List ℕ) → Keeps before left → IsAhead text left → IsAhead text before
ahead_kept before left text kept ahead =
    ahead_more before left [] text (Consumes-kept before before left [] (Consumes-nil before) kept) ahead

pub hears_kept : (session : Session) (before left rest : Option (List ℕ)) (answered : Answered) → Keeps before left
    → Hears session left rest answered → Hears session before rest answered
hears_kept session before left rest answered kept (a_line line one taken is) =
    a_line line one (Consumes-trans before left rest [] (ended line) (Consumes-kept before before left [] (Consumes-nil before) kept) taken) is
hears_kept session before left rest answered kept (no_line bytes one some ahead is) =
    no_line bytes one some (ahead_kept before left bytes kept ahead) is

-- ---- these bytes come next
module _ (session : Session) (before left : Option (List ℕ)) (pending : List ℕ) (kept : Keeps before (prepend_known pending left)) where
  -- a line
  pub hears_line : (end : ℕ) (new : List ℕ) (answered : Answered) → IsFirstLine end pending → new ≡ drop (end + 1) pending
      → answered ≡ answer (take end pending) session → Hears session before (prepend_known new left) answered
  hears_line end new answered line taken is =
      let gone : Consumes before (prepend_known (drop (end + 1) pending) left) (take (end + 1) pending) =
      taken_more before before left [] pending (end + 1) (Consumes-nil before) kept in
      a_line (take end pending) line.0 (rw taken (subst (Consumes before (prepend_known (drop (end + 1) pending) left)) line.1 gone)) is

  -- the last bytes
  ahead_at_end : IsAtEnd left → IsAhead pending before
  ahead_at_end end =
      let all : pending ++ or_nothing left ≡ pending = ap (λ l. pending ++ l) (none_left left end) ∙ append-nil pending in
      ahead_kept before (prepend_known pending left) pending kept
      (subst (λ (t : List ℕ). IsAhead t (prepend_known pending left)) all (ahead_of pending left))

  pub hears_rest : (rest : Option (List ℕ)) → IsOneLine pending → 0 < length pending → IsAtEnd left
      → Hears session before rest (unended session)
  hears_rest rest one some end = no_line pending one some (ahead_at_end end) refl

  -- nothing
  pub hears_end : pending ≡ [] → IsAtEnd left → IsAhead [] before
  hears_end none end = subst (λ (t : List ℕ). IsAhead t before) none (ahead_at_end end)

-- ---- a line that is too long, or bytes that are none, were skipped
module _ (session : Session) (before : Option (List ℕ)) (least : ℕ) (long : MOST_LINE < least) where
  pub hears_long : (rest : Option (List ℕ)) → Skips true least before rest → Hears session before rest (says (Refused TooLong) session)
  unfolding answer
  hears_long rest skips =
      let more : MOST_LINE < length skips.line = omega (arith, long, skips.long) in
      a_line skips.line skips.one skips.taken (rw (lt-ltb _ _ more) refl)

  pub hears_unended : (left : Option (List ℕ)) (pending : List ℕ) → Skips false least before (prepend_known pending left)
      → pending ≡ [] → IsAtEnd left → Hears session before (prepend_known pending left) (unended session)
  hears_unended left pending skips none end =
      let nothing : pending ++ or_nothing left ≡ [] = ap (λ l. l ++ or_nothing left) none ∙ none_left left end in
      let ahead : IsAhead skips.line before =
      subst (λ (t : List ℕ). IsAhead t before) (ap (λ l. skips.line ++ l) nothing ∙ append-nil skips.line)
      (ahead_more before (prepend_known pending left) skips.line (pending ++ or_nothing left) skips.taken (ahead_of pending left)) in
      no_line skips.line skips.one (omega (arith, long, skips.long)) ahead refl
