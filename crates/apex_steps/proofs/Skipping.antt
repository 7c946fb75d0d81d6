-- A line that is skipped, part by part.
use Rattle.std.proofs.Common.{◌≡◌, ◌∙◌, ℕ, ◌+◌, ◌≤◌, Option, arith, ap, sym, subst, List, [], ◌++◌, length, length-append, take, drop, append_assoc, ◌∷◌}
use Rattle.std.proofs.KnownBytes.{Consumes-kept, Consumes-nil, Keeps-refl}
use Rattle.std.proofs.lemmas.List.{drop_all, take_all}
use Rattle.std.specs.Io.KnownBytes.{Consumes, Keeps, prepend_known}
use Rattle.std.specs.Prelude.{true, false}
use Rattle.apex_incoming.specs.Ahead.{IsFirstLine}
use Rattle.apex_incoming.specs.Lines.{IsOneLine, ended}
use Rattle.apex_incoming.proofs.Coming.{taken_more}
use Rattle.apex_incoming.proofs.FirstLines.{one_line_append}
use Rattle.apex_steps.specs.Conversations.{Skips}

-- all that was read ahead is taken
pub all_gone : (old before left : Option (List ℕ)) (part pending new : List ℕ) → Consumes old before part
    → Keeps before (prepend_known pending left) → new ≡ [] → Consumes old (prepend_known new left) (part ++ pending)
all_gone old before left part pending new gone kept none =
    let all : drop (length pending) pending ≡ [] = drop_all (length pending) pending (omega arith) in
    let same : take (length pending) pending ≡ pending = take_all (length pending) pending (omega arith) in
    subst (λ (l : List ℕ). Consumes old (prepend_known l left) (part ++ pending)) (all ∙ sym none)
    (subst (λ (l : List ℕ). Consumes old (prepend_known (drop (length pending) pending) left) (part ++ l)) same
    (taken_more old before left part pending (length pending) gone kept))

-- at first
pub first_gone : (pending new : List ℕ) (left : Option (List ℕ)) → new ≡ []
    → Consumes (prepend_known pending left) (prepend_known new left) pending
first_gone pending new left none =
    all_gone (prepend_known pending left) (prepend_known pending left) left [] pending new (Consumes-nil (prepend_known pending left))
    (Keeps-refl (prepend_known pending left)) none

-- of a line this part was taken, and these bytes come next
module _ (old before left : Option (List ℕ)) (part pending new : List ℕ) (least : ℕ)
    (gone : Consumes old before part) (one : IsOneLine part) (long : least ≤ length part)
    (kept : Keeps before (prepend_known pending left)) where
  -- the line has ended
  pub skips_line : (end : ℕ) → IsFirstLine end pending → new ≡ drop (end + 1) pending → Skips true least old (prepend_known new left)
  skips_line end line is =
      let taken : Consumes old (prepend_known (drop (end + 1) pending) left) (part ++ take (end + 1) pending) =
      taken_more old before left part pending (end + 1) gone kept in
      let split : part ++ take (end + 1) pending ≡ ended (part ++ take end pending) =
      ap (λ l. part ++ l) line.1 ∙ sym (append_assoc part (take end pending) (10 ∷ [])) in
      record {
        line = part ++ take end pending;
        one = one_line_append part (take end pending) one line.0;
        long = omega (arith, long, length-append part (take end pending));
        taken = rw is (subst (Consumes old (prepend_known (drop (end + 1) pending) left)) split taken);
      }

  -- the text has ended with more of it
  pub skips_rest : IsOneLine pending → new ≡ [] → Skips false least old (prepend_known new left)
  skips_rest also none = record {
    line = part ++ pending;
    one = one_line_append part pending one also;
    long = omega (arith, long, length-append part pending);
    taken = all_gone old before left part pending new gone kept none;
  }

  -- the text has ended
  pub skips_all : Skips false least old (prepend_known pending left)
  skips_all = record {
    line = part;
    one = one;
    long = long;
    taken = Consumes-kept old before (prepend_known pending left) part gone kept;
  }
