-- The line that has the texts of a call and of a reply.
use Rattle.std.proofs.Common.{◌≡◌, ℕ, ◌+◌, ◌-◌, List, ◌++◌, Option, None, Some, take, drop, length, codes, decimal, refl, ap, sym, arith, length-append, append_assoc, ◌∙◌}
use Rattle.std.proofs.lemmas.Fmt.{decimal_digit}
use Rattle.std.proofs.lemmas.List.{drop_at, take_at}
use Rattle.apex_calls.specs.Lines.{asked_text, no_call_text, reply_text}
use Rattle.apex_objects.specs.Terms.{Call, Reply}
use Rattle.apex_machine.specs.table.Table.{Table}
use Rattle.apex_objects.specs.Words.{words_line}

-- the text of a call depends on the reply by that of an entry without a call alone
pub call_stays : (table : Table) (call : Option Call) (one other : Reply) → no_call_text one ≡ no_call_text other
    → asked_text table call one ≡ asked_text table call other
call_stays table None one other same = same
call_stays table (Some call) one other same = refl

module _ (table : Table) (call : Option Call) (reply : Reply) where
  abbrev asked : List ℕ
  asked = asked_text table call reply

  abbrev replied : List ℕ
  replied = reply_text table reply

  -- the parts of the line
  parts : words_line table call reply ≡ codes "0 0 ticker - " ++ (asked ++ (codes " -> " ++ (replied ++ codes "\n")))
  parts =
      let zero_is : decimal 0 ≡ codes "0" = decimal_digit 0 (omega arith) in
      simp (zero_is, append_assoc) refl

  pub words_length : length (words_line table call reply) ≡ 13 + length asked + 4 + length replied + 1
  words_length =
      omega (arith, ap length parts, length-append asked (codes " -> " ++ (replied ++ codes "\n")), length-append replied (codes "\n"))

  pub words_call : (n : ℕ) → n ≡ length asked → take n (drop 13 (words_line table call reply)) ≡ asked
  words_call n e = rw parts (take_at asked (codes " -> " ++ (replied ++ codes "\n")) n (sym e))

  pub words_reply : (n : ℕ) → n ≡ length asked
      → take (length (words_line table call reply) - (13 + n + 4 + 1)) (drop (13 + n + 4) (words_line table call reply)) ≡ replied
  words_reply n e =
      let front = (codes "0 0 ticker - " ++ asked) ++ codes " -> " in
      let back = replied ++ codes "\n" in
      let whole : words_line table call reply ≡ front ++ back =
      parts ∙ ap (λ l. codes "0 0 ticker - " ++ l) (sym (append_assoc asked (codes " -> ") back)) in
      let here : length front ≡ 13 + n + 4 = omega (arith, e, length-append (codes "0 0 ticker - " ++ asked) (codes " -> ")) in
      let many : length (words_line table call reply) - (13 + n + 4 + 1) ≡ length replied = omega (arith, e, words_length) in
      rw (many, whole) (ap (take (length replied)) (drop_at front back (13 + n + 4) here) ∙ take_at replied (codes "\n") (length replied) refl)
