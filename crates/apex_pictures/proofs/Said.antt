-- The call and the reply of an entry are in the line of an entry without a caller.
use Rattle.std.proofs.Common.{◌≡◌, ◌∙◌, ℕ, ◌≤◌, List, [], ◌++◌, ap, arith, length, drop, append-nil, append_assoc, codes, decimal}
use Rattle.std.proofs.lemmas.Fmt.{decimal_digit}
use Rattle.apex_calls.specs.Lines.{asked_text, line_of, reply_text}
use Rattle.apex_machine.specs.table.Table.{Table}
use Rattle.apex_pictures.specs.Svg.{bare, said_line}
use Rattle.apex_moments.specs.Terms.{Entry}

zero_text : decimal 0 ≡ codes "0"
zero_text = decimal_digit 0 (omega arith)

pub bare_line : (table : Table) (e : Entry) → line_of table (bare e) ≡ codes "0 0 ticker - " ++ said_line table e
bare_line table e =
    let front = codes "0 0 ticker - " in
    let asked = asked_text table e.call e.reply in
    let reply = reply_text table e.reply in
    ap (λ (zero : List ℕ). zero ++ codes " " ++ zero ++ codes " " ++ codes "ticker" ++ codes " " ++ codes "-" ++ codes " "
    ++ asked ++ codes " -> " ++ reply ++ [] ++ codes "\n") zero_text
    ∙ ap (λ (l : List ℕ). l ++ codes "\n") (append-nil (front ++ asked ++ codes " -> " ++ reply))
    ∙ ap (λ (l : List ℕ). (l ++ reply) ++ codes "\n") (append_assoc front asked (codes " -> "))
    ∙ ap (λ (l : List ℕ). l ++ codes "\n") (append_assoc front (asked ++ codes " -> ") reply)
    ∙ append_assoc front (asked ++ codes " -> " ++ reply) (codes "\n")

-- the line is long enough, and behind its front are the call and the reply
pub bare_long : (table : Table) (e : Entry) (line : List ℕ) → line ≡ line_of table (bare e) → 13 ≤ length line
bare_long table e line is = omega (arith, ap length (is ∙ bare_line table e))

pub bare_said : (table : Table) (e : Entry) (line : List ℕ) → line ≡ line_of table (bare e) → drop 13 line ≡ said_line table e
bare_said table e line is = ap (drop 13) (is ∙ bare_line table e)
