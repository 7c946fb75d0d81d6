-- The five parts are those of the text.
use Rattle.std.proofs.Common.{◌++◌, codes}
use Rattle.std.specs.Prelude.{flat_map}
use Rattle.apex_waves.specs.Heads.{declaration_text, scope_text}
use Rattle.apex_waves.specs.Kinds.{scope_word, signals_in}
use Rattle.apex_waves.proofs.Nexts.{behind}
use Rattle.apex_waves.proofs.heads.put_scope.Goals as goal

pub returns-clause-text : goal.returns-clause-text
unfolding scope_text
returns-clause-text c =
    let text = c.args.sheet.now in
    let table = c.args.table.now in
    let kind = c.args.kind in
    let head = codes "$scope module " in
    let named = head ++ scope_word kind in
    let opened = named ++ codes " $end\n" in
    let declared = opened ++ flat_map (declaration_text table) (signals_in table kind) in
    behind text declared (codes "$upscope $end\n") _ _
    (behind text opened (flat_map (declaration_text table) (signals_in table kind)) _ _
    (behind text named (codes " $end\n") _ _
    (behind text head (scope_word kind) _ _ c.put.ensures.text (rw c.scope.ensures.value at c.put-2.ensures.text))
    c.put-3.ensures.text)
    c.put_declarations.ensures.text)
    c.put-4.ensures.text
