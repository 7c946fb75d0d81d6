use Rattle.std.proofs.Common.{◌≡◌, ◌∙◌, Ok, map, refl, sym, ap, subst, rules, arith}
use Rattle.apex_machine.specs.table.Table.{IsLawful}
use Rattle.apex_table.specs.Names.{names_of}
use Rattle.apex_table.specs.Processes.{ProcessDraft}
use Rattle.apex_configs.specs.Texts.{IsWithTexts}
use Rattle.apex_table.specs.Scripts.{with_scripts}
use Rattle.apex_table.specs.Init.{init_list}
use Rattle.apex_configs.specs.Tables.{table_with}
use Rattle.apex_table.specs.Reading.{TableDraft, with_steps}
use Rattle.std.proofs.lemmas.Grind.{common_steps}
use Rattle.apex_table.proofs.KeptTexts.{kept_texts}
use Rattle.apex_table.proofs.Law.{lawful_of}
use Rattle.apex_table.proofs.reading.with_steps.Goals as goal

pub new-requires : goal.new-requires
unfolding with_steps
new-requires c =
    let draft = c.args.draft in
    let processes = c.in_ok-processes.processes.items in
    let init = c.in_ok-init.init.items in
    let scripts : with_scripts (names_of draft.processes draft.objects) draft.processes ≡ Ok processes = search rules in
    let steps : init_list (names_of draft.processes draft.objects) processes draft.objects draft.init ≡ Ok init = search rules in
    let lawful : IsLawful (table_with draft.head.profile draft.head.cores draft.head.limit processes draft.objects init) =
    lawful_of draft _ (record { tree = c.requires.read.tree; read = c.requires.read.read }) (rw (scripts, steps) refl) in
    subst (λ (d : TableDraft). IsWithTexts c.in_ok-script_texts.script_texts.items (table_with d.head.profile d.head.cores d.head.limit processes d.objects init)) (sym c.draft.view_is)
    (record {
      lawful = lawful;
      kept =
          (rw c.deref-4.ensures.value at c.in_ok-script_texts.ensures)
          ∙ ap (λ (d : TableDraft). map (λ (p : ProcessDraft). p.script) d.processes) c.draft.view_is
          ∙ kept_texts draft.head.profile draft.head.cores draft.head.limit draft.processes processes draft.objects init draft.init lawful scripts steps;
    })

pub init_list-requires-clause-texts : goal.init_list-requires-clause-texts
unfolding with_steps
init_list-requires-clause-texts c = grind (arith, common_steps)
