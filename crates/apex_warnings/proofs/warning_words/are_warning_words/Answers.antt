use Rattle.std.proofs.Common.{◌∙◌, rules, sym, tests}
use Rattle.std.proofs.lemmas.Iterator.{YieldsList-from_slice}
use Rattle.std.proofs.lemmas.Iterator.Search.{all_from_yields_List}
use Rattle.std.proofs.lemmas.List.Folds.{list_all-map}
use Rattle.apex_warnings.specs.WarningWords.{is_warning_word}
use Rattle.apex_warnings.proofs.warning_words.are_warning_words.Goals as goal

pub returns : goal.returns
returns c =
    all_from_yields_List (λ word. is_warning_word word.now) _ _ _ c.all.ensures.ran (YieldsList-from_slice c.args.words.now c.iter.ensures.rest) (λ x b q k. search (rules, tests))
    ∙ sym (list_all-map is_warning_word (λ word. word.now) c.args.words.now)
