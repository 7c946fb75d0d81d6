use Rattle.std.proofs.Common.{◌∙◌, rules, sym, tests}
use Rattle.std.specs.Str.{bytes_eq}
use Rattle.std.proofs.lemmas.Iterator.{YieldsList-from_slice}
use Rattle.std.proofs.lemmas.Iterator.Search.{any_from_yields_List}
use Rattle.apex_warnings.proofs.Lists.{list_any-map}
use Rattle.apex_warnings.proofs.warning_words.is_among.Goals as goal

pub returns : goal.returns
returns c =
    any_from_yields_List (λ other. bytes_eq c.args.word.now other.now) _ _ _ c.any.ensures.ran (YieldsList-from_slice c.args.words.now c.iter.ensures.rest) (λ x b q k. search (rules, tests))
    ∙ sym (list_any-map (bytes_eq c.args.word.now) (λ other. other.now) c.args.words.now)
