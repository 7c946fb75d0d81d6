use Rattle.std.proofs.Common.{rules, tests}
use Rattle.std.specs.Str.{bytes_eq}
use Rattle.std.proofs.lemmas.Iterator.{YieldsList-from_slice}
use Rattle.std.proofs.lemmas.Iterator.Search.{any_from_yields_List}
use Rattle.apex_words.specs.Fault.{key_word}
use Rattle.apex_faults.proofs.mending.is_one_of.Goals as goal

pub returns : goal.returns
returns c =
    any_from_yields_List (λ k. bytes_eq c.args.name.now (key_word k)) _ _ _ c.any.ensures.ran (YieldsList-from_slice c.args.keys.now c.iter.ensures.rest) (λ x b q k. search (rules, tests))
