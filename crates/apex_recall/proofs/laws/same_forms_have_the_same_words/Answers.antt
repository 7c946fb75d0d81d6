use Rattle.apex_recall.proofs.FormWords.{forms_have_words}
use Rattle.apex_recall.proofs.laws.same_forms_have_the_same_words.Goals as goal

pub returns : goal.returns
returns c table lawful = forms_have_words table
