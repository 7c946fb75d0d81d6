use Rattle.std.proofs.Common.{◌≡◌, ◌∙◌, length, ap, sym}
use Rattle.apex_pace.specs.Pace.{paced_opening}
use Rattle.apex_recall.specs.Formed.{form_words}
use Rattle.apex_forms.specs.Stored.{word_count}
use Rattle.apex_search.proofs.Starting.{start_ready}
use Rattle.apex_search.proofs.systems.TableSystemSystem.first.Goals as goal

pub copy_from_slice-requires : goal.copy_from_slice-requires
copy_from_slice-requires c =
    let s = c.self.inside in
    let many : length (form_words s.pace s.table (paced_opening s.table)) ≡ word_count s.table =
    (start_ready s.pace c.self.invariant.0 c.turns_are_few.ensures s.table c.lawful.ensures c.self.invariant.1 c.forms_are_ready.ensures).stored.many in
    let room : length c.args.state.now ≡ word_count s.table = rw (← c.self.view_is) at c.requires in
    room ∙ sym many ∙ sym (ap length (c.as_slice.ensures.value ∙ c.self.invariant.2))
