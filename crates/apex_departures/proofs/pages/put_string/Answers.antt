-- The bytes stand between two quotes.
use Rattle.std.proofs.Common.{codes}
use Rattle.apex_json.specs.Strings.{json_text}
use Rattle.apex_objects.specs.Parts.{string_text}
use Rattle.apex_departures.proofs.ThreeParts.{three_parts}
use Rattle.apex_departures.proofs.pages.put_string.Goals as goal

pub returns : goal.returns
unfolding string_text
returns c =
    three_parts c.put-2.result c.args.page.now.items (codes "\"") (json_text c.args.bytes.now) (codes "\"") c.put.new.text.items c.put_json.new.text.items
    c.put-2.new.text.items c.in_ok-put.ensures c.in_ok-put_json.ensures.ok c.put-2.ensures
