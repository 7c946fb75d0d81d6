-- The members of a report's rows, and their texts in both forms of a report (this profile).
use Rattle.std.specs.Prelude.{ℕ, ◌+◌, List, ◌++◌, Option, None, Some, codes, decimal, flat_map, length}
use Rattle.apex_json.specs.Forms.{in_form}
use Rattle.apex_json.specs.Strings.{json_text}
use Rattle.apex_json.specs.declared.Form.{Form}
use Rattle.apex_report.specs.declared.members.Member as declared

-- a name, as a string
abbrev pub string_text : List ℕ → List ℕ
string_text name = codes "\"" ++ json_text name ++ codes "\""

-- a name, which is a string in JSON
abbrev pub name_in : Form → List ℕ → List ℕ
name_in form name = in_form form name (string_text name)

-- a key behind other members
abbrev pub key_in : Form → List ℕ → List ℕ
key_in form key = in_form form (codes " ") (codes ",\"") ++ key ++ in_form form (codes "=") (codes "\":")

-- a number, or the sign for none
abbrev pub value_in : Form → Option ℕ → List ℕ
value_in form None = in_form form (codes "-") (codes "null")
value_in form (Some n) = decimal n

-- a member: its key, and a number or none
abbrev pub Member : Type 0
Member = List ℕ × Option ℕ

-- a member with this key and this value, behind others
abbrev pub member_in : Form → List ℕ → Option ℕ → List ℕ
member_in form key value = key_in form key ++ value_in form value

-- members behind others
unfoldable pub members_in : Form → List Member → List ℕ
members_in form members = flat_map (λ (m : Member). member_in form m.0 m.1) members

-- the text of a member of the code's lists
abbrev pub text_of : Form → declared.Member → List ℕ
text_of form member = member_in form member.0.now member.1

-- the most bytes of its text: those of its key, and 26 more
abbrev pub room_of : declared.Member → ℕ
room_of member = length member.0.now + 26
