-- The two forms of a text: its words, or JSON (this profile).
use Rattle.apex_json.specs.declared.forms.Form.{Form}
use Rattle.apex_json.specs.declared.forms.Form.TheVariants.{Text, Json}

-- the one of the two that belongs to the form
abbrev pub in_form : {X : Type 0} → Form → X → X → X
in_form Text text json = text
in_form Json text json = json
