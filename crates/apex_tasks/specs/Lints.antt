-- How a table is linted.
use Rattle.std.specs.Prelude.{Bool, true, false, List, [], map, Option, Some, None, codes, option_map, unwrap_or}
use Rattle.clap.specs.Words.{Text}
use Rattle.apex_json.specs.declared.Form.{Form}
use Rattle.apex_json.specs.declared.Form.TheVariants as forms
use Rattle.apex_warnings.specs.WarningWords.{allowed_in}
use Rattle.apex_tasks.specs.Words.{LintSaid}
use Rattle.apex_tasks.specs.declared.lints.Lint.{Lint as LintIn}

-- how a table is linted: the form of the report, the name under which the table is reported, and the
-- words of the warnings that are left out
pub record Lint : Type 0 where
  pub form : Form
  pub file : Text
  pub allowed : List Text

abbrev pub form_of : Bool → Form
form_of true = forms.Json
form_of false = forms.Text

-- the words of the warnings that are left out; none if one of them is no warning's word
abbrev pub allowed_of : Option Text → Option (List Text)
allowed_of None = Some []
allowed_of (Some text) = allowed_in text

-- without a name, the table is reported as `-`
abbrev pub file_of : Option Text → Text
file_of name = unwrap_or name (codes "-")

abbrev pub lint_with : LintSaid → List Text → Lint
lint_with said allowed =
    record { form = form_of said.json; file = file_of said.name; allowed = allowed }

-- how a table is linted, by what is said; none if a word is no warning's
abbrev pub lint_asked : LintSaid → Option Lint
lint_asked said = option_map (lint_with said) (allowed_of said.allow)

-- the same, of a value of the program
abbrev pub lint_said : LintIn → Lint
lint_said lint = record {
  form = lint.form;
  file = lint.file.now;
  allowed = map (λ w. w.now) lint.allowed.items;
}
