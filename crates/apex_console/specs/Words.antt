-- The words of a command line; the first word is the program's name.
use Rattle.std.specs.Prelude.{◌≡◌, true, false, Bool, List, [], ◌∷◌, Option, Some, None, codes, if◌then◌else◌, fold, option_and_then}
use Rattle.std.specs.Str.{bytes_eq}
use Rattle.clap.specs.declared.builder.ArgAction.TheVariants.{Set, SetTrue}
use Rattle.clap.specs.Walk.{is_empty}
use Rattle.clap.specs.Words.{App, Kinds, Row, Rule, Text, fault_of, new_app, new_rule, subcommand_of, with_rule}
use Rattle.apex_console.specs.declared.words.Argument.{Argument}
use Rattle.apex_console.specs.declared.words.Argument.TheVariants.{Optional, Required, Flag}

-- an option with a value, which may be given
abbrev pub option_rule : Text → Rule
option_rule name = record (new_rule name) { long = Some name; action = Some Set }

-- an option with a value, which must be given
abbrev pub required_rule : Text → Rule
required_rule name = record (option_rule name) { required = true }

-- an option without a value, which may be given
abbrev pub flag_rule : Text → Rule
flag_rule name = record (new_rule name) { long = Some name; action = Some SetTrue }

-- the rule of an argument
abbrev pub rule_for : Argument → Rule
rule_for (Optional name) = option_rule name.now
rule_for (Required name) = required_rule name.now
rule_for (Flag name) = flag_rule name.now

-- the command with these rules, one behind the other
unfoldable pub with_rules : App → List Rule → App
with_rules app rules = fold with_rule app rules

-- the program of this name, which wants a command
abbrev pub program_alone : Text → App
program_alone name =
    let app = new_app name in
    record app { top = record app.top { subcommand_required = true } }

-- the text of a flag says that it is given
abbrev pub says_given : Option Text → Bool
says_given None = false
says_given (Some text) = bytes_eq text (codes "true")

-- the request of the command that was found, if no word is at fault
abbrev pub request_unless : {R : Type 0} → (Text × List Row → Option R) → Kinds
    → Option (Text × List Row) → Option R
request_unless request_in kinds found =
    if is_empty kinds then option_and_then request_in found else None

-- the request of the words of a program's command line, by that of a command with its rows
abbrev pub request_by : {R : Type 0} → (Text × List Row → Option R) → App → List Text → Option R
request_by request_in app words =
    request_unless request_in (fault_of app words) (subcommand_of app words)

-- no word is at fault, and this is the command that the words name, with its rows
abbrev pub NamesCommand : App → List Text → Option (Text × List Row) → Type 0
NamesCommand app words found = (fault_of app words ≡ []) × (subcommand_of app words ≡ found)

-- a word is at fault
abbrev pub HasFault : App → List Text → Type 0
HasFault app words = is_empty (fault_of app words) ≡ false
