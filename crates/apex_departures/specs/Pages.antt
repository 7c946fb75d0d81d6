-- The page that explains a verdict: lines of text, or an object of JSON on a line of its own (this
-- profile).
use Rattle.std.specs.Prelude.{ℕ, ◌-◌, List, [], ◌++◌, length, take, codes, decimal, Option, None, Some}
use Rattle.apex_json.specs.Forms.{in_form}
use Rattle.apex_json.specs.declared.Form.{Form}
use Rattle.apex_json.specs.declared.Form.TheVariants as forms
use Rattle.apex_machine.specs.table.Table.{Table}
use Rattle.apex_calls.specs.Lines.{line_of}
use Rattle.apex_objects.specs.Parts.{string_text}
use Rattle.apex_departures.specs.Terms.{Entry}
use Rattle.apex_departures.specs.Shown.{column, shown}

-- a line without its line feed
abbrev pub unended : List ℕ → List ℕ
unended line = take (length line - 1) line

-- the line that the machine expects, as it is shown; `nothing` if it expects none
abbrev pub expected_text : Table → Option Entry → List ℕ
expected_text table None = codes "nothing"
expected_text table (Some entry) = shown (unended (line_of table entry))

-- a line as it is shown; in JSON as a string
abbrev pub line_in : Form → List ℕ → List ℕ
line_in forms.Text line = shown line
line_in forms.Json line = string_text (shown line)

-- a history whose lines are all the machine's
abbrev pub legal_in : Form → ℕ → List ℕ
legal_in forms.Text n = codes "legal " ++ decimal n ++ codes "\n"
legal_in forms.Json n = codes "{\"legal\":" ++ decimal n ++ codes "}\n"

-- the number of a line that departs
abbrev pub head_in : Form → ℕ → List ℕ
head_in forms.Text number = codes "departs at " ++ decimal number ++ codes "\ngiven: "
head_in forms.Json number = codes "{\"departs\":" ++ decimal number ++ codes ",\"given\":"

-- the column in which two lines differ; in JSON also the key of the reason
abbrev pub column_in : Form → List ℕ → List ℕ → List ℕ
column_in forms.Text given line = codes "\ncolumn: " ++ decimal (column given line) ++ codes "\n"
column_in forms.Json given line =
    codes ",\"column\":" ++ decimal (column given line) ++ codes ",\"reason\":"

-- the line that the machine expects, and the column
unfoldable pub expected_in : Form → List ℕ → List ℕ → List ℕ
expected_in form given line =
    in_form form (codes "\nexpected: ") (codes ",\"expected\":")
    ++ (line_in form line ++ column_in form given line)

-- the same if the machine expects no line; in JSON also `null` in place of the reason, and the end
abbrev pub nothing_in : Form → List ℕ → List ℕ
nothing_in forms.Text given =
    codes "\nexpected: nothing\ncolumn: " ++ decimal (column given []) ++ codes "\n"
nothing_in forms.Json given =
    codes ",\"expected\":null,\"column\":" ++ decimal (column given [])
    ++ codes ",\"reason\":null}\n"

-- that of the entry that the machine expects, if it expects one
abbrev pub compared_in : Form → Table → List ℕ → Option Entry → List ℕ
compared_in form table given None = nothing_in form given
compared_in form table given (Some entry) = expected_in form given (unended (line_of table entry))

-- a departure up to the reason of the machine's entry
abbrev pub departure_in : Form → Table → ℕ → List ℕ → Option Entry → List ℕ
departure_in form table number given expected =
    head_in form number ++ (line_in form given ++ compared_in form table given expected)

-- the reason, which stands last
abbrev pub reason_in : Form → List ℕ → List ℕ
reason_in forms.Text reason = codes "reason: " ++ reason ++ codes "\n"
reason_in forms.Json reason = string_text reason ++ codes "}\n"
