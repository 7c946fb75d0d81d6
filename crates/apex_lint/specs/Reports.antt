-- The report on a text: a line or an object of JSON for each remark, and the verdict.
use Rattle.std.specs.Prelude.{◌≡◌, codes, decimal, ℕ, ◌+◌, zero, suc, nat_lt, ◌==◌, ◌||◌, if◌then◌else◌, List, [], ◌∷◌, ◌++◌, flat_map, length, map, string_bytes, Option, Some, None, Result, Ok, Err, IfOk}
use Rattle.std.specs.List.{All, filter}
use Rattle.apex_json.specs.Strings.{json_text}
use Rattle.apex_json.specs.declared.Form.TheVariants.{Text, Json}
use Rattle.apex_machine.specs.table.Table.{Table}
use Rattle.apex_words.specs.Fault.{key_word, section_word}
use Rattle.apex_table.specs.Reading.{table_of}
use Rattle.apex_words.specs.declared.subject.Part.TheVariants as part
use Rattle.apex_faults.specs.Locations.{IsLocationIn}
use Rattle.apex_faults.specs.declared.Location.{Location}
use Rattle.apex_remarks.specs.Remarks.{Head, detail, details_of_warnings, head, heads_by, severity_word}
use Rattle.apex_lint.specs.Terms.{Form, Part, Remark, Report, Subject, TableFault, LintVerdict}
use Rattle.apex_lint.specs.declared.reports.LintVerdict.TheVariants.{Accepted, Warned, Refused}

-- the number of an entry, unless the remark is about the section as a whole
abbrev pub number_words : ℕ → List ℕ
number_words zero = []
number_words (suc n) = codes " " ++ decimal (suc n)

-- the place of a subject; that of none is the text
abbrev pub place_words : Option Subject → List ℕ
place_words None = codes "text"
place_words (Some subject) = section_word subject.place.section ++ number_words subject.place.number

-- the text of a remark
unfoldable pub message : Remark → List ℕ
message remark = place_words remark.subject ++ string_bytes remark.detail

-- where a remark begins in a file
unfoldable pub mark_text : ℕ → List ℕ
mark_text number = codes ":" ++ decimal number

unfoldable pub marks_text : Location → List ℕ
marks_text location = mark_text location.line ++ mark_text location.column

unfoldable pub location_text : List ℕ → Location → List ℕ
location_text file location = file ++ marks_text location

-- what a line says of its place: the severity, the text, and the word
unfoldable pub severity_text : Remark → List ℕ
severity_text remark = codes ": " ++ severity_word remark.severity

unfoldable pub said_text : Remark → List ℕ
said_text remark = codes ": " ++ message remark

unfoldable pub code_text : Remark → List ℕ
code_text remark = codes " [" ++ remark.code.now ++ codes "]"

unfoldable pub told_text : Remark → List ℕ
told_text remark = said_text remark ++ code_text remark

unfoldable pub remark_text : Remark → List ℕ
remark_text remark = severity_text remark ++ told_text remark

-- a remark in a line
unfoldable pub line_text : List ℕ → Remark → List ℕ
line_text file remark = location_text file remark.location ++ remark_text remark

-- a byte as a line shows it: `?` (63) for a control character
abbrev pub shown_byte : ℕ → ℕ
shown_byte byte = if nat_lt byte 32 || byte == 127 then 63 else byte

-- a text as a line, with its line feed
abbrev pub plain_line : List ℕ → List ℕ
plain_line text = map shown_byte text ++ codes "\n"

abbrev pub lines_text : List ℕ → List Remark → List ℕ
lines_text file remarks = flat_map (λ remark. plain_line (line_text file remark)) remarks

-- a string of JSON
unfoldable pub quoted : List ℕ → List ℕ
quoted text = codes "\"" ++ json_text text ++ codes "\""

-- a step and a word, which are counted from 1
unfoldable pub step_member : ℕ → List ℕ
step_member k = codes ", \"step\": " ++ decimal (k + 1)

unfoldable pub word_member : ℕ → List ℕ
word_member n = codes ", \"word\": " ++ decimal (n + 1)

-- a key, or a step and a word of it
abbrev pub part_members : Part → List ℕ
part_members part.Whole = []
part_members (part.Key k) = codes ", \"key\": \"" ++ key_word k ++ codes "\""
part_members (part.OtherKey i) = []
part_members (part.Step k) = step_member k
part_members (part.Word k n) = step_member k ++ word_member n

abbrev pub subject_members : Option Subject → List ℕ
subject_members None = []
subject_members (Some subject) =
    codes ", \"section\": \"" ++ section_word subject.place.section
    ++ codes "\", \"entry\": " ++ decimal subject.place.number ++ part_members subject.part

-- where a remark begins
unfoldable pub line_member : ℕ → List ℕ
line_member line = codes ", \"line\": " ++ decimal line

unfoldable pub column_member : ℕ → List ℕ
column_member column = codes ", \"column\": " ++ decimal column

unfoldable pub location_members : Location → List ℕ
location_members location = line_member location.line ++ column_member location.column

-- of which kind it is
unfoldable pub kind_members : Remark → List ℕ
kind_members remark =
    codes ", \"severity\": \"" ++ severity_word remark.severity
    ++ codes "\", \"code\": \"" ++ remark.code.now ++ codes "\""

-- the members between the file and the message
unfoldable pub first_members : Remark → List ℕ
first_members remark = location_members remark.location ++ kind_members remark

unfoldable pub middle_members : Remark → List ℕ
middle_members remark = first_members remark ++ subject_members remark.subject

-- an object up to its message, and the rest of it
unfoldable pub object_front : List ℕ → Remark → List ℕ
object_front file remark = codes "{\"file\": " ++ quoted file ++ middle_members remark

unfoldable pub object_end : Remark → List ℕ
object_end remark = codes ", \"message\": " ++ quoted (message remark) ++ codes "}"

-- a remark as an object of JSON
unfoldable pub object_text : List ℕ → Remark → List ℕ
object_text file remark = object_front file remark ++ object_end remark

-- the object behind another one
unfoldable pub next_object_text : List ℕ → Remark → List ℕ
next_object_text file remark = codes ",\n" ++ object_text file remark

abbrev pub more_objects_text : List ℕ → List Remark → List ℕ
more_objects_text file remarks = flat_map (next_object_text file) remarks

-- an array of them
abbrev pub objects_text : List ℕ → List Remark → List ℕ
objects_text file [] = codes "[]\n"
objects_text file (remark ∷ remarks) =
    codes "[\n" ++ object_text file remark ++ more_objects_text file remarks ++ codes "\n]\n"

abbrev pub report_text : Form → List ℕ → List Remark → List ℕ
report_text Text file remarks = lines_text file remarks
report_text Json file remarks = objects_text file remarks

-- the verdict on a table, by the remarks
abbrev pub verdict_on : List Head → LintVerdict
verdict_on [] = Accepted
verdict_on (head ∷ heads) = Warned

-- the verdict on a text, by what reading it gives and by the remarks
abbrev pub verdict_by : Result Table TableFault → List Head → LintVerdict
verdict_by (Err fault) heads = Refused
verdict_by (Ok table) heads = verdict_on heads

-- if the text is a table, the remarks have the texts of its warnings
abbrev pub HaveDetails : List (List ℕ) → List ℕ → List Remark → Type 0
HaveDetails allowed text remarks =
    IfOk (table_of text) (λ table. map detail remarks ≡ details_of_warnings allowed table)

-- these are the remarks on the text, each at a place of it
pub record AreRemarksOn (allowed : List (List ℕ)) (text : List ℕ) (remarks : List Remark) : Type 0 where
  pub heads : map head remarks ≡ heads_by allowed text (table_of text)
  pub places : All (λ (r : Remark). IsLocationIn text r.location) remarks
  pub details : HaveDetails allowed text remarks

-- a report on the text: its remarks, as the form writes them
abbrev pub IsReportOn : Form → List ℕ → List (List ℕ) → List ℕ → Report → Type 0
IsReportOn form file allowed text report =
    (report.verdict ≡ verdict_by (table_of text) (heads_by allowed text (table_of text)))
    × (remarks : List Remark) × AreRemarksOn allowed text remarks
    × (report.text.items ≡ report_text form file remarks)

-- a report in lines has a line feed for each remark, and no other one
abbrev pub HasALineForEach : Type 0
HasALineForEach =
    (file : List ℕ) (remarks : List Remark)
    → length (filter (λ byte. byte == 10) (lines_text file remarks)) ≡ length remarks
