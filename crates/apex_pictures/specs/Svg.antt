-- A picture as SVG. The places of rows and columns are the frame's; their contents are the
-- columns'.
use Rattle.std.specs.Prelude.{ℕ, ◌≡◌, ◌+◌, ◌-◌, ◌*◌, ◌<◌, ◌≤◌, max, min, Bool, false, true, List, [], ◌∷◌, ◌++◌, ◌==◌, ◌&&◌, ◌||◌, nat_le, nat_lt, length, Option, None, Some, codes, count_by, decimal, flat_map, slice_index_or, take, if◌then◌else◌}
use Rattle.apex_machine.specs.text.Texts.{id_text, process_name}
use Rattle.apex_calls.specs.Lines.{asked_text, line_of, reply_text}
use Rattle.apex_machine.specs.text.Listing.{texts_of}
use Rattle.apex_machine.specs.text.Status.{state_text, wait_text}
use Rattle.apex_machine.specs.table.Table.{Table}
use Rattle.apex_types.specs.declared.entries.Caller.TheVariants.{Process, Init, Nobody}
use Rattle.apex_types.specs.declared.entries.Who.TheVariants.{Ticker}
use Rattle.apex_machine.specs.declared.holdings.Holding.{Holding}
use Rattle.apex_types.specs.declared.entries.Notice.TheVariants.{Woken, Released, Missed}
use Rattle.apex_moments.specs.Moments.{Shown, no_cell}
use Rattle.apex_pictures.specs.Axes.{time_of}
use Rattle.apex_pictures.specs.Excerpts.{first_number, is_unfolded, last_number}
use Rattle.apex_pictures.specs.Looks.{end_text, meanings_text, style_text}
use Rattle.apex_pictures.specs.Rows.{selection_of}
use Rattle.apex_moments.specs.Terms.{Caller, Entry, Notice, Wait}
use Rattle.apex_moments.specs.declared.moments.Cell.{Cell}
use Rattle.apex_moments.specs.Texts.{texts, xml_text}
use Rattle.apex_moments.specs.Words.{notice_word}
use Rattle.apex_pictures.specs.declared.columns.Columns.{Columns}
use Rattle.apex_pictures.specs.declared.excerpts.Excerpt.{Excerpt}
use Rattle.apex_pictures.specs.declared.frames.Frame.{Frame}
use Rattle.apex_pictures.specs.declared.frames.TheConstants.{LETTER}
use Rattle.apex_pictures.specs.declared.marks.Mark.{Mark}
use Rattle.apex_pictures.specs.declared.marks.TheConstants.{MOST_LETTERS}
use Rattle.apex_pictures.specs.declared.rows.TheConstants.{ROW}
use Rattle.apex_pictures.specs.declared.rows.Selection.{Selection}
use Rattle.apex_pictures.specs.declared.svg.TheConstants.{MOST_CALL}

-- the place of the row of a process
abbrev pub row_of : Frame → ℕ → ℕ
row_of frame p = slice_index_or frame.rows.places.items p 0

-- the place of the column behind n others, from the first column
abbrev pub column_at : Columns → ℕ → ℕ
column_at columns n = slice_index_or columns.places.items n columns.behind

-- how many columns are before that of the entry of this number
abbrev pub column_before : Columns → ℕ → ℕ
column_before columns number =
    count_by (λ other. nat_lt other.number number) columns.drawn.items

-- the place of the column of the entry of this number
abbrev pub column_place : Frame → ℕ → ℕ
column_place frame number =
    frame.left + column_at frame.columns (column_before frame.columns number)

-- the width of the column of the entry of this number, up to the next one
abbrev pub column_width : Frame → ℕ → ℕ
column_width frame number =
    column_at frame.columns (column_before frame.columns number + 1)
    - column_at frame.columns (column_before frame.columns number)

-- the place of the heading of a core
abbrev pub heading_of : Frame → ℕ → ℕ
heading_of frame core = slice_index_or frame.rows.headings.items core 0

-- process p has a row
abbrev pub has_row : Frame → ℕ → Bool
has_row frame p = slice_index_or frame.rows.chosen.items p false

-- an entry has a column that is drawn: it is not before the first one, not behind the last one, and not
-- folded
abbrev pub shows : Columns → Entry → Bool
shows columns entry =
    (nat_le (first_number columns.drawn.items) entry.number
    && nat_le entry.number (last_number columns.drawn.items))
    && is_unfolded columns.fold entry

-- the place behind the last column
abbrev pub behind : Frame → ℕ
behind frame = frame.left + frame.columns.behind

-- the letters of the longer line of a mark, with the word before it
abbrev pub mark_letters : Mark → ℕ
mark_letters mark =
    max (length (codes "expected: ") + length mark.expected.items)
    (length (codes "given: ") + length mark.given.items)

-- The frame has room within its width for its columns, and for `MOST_LETTERS` letters of the mark behind
-- them. Each row and each heading ends above the instants, and the key is below these.
pub record HasRoom (frame : Frame) : Type 0 where
  pub columns : behind frame ≤ frame.width
  pub mark : (mark : Mark) → frame.mark ≡ Some mark
      → behind frame + 6 + LETTER * min (mark_letters mark) MOST_LETTERS ≤ frame.width
  pub top : frame.rows.top ≤ frame.bottom
  pub rows : (p : ℕ) → has_row frame p ≡ true → row_of frame p + ROW ≤ frame.bottom
  pub headings : (core : ℕ) → core < length frame.rows.headings.items
      → heading_of frame core + ROW ≤ frame.bottom
  pub key : frame.bottom ≤ frame.foot

-- the letters of the label of a process's row: its id, a blank and its name
abbrev pub label_letters : Table → ℕ → ℕ
label_letters table p = length (id_text p) + 1 + length (process_name table p)

-- the label of each row ends left of the columns
abbrev pub HasLabels : Table → Frame → Type 0
HasLabels table frame =
    (p : ℕ) → has_row frame p ≡ true → 20 + LETTER * label_letters table p ≤ frame.left

-- the tag with which the file begins: the size of the picture
unfoldable pub opening_text : Frame → List ℕ
opening_text frame = texts (
    codes "<svg xmlns='http://www.w3.org/2000/svg' width='" ∷ decimal frame.width
    ∷ codes "' height='" ∷ decimal (frame.foot + 24)
    ∷ codes "' font-family='DejaVu Sans, sans-serif' font-size='11'>\n" ∷ [])

-- what comes before the columns
abbrev pub head_text : Frame → List ℕ
head_text frame = opening_text frame ++ style_text

-- the heading of a core
unfoldable pub heading_text : Frame → ℕ → List ℕ
heading_text frame core = texts (
    codes "<text class='core' x='8' y='" ∷ decimal (heading_of frame core + 13)
    ∷ codes "'>core " ∷ decimal core ∷ codes "</text>\n" ∷ [])

-- the label of a process's row: its id and its name
unfoldable pub label_text : Table → Frame → ℕ → List ℕ
label_text table frame p = texts (
    codes "<text x='20' y='" ∷ decimal (row_of frame p + 13) ∷ codes "'>"
    ∷ id_text p ∷ codes " " ∷ xml_text (process_name table p) ∷ codes "</text>\n" ∷ [])

-- the label of a process's row, if it has one
abbrev pub label_at : Table → Frame → ℕ → List ℕ
label_at table frame p = if has_row frame p then label_text table frame p else []

-- a column has its instant below it: it is the first one, or its entry is later than that of the column
-- before it
abbrev pub is_begun : Columns → Entry → Bool
is_begun columns entry =
    let before = column_before columns entry.number in
    before == 0 || nat_lt (time_of columns.drawn.items (before - 1)) entry.now

-- the line and the text of an instant
unfoldable pub instant_text : Frame → ℕ → List ℕ
instant_text frame now = texts (
    codes "<line class='time' y1='" ∷ decimal frame.rows.top ∷ codes "' y2='"
    ∷ decimal (frame.bottom + 14)
    ∷ codes "'/><text class='now' transform='translate(4," ∷ decimal (frame.bottom + 18)
    ∷ codes ") rotate(60)'>t=" ∷ decimal now ∷ codes "</text>\n" ∷ [])

-- the instant of an entry, if it is shown
abbrev pub time_text : Frame → Entry → List ℕ
time_text frame entry =
    if is_begun frame.columns entry then instant_text frame entry.now else []

-- an entry without a caller, with this call and this reply
abbrev pub bare : Entry → Entry
bare e = record {
  number = 0;
  now = 0;
  who = Ticker;
  process = Nobody;
  call = e.call;
  reply = e.reply;
  notices = [];
}

-- the call and the reply of an entry, as in the line of the history
abbrev pub said_line : Table → Entry → List ℕ
said_line table entry =
    asked_text table entry.call entry.reply ++ codes " -> " ++ reply_text table entry.reply
    ++ codes "\n"

-- a line, or its first `MOST_CALL` bytes and `…` if it has more before its line feed, as XML shows it
abbrev pub cut_text : List ℕ → List ℕ
cut_text line =
    if nat_le (length line) (MOST_CALL + 1) then xml_text line
    else xml_text (take MOST_CALL line) ++ codes "&#8230;"

-- the call and the reply above a column
abbrev pub said_text : Table → Entry → List ℕ
said_text table entry = cut_text (said_line table entry)

-- the head of the text above a column, with its tooltip
unfoldable pub title_text : Frame → List ℕ → List ℕ
title_text frame line = texts (
    codes "<text class='call' transform='translate(19," ∷ decimal frame.rows.top
    ∷ codes ") rotate(-60)'><title>" ∷ xml_text line ∷ codes "</title>" ∷ [])

-- the end of a call, of a cell and of a column
unfoldable pub call_end : List ℕ
call_end = codes "</text>\n"

unfoldable pub cell_end : List ℕ
cell_end = codes "</title></rect>\n"

unfoldable pub column_end : List ℕ
column_end = codes "</g>\n"

-- the call and the reply above a column; its tooltip is the line of the history
abbrev pub call_text : Table → Frame → Entry → List ℕ
call_text table frame entry =
    title_text frame (line_of table entry) ++ said_text table entry ++ call_end

-- the caller of an entry is no process without a row
abbrev pub is_heard : Frame → Caller → Bool
is_heard frame (Process p) = has_row frame p
is_heard frame Init = true
is_heard frame Nobody = true

-- the call and the reply above a column, unless a process calls that has no row
abbrev pub call_at : Table → Frame → Entry → List ℕ
call_at table frame entry =
    if is_heard frame entry.process then call_text table frame entry else []

-- the wait of a process
abbrev pub waits_part : Option Wait → List ℕ
waits_part None = []
waits_part (Some wait) = codes " wait " ++ wait_text wait

-- a mutex that a process owns
abbrev pub mutex_text : Holding → List ℕ
mutex_text holding = codes " mutex:" ++ id_text holding.mutex

-- the bar below the cell of an owner of mutexes, up to the mutexes
unfoldable pub bar_text : Frame → ℕ → ℕ → List ℕ
bar_text frame width p = texts (
    codes "<rect class='owns' y='" ∷ decimal (row_of frame p + 15)
    ∷ codes "' width='" ∷ decimal width ∷ codes "' height='3'><title>owns" ∷ [])

-- the bar of a process that owns mutexes: its tooltip has all of them; no bar, if it owns none
abbrev pub owns_part : Frame → ℕ → ℕ → List Holding → List ℕ
owns_part frame width p [] = []
owns_part frame width p (first ∷ others) =
    bar_text frame width p ++ flat_map mutex_text (first ∷ others) ++ cell_end

-- a cell of this width, up to the wait of its process: its class is the state, and its tooltip has id,
-- name and state
unfoldable pub cell_part : Table → Frame → ℕ → ℕ → Cell → List ℕ
cell_part table frame width p cell = texts (
    codes "<rect class='" ∷ state_text cell.state ∷ codes "' data-process='" ∷ id_text p
    ∷ codes "' y='" ∷ decimal (row_of frame p) ∷ codes "' width='" ∷ decimal width
    ∷ codes "' height='16'><title>"
    ∷ id_text p ∷ codes " " ∷ xml_text (process_name table p) ∷ codes " " ∷ state_text cell.state
    ∷ [])

-- a cell in the row of its process
abbrev pub cell_text : Table → Frame → ℕ → ℕ → Cell → List ℕ
cell_text table frame width p cell =
    cell_part table frame width p cell ++ waits_part cell.wait ++ cell_end
    ++ owns_part frame width p cell.owned

-- the cell of process p of a moment, if the process has a row
abbrev pub cell_at : Table → Frame → ℕ → Shown → ℕ → List ℕ
cell_at table frame width shown p =
    if has_row frame p then cell_text table frame width p (slice_index_or shown.cells p no_cell)
    else []

-- a ring in the row of a process
unfoldable pub circle_text : Frame → List ℕ → ℕ → List ℕ
circle_text frame line p = texts (
    codes "<circle class='ring' data-process='" ∷ id_text p ∷ codes "' cx='16' cy='"
    ∷ decimal (row_of frame p + 8) ∷ codes "' r='4'><title>" ∷ xml_text line
    ∷ codes "</title></circle>\n" ∷ [])

-- the ring in the row of the caller, if a process calls that has one
abbrev pub ring_in : Frame → List ℕ → Caller → List ℕ
ring_in frame line (Process p) = if has_row frame p then circle_text frame line p else []
ring_in frame line Init = []
ring_in frame line Nobody = []

-- the ring of an entry: its caller's
abbrev pub ring_text : Table → Frame → Entry → List ℕ
ring_text table frame entry = ring_in frame (line_of table entry) entry.process

-- the process of a notice
abbrev pub notice_process : Notice → ℕ
notice_process (Woken p code) = p
notice_process (Released p) = p
notice_process (Missed p kind) = p

-- where the mark of a notice begins
abbrev pub corner_text : Notice → List ℕ
corner_text (Woken p code) = codes "M11,"
corner_text (Released p) = codes "M11,"
corner_text (Missed p kind) = codes "M1,"

-- the outline of the mark of a notice: a wedge, or a frame around the cell for a missed deadline
abbrev pub outline_text : Notice → List ℕ
outline_text (Woken p code) = codes " h10 l-5,9 z"
outline_text (Released p) = codes " h10 l-5,9 z"
outline_text (Missed p kind) = codes " m0,-4 h30 v20 h-30 z"

-- the line from a caller's ring to the mark of a notice
unfoldable pub dash_text : Frame → ℕ → Notice → List ℕ
dash_text frame caller notice = texts (
    codes "<line class='" ∷ notice_word notice ∷ codes "' x1='16' x2='16' y1='"
    ∷ decimal (row_of frame caller + 8) ∷ codes "' y2='"
    ∷ decimal (row_of frame (notice_process notice) + 4) ∷ codes "'/>\n" ∷ [])

-- the line from the ring of the caller, if a process calls, to the mark of a notice, if both have a row
abbrev pub dash_to : Frame → Caller → Notice → List ℕ
dash_to frame (Process p) notice =
    if has_row frame p && has_row frame (notice_process notice)
    then dash_text frame p notice else []
dash_to frame Init notice = []
dash_to frame Nobody notice = []

-- the mark of a notice, in the row of its process
unfoldable pub wedge_text : Frame → Notice → List ℕ
wedge_text frame notice = texts (
    codes "<path class='" ∷ notice_word notice ∷ codes "' data-process='"
    ∷ id_text (notice_process notice)
    ∷ codes "' d='" ∷ corner_text notice ∷ decimal (row_of frame (notice_process notice) + 2)
    ∷ outline_text notice ∷ codes "'><title>" ∷ notice_word notice ∷ codes " "
    ∷ id_text (notice_process notice) ∷ codes "</title></path>\n" ∷ [])

-- the mark of a notice, if its process has a row
abbrev pub wedge_at : Frame → Notice → List ℕ
wedge_at frame notice =
    if has_row frame (notice_process notice) then wedge_text frame notice else []

-- the marks of a column: the instant, the call, a cell for each process up to the next column, the lines
-- from the caller's ring to the marks of the notices, the ring, and the marks of the notices
abbrev pub marks_text : Table → Frame → Entry → Shown → List ℕ
marks_text table frame entry shown =
    time_text frame entry ++ call_at table frame entry
    ++ texts_of (cell_at table frame (column_width frame entry.number) shown)
    (length table.processes)
    ++ flat_map (dash_to frame entry.process) entry.notices
    ++ ring_text table frame entry ++ flat_map (wedge_at frame) entry.notices

-- the head of the column of the entry of this number
unfoldable pub start_text : Frame → ℕ → List ℕ
start_text frame number = texts (
    codes "<g class='column' data-entry='" ∷ decimal number ∷ codes "' transform='translate("
    ∷ decimal (column_place frame number)
    ∷ codes ",0)'>\n<text class='number' x='16' y='" ∷ decimal (frame.bottom + 8) ∷ codes "'>"
    ∷ decimal number ∷ codes "</text>\n" ∷ [])

-- the column of an entry, if the frame shows it
abbrev pub column_text : Table → Frame → Entry → Shown → List ℕ
column_text table frame entry shown =
    if shows frame.columns entry then
    start_text frame entry.number ++ marks_text table frame entry shown ++ column_end
    else []

-- the mark of a departure behind the last column: a line, the line that the machine expects, and the
-- line that was given
unfoldable pub mark_text : Frame → Mark → List ℕ
mark_text frame mark = texts (
    codes "<g class='departure' transform='translate("
    ∷ decimal (behind frame)
    ∷ codes ",0)'>\n<line class='departs' y1='" ∷ decimal frame.rows.top ∷ codes "' y2='"
    ∷ decimal (frame.bottom + 14) ∷ codes "'/><text class='departs' x='6' y='"
    ∷ decimal (frame.rows.top + 13) ∷ codes "'>expected: " ∷ xml_text mark.expected.items
    ∷ codes "</text><text class='departs' x='6' y='" ∷ decimal (frame.rows.top + 28)
    ∷ codes "'>given: " ∷ xml_text mark.given.items ∷ codes "</text>\n</g>\n" ∷ [])

-- the mark of a departure, if there is one
abbrev pub mark_part : Frame → Option Mark → List ℕ
mark_part frame None = []
mark_part frame (Some mark) = mark_text frame mark

-- the head of the group of the labels: the white behind them, up to the first column
unfoldable pub white_text : Frame → List ℕ
white_text frame = texts (
    codes "<g id='labels'>\n<rect width='" ∷ decimal frame.left
    ∷ codes "' height='100%' fill='#fff'/>\n" ∷ [])

-- the tag of the group of the key
unfoldable pub key_opening : Frame → List ℕ
key_opening frame =
    texts (codes "<g transform='translate(0," ∷ decimal frame.foot ∷ codes ")'>" ∷ [])

-- the key
abbrev pub key_text : Frame → List ℕ
key_text frame = key_opening frame ++ meanings_text

-- what a picture shows, of which more was asked for
unfoldable pub excerpt_text : Excerpt → List ℕ
excerpt_text excerpt = texts (
    codes "<text x='785' y='9'>entries " ∷ decimal excerpt.first ∷ codes " to "
    ∷ decimal excerpt.last ∷ codes " of " ∷ decimal excerpt.entries ∷ codes "</text>" ∷ [])

-- the note of what a picture shows, if more was asked for
abbrev pub note_text : Option Excerpt → List ℕ
note_text None = []
note_text (Some excerpt) = excerpt_text excerpt

-- how many processes have a row
unfoldable pub selection_text : Selection → List ℕ
selection_text selection = texts (
    codes "<text x='20' y='21'>" ∷ decimal selection.shown ∷ codes " of "
    ∷ decimal selection.all ∷ codes " processes</text>" ∷ [])

-- the note of how many processes have a row, unless all have one
abbrev pub selection_part : Option Selection → List ℕ
selection_part None = []
selection_part (Some selection) = selection_text selection

-- what comes after the columns: the mark of a departure, and the group of the labels, which a script
-- keeps in sight. It has a heading for each core, a label for each row, and the key, with the notes
-- behind it.
abbrev pub foot_text : Table → Frame → List ℕ
foot_text table frame =
    mark_part frame frame.mark ++ white_text frame ++ texts_of (heading_text frame) table.cores
    ++ texts_of (label_at table frame) (length table.processes)
    ++ key_text frame ++ note_text frame.columns.excerpt
    ++ selection_part (selection_of frame.rows.chosen.items) ++ end_text
