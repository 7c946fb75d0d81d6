-- The part of a picture that is not written yet.
use Rattle.std.specs.Prelude.{ℕ, List, ◌++◌}
use Rattle.apex_drawing.specs.declared.pages.Page.{Page}

-- the bytes of the page: its text, and its columns
abbrev pub pending : Page → List ℕ
pending page = page.text.items ++ page.columns.items
