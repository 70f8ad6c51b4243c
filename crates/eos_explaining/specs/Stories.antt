-- The text of a story.
use Rattle.std.specs.Prelude.{ℕ, ℤ, List, [], ◌++◌, Option, Some, None, length, map, take, nat_le, if◌then◌else◌}
use Rattle.std.specs.Option.{option_copied}
use Rattle.eos_text.specs.declared.page.Page.{Page}
use Rattle.eos_claims.specs.declared.place.Place.{Place}
use Rattle.eos_notes.specs.declared.note.Note.{Note}
use Rattle.eos_notes.specs.Texts.{note_lines}
use Rattle.eos_verdict.specs.VerdictTexts.{verdict_line}
use Rattle.eos_story.specs.declared.row.Row.{Row}
use Rattle.eos_explaining.specs.declared.whole_story.Story.{Story}
use Rattle.eos_explaining.specs.Lines.{joined}
use Rattle.eos_explaining.specs.RowLines.{more_line}
use Rattle.eos_explaining.specs.Sentences.{sentences_text, shown_of}
use Rattle.eos_explaining.specs.Commands.{command_line}
use Rattle.eos_explaining.specs.Told.{told_line, told_lines}

-- that there are more than are shown, if so
abbrev pub rest_text : ℕ → ℕ → List ℕ
rest_text shown all = if nat_le all shown then [] else more_line shown all

-- the lines of its rows, each once, with the times that their records have
abbrev pub lines_of_story : (Row → Option ℤ) → Story → List (List ℕ)
lines_of_story time_of s = told_lines (option_copied s.place) time_of s.rows.now

-- those of the first rows, which what it means follows from
abbrev pub lines_of_first : (Row → Option ℤ) → Story → List (List ℕ)
lines_of_first time_of s = map (told_line (option_copied s.place) time_of) (take 22 s.rows.now)

unfoldable pub rows_text : List (List ℕ) → List ℕ
rows_text lines = joined (take 22 lines) ++ rest_text 22 (length lines)

-- what it means and what to do next, by the first rows, whose lines are all shown
abbrev pub page_text : Option Place → List Row → Option Page → List ℕ
page_text place rows None = []
page_text place rows (Some p) = sentences_text place (take 22 rows) p p.cases.now

unfoldable pub notes_text : List Note → List ℕ
notes_text notes = note_lines (take 6 notes) ++ rest_text 6 (length notes)

-- the command to run next, by these rows
abbrev pub next_text : Story → List ℕ
next_text s = command_line s.folder.now (option_copied s.place) (take 22 s.rows.now) (shown_of (option_copied s.place) (take 22 s.rows.now) (option_copied s.page))

unfoldable pub story_text : (Row → Option ℤ) → Story → List ℕ
story_text time_of s =
    verdict_line s.verdict.now
    ++ (rows_text (lines_of_story time_of s) ++ (page_text (option_copied s.place) s.rows.now (option_copied s.page)
    ++ (s.counts.now ++ (notes_text s.notes.now ++ next_text s))))
