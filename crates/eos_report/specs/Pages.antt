-- What a page says of a check, for people: the verdict and what it means, the notes, the faults that are told by their kinds and the
-- first ten of them, and the tables of partitions and groups; it ends with the stories of these ten and their pictures. Only how it looks
-- is left open: the style sheet in its head.
use Rattle.std.specs.Prelude.{◌≡◌, ℕ, List, [], ◌∷◌, ◌++◌, length, take, Bool, ◌&&◌, ◌==◌, codes, Option, None, Some}
use Rattle.std.specs.List.{flat_map, filter, find}
use Rattle.std.specs.Fmt.{decimal}
use Rattle.eos_verdict.specs.declared.verdict.Counts.{Counts}
use Rattle.eos_verdict.specs.declared.verdict.Fault.{Fault}
use Rattle.eos_verdict.specs.declared.verdict.Verdict.{Verdict}
use Rattle.eos_verdict.specs.declared.verdict.Verdict.TheVariants.{Yes, No}
use Rattle.eos_verdict.specs.VerdictNames.{phase_of, number_of, name_of}
use Rattle.eos_notes.specs.declared.note.Note.{Note}
use Rattle.eos_notes.specs.Texts.{note_lines}
use Rattle.eos_verdict.specs.FaultTexts.{fault_text}
use Rattle.eos_verdict.specs.VerdictTexts.{verdict_line}
use Rattle.eos_notes.specs.declared.tally.Tallies.{Tallies}
use Rattle.eos_report.specs.declared.about.About.{About}
use Rattle.eos_report.specs.Html.{html}
use Rattle.eos_report.specs.PageTables.{partitions_text, groups_text}

-- ---- the verdict, read aloud

unfoldable pub yes_words : Counts → List ℕ
yes_words c =
    (codes "<p>Yes: in these logs exactly once was kept. Counted were transactions: " ++ decimal c.transactions)
    ++ ((codes ", inputs: " ++ decimal c.inputs) ++ ((codes ", outputs: " ++ decimal c.outputs)
    ++ codes ".</p>\n<p>The logs are whole and fenced, no sequence is repeated or missing in a producer epoch, every transaction is committed in all its partitions or aborted in all, and the visible outputs are, for each input below its group's committed offset, its numbered outputs or one note, each once, and nothing else. That these are the cluster's whole logs, and that each output has the right value, no log can tell.</p>\n"))

unfoldable pub no_words : List Fault → List ℕ
no_words faults =
    (codes "<p>No: in these logs exactly once was not kept, or they are not whole. Faults told here: " ++ decimal (length faults))
    ++ codes ".</p>\n<p>A fault counts only where those that come before it in the order of the phases have none: partitions, the transaction log, both against each other, records, outputs.</p>\n"

abbrev pub verdict_words : Verdict → List Fault → List ℕ
verdict_words (Yes counts) faults = yes_words counts
verdict_words (No fault) faults = no_words faults

-- the line that `check` prints, and what it means
unfoldable pub verdict_part : Verdict → List Fault → List ℕ
verdict_part verdict faults = codes "<pre class=\"line\">" ++ (html (verdict_line verdict) ++ (codes "</pre>\n" ++ verdict_words verdict faults))

-- what was checked, by what
unfoldable pub about_part : About → List ℕ
about_part about =
    codes "<p>Folder: " ++ (html about.folder.now ++ (codes "<br>\neoscheck " ++ (html about.version.now ++ ((codes ", workers: " ++ decimal about.workers) ++ codes "</p>\n"))))

-- ---- notes, as `check` prints them

unfoldable pub notes_part : List Note → List ℕ
notes_part notes = codes "<h2>Notes</h2>\n<pre>" ++ (html (note_lines notes) ++ codes "</pre>\n")

-- ---- the faults

abbrev pub is_of_kind : ℕ → ℕ → Fault → Bool
is_of_kind phase number fault = phase_of fault == phase && number_of fault == number

-- a kind's number in the list of all, its name, and how many there are
unfoldable pub row_of : Fault → ℕ → List ℕ
row_of f n =
    (codes "<tr><td>" ++ decimal (phase_of f)) ++ ((codes "." ++ decimal (number_of f)) ++ ((codes "</td><td>" ++ name_of f)
    ++ ((codes "</td><td>" ++ decimal n) ++ codes "</td></tr>\n")))

-- that of a kind, by the first of its faults; nothing where there is none
abbrev pub kind_row : Option Fault → ℕ → List ℕ
kind_row None n = []
kind_row (Some f) n = row_of f n

abbrev pub phases : List ℕ
phases = 1 ∷ 2 ∷ 3 ∷ 4 ∷ 5 ∷ []

abbrev pub numbers : List ℕ
numbers = 1 ∷ 2 ∷ 3 ∷ 4 ∷ 5 ∷ 6 ∷ 7 ∷ 8 ∷ 9 ∷ 10 ∷ 11 ∷ 12 ∷ 13 ∷ []

abbrev pub number_row : List Fault → ℕ → ℕ → List ℕ
number_row faults phase number = kind_row (find (is_of_kind phase number) faults) (length (filter (is_of_kind phase number) faults))

abbrev pub phase_rows : List Fault → ℕ → List ℕ
phase_rows faults phase = flat_map (number_row faults phase) numbers

unfoldable pub kinds_part : List Fault → List ℕ
kinds_part faults =
    codes "<h2>Faults by kind</h2>\n<p>What a kind means and what makes it happen tells <code>eoscheck explain --code KIND</code>.</p>\n<div><table>\n<tr><th>Kind</th><th>Name</th><th>Told</th></tr>\n"
    ++ (flat_map (phase_rows faults) phases ++ codes "</table></div>\n")

unfoldable pub fault_item : Fault → List ℕ
fault_item f = codes "<li>" ++ (html (fault_text f) ++ codes "</li>\n")

-- the first ten
unfoldable pub first_part : List Fault → List ℕ
first_part faults = codes "<h2>The first faults</h2>\n<p>Where the fault of number N comes from in the logs tells <code>eoscheck explain --fault N FOLDER</code>, and <code>eoscheck draw --fault N FOLDER FILE.svg</code> draws it.</p>\n<ol>\n" ++ (flat_map fault_item (take 10 faults) ++ codes "</ol>\n")

abbrev pub faults_part : Verdict → List Fault → List ℕ
faults_part (Yes counts) faults = []
faults_part (No fault) faults = kinds_part faults ++ first_part faults

-- ---- all of it

unfoldable pub title_text : About → List ℕ
title_text about = codes "<!DOCTYPE html>\n<html lang=\"en\">\n<head>\n<meta charset=\"utf-8\">\n<meta name=\"viewport\" content=\"width=device-width, initial-scale=1\">\n<title>eoscheck: " ++ (html about.folder.now ++ codes "</title>\n")

unfoldable pub findings_text : Verdict → List Fault → List Note → List ℕ
findings_text verdict faults notes = verdict_part verdict faults ++ (notes_part notes ++ faults_part verdict faults)

unfoldable pub body_text : About → Verdict → List Fault → List Note → Tallies → List ℕ
body_text about verdict faults notes tallies =
    codes "</head>\n<body>\n<h1>Was exactly once kept?</h1>\n" ++ (about_part about ++ (findings_text verdict faults notes
    ++ (partitions_text tallies ++ groups_text tallies)))

-- a page, but for its end, that says this, and looks as it may
pub record IsPageText (about : About) (verdict : Verdict) (faults : List Fault) (notes : List Note) (tallies : Tallies) (text : List ℕ) : Type 0 where
  pub look : List ℕ
  pub is : text ≡ title_text about ++ (look ++ body_text about verdict faults notes tallies)
