-- How many of the segments that a folder lists stand in it as their folds, and a report that says it.
use Rattle.std.specs.Prelude.{◌≡◌, ℕ, List, length, filter, Bool, true, false, Option, option_map}
use Rattle.eos_disk.specs.Entries.{Entry}
use Rattle.eos_disk.specs.Shapes.{IsShapeAt}
use Rattle.eos_disk.specs.declared.names.Form.{Form}
use Rattle.eos_disk.specs.declared.names.Form.TheVariants.{Log, Fold}
use Rattle.eos_evidence.specs.Evidence.{EvidenceParts}
use Rattle.eos_report.specs.declared.about.About.{About}
use Rattle.eos_checking.specs.declared.check.Wanted.{Wanted}
use Rattle.eos_checking.specs.declared.folds.Folded.{Folded}

-- ---- the count

abbrev pub is_fold : Form → Bool
is_fold Log = false
is_fold Fold = true

abbrev pub fold_count : List Form → ℕ
fold_count forms = length (filter is_fold forms)

-- a shape stands in this folder, and so many are its segments and its folds
pub record IsFoldedAt (holds : List ℕ → Entry) (folder : List ℕ) (folded : Folded) : Type 0 where
  pub shape : EvidenceParts
  pub forms : List Form
  pub is : IsShapeAt holds folder shape forms
  pub folds : folded.folds ≡ fold_count forms
  pub segments : folded.segments ≡ length forms

-- ---- the report

-- the same of the run, but for how many segments are judged by folds
abbrev pub about_with : ℕ → About → About
about_with folds about = record { version = about.version; folder = about.folder; workers = about.workers; folds = folds }

-- what is wanted, with this count in its report
abbrev pub wanted_with : ℕ → Option Wanted → Option Wanted
wanted_with folds wanted = option_map (λ w. record { about = about_with folds w.about; report = w.report; page = w.page }) wanted
