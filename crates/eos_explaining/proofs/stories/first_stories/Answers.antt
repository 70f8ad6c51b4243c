-- Which refusal of the folder it is, and what is so of the evidence that stands there.
use Rattle.std.proofs.Common.{true, map, string_bytes}
use Rattle.std.proofs.lemmas.Result.{err_from_is_err_and}
use Rattle.eos_source.proofs.FirstRefusals.{of_manifest, of_piece, of_listing}
use Rattle.eos_explaining.specs.FirstStories.{AreFirstStories}
use Rattle.eos_source_check.proofs.FoldersRead.{in_folder}
use Rattle.eos_explaining.proofs.FolderAnswers.{known_of}
use Rattle.eos_explaining.specs.Folders.{HoldsAsNamed}
use Rattle.eos_explaining.proofs.stories.first_stories.Goals as goal

pub returns-in_ok-shape-in-Ok-clause-some : goal.returns-in_ok-shape-in-Ok-clause-some
returns-in_ok-shape-in-Ok-clause-some g c =
    let folder = c.args.folder in
    let shape = c.in_ok-shape.shape in
    in_folder (g.D.Disk.holds folder.disk.now) folder.path.now shape.evidence shape.forms.items
    (λ known s. HoldsAsNamed known s (λ e. AreFirstStories folder.path.now e c.args.first.now.most (map string_bytes c.in-Ok.texts.items))) (c.in_ok-shape.ensures.all c.in_ok-shape-in-Ok.was) c.in-Ok.ensures.told

pub returns-in_ok-shape-in-Ok-clause-known : goal.returns-in_ok-shape-in-Ok-clause-known
returns-in_ok-shape-in-Ok-clause-known g c e known at =
    let folder = c.args.folder in
    let shape = c.in_ok-shape.shape in
    known_of (g.D.Disk.holds folder.disk.now) folder.path.now (λ x. AreFirstStories folder.path.now x c.args.first.now.most (map string_bytes c.in-Ok.texts.items)) e known at
    (in_folder (g.D.Disk.holds folder.disk.now) folder.path.now shape.evidence shape.forms.items
    (λ known s. HoldsAsNamed known s (λ x. AreFirstStories folder.path.now x c.args.first.now.most (map string_bytes c.in-Ok.texts.items))) (c.in_ok-shape.ensures.all c.in_ok-shape-in-Ok.was) c.in-Ok.ensures.told)

pub returns-in_err-shape-clause-first : goal.returns-in_err-shape-clause-first
returns-in_err-shape-clause-first g c =
    let p = err_from_is_err_and c.from_residual.result c.from_residual.ensures.1 in
    let folder = c.args.folder in
    rw (p.1, p.2) (of_manifest (g.D.Disk.holds folder.disk.now) folder.path.now true c.in_err-shape.field-0.0 c.in_err-shape.ensures.refused)

pub returns-in-Err-clause-first : goal.returns-in-Err-clause-first
returns-in-Err-clause-first g c =
    let folder = c.args.folder in
    let shape = c.in_ok-shape.shape in
    of_piece (g.D.Disk.holds folder.disk.now) folder.path.now true shape.evidence shape.forms.items shape.listed c.in-Err.fault c.in_ok-shape.ensures.all c.in_ok-shape.ensures.front c.in-Err.ensures.refused

pub returns-in_err-shape-in-Ok-clause-first : goal.returns-in_err-shape-in-Ok-clause-first
returns-in_err-shape-in-Ok-clause-first g c =
    let p = err_from_is_err_and c.from_residual-in_err-shape-in-Ok.result c.from_residual-in_err-shape-in-Ok.ensures.1 in
    let folder = c.args.folder in
    let shape = c.in_ok-shape.shape in
    let why = c.in_err-shape-in-Ok.field-0.0 in
    rw (p.1, p.2) (of_listing (g.D.Disk.holds folder.disk.now) folder.path.now true shape.evidence shape.forms.items why
    (c.in_ok-shape.ensures.front why c.in_err-shape-in-Ok.was) c.in-Ok.ensures.opened)
