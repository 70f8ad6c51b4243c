use Rattle.std.proofs.Common.{List, subst, sym}
use Rattle.std.proofs.lemmas.Result.{err_from_is_err_and}
use Rattle.eos_disk.specs.declared.names.FileName.{FileName}
use Rattle.eos_disk.specs.Paths.{path_of_end}
use Rattle.eos_disk.specs.Shapes.{IsFound}
use Rattle.eos_disk.proofs.FilesInOrder.{found_listed}
use Rattle.eos_disk.proofs.ListingsCut.{cut_unlisted, cut_taken}
use Rattle.eos_disk.proofs.NamedMore.{named_next}
use Rattle.eos_disk.proofs.listing.Segments.add_all.Goals as goal

pub loop-end-preserved : goal.loop-end-preserved
loop-end-preserved g c =
    let holds = g.D.Disk.holds c.args.disk.now in
    let folder = c.args.folder.now in
    let e = c.end-item.result in
    let files = c.as_slice.result.now in
    let found = subst (λ (fs : List FileName). IsFound holds (path_of_end folder e) fs) (sym c.as_slice.ensures.value) c.in_ok-files.ensures.ok in
    let added = c.in_ok-add_files.ensures in
    named_next holds folder c.args.ends.now c.loop-end.end-index e c.loop-end.self.names.items c.add_files.new.self.names.items c.loop-end.self.forms.items c.add_files.new.self.forms.items files
    c.loop-end-test.true c.end-item.is c.loop-end.invariant (found_listed holds folder e files found added.apart) added.names added.forms

pub returns-in_err-files-clause-cut : goal.returns-in_err-files-clause-cut
returns-in_err-files-clause-cut g c =
    let p = err_from_is_err_and c.from_residual.result c.from_residual.ensures.1 in
    rw (p.1, p.2) (cut_unlisted (g.D.Disk.holds c.args.disk.now) c.args.folder.now c.args.ends.now c.loop-end.end-index c.end-item.result c.loop-end.self.names.items c.loop-end.self.forms.items
    c.in_err-files.field-0.0 c.loop-end-test.true c.end-item.is c.loop-end.invariant c.in_err-files.ensures.err)

pub returns-in_err-add_files-clause-cut : goal.returns-in_err-add_files-clause-cut
returns-in_err-add_files-clause-cut g c =
    let p = err_from_is_err_and c.from_residual-in_err-add_files.result c.from_residual-in_err-add_files.ensures.1 in
    let holds = g.D.Disk.holds c.args.disk.now in
    let folder = c.args.folder.now in
    let e = c.end-item.result in
    let files = c.as_slice.result.now in
    let found = subst (λ (fs : List FileName). IsFound holds (path_of_end folder e) fs) (sym c.as_slice.ensures.value) c.in_ok-files.ensures.ok in
    rw (p.1, p.2) (cut_taken holds folder c.args.ends.now c.loop-end.end-index e c.loop-end.self.names.items c.add_files.new.self.names.items c.loop-end.self.forms.items c.add_files.new.self.forms.items
    files c.in_err-add_files.field-0.0 c.loop-end-test.true c.end-item.is c.loop-end.invariant found c.in_err-add_files.ensures.taken)
