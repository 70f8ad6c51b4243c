use Rattle.std.proofs.Common.{arith}
use Rattle.std.proofs.lemmas.Result.{err_from_is_err_and}
use Rattle.eos_disk.specs.Paths.{path_of_end}
use Rattle.eos_disk.specs.Shapes.{segment_of}
use Rattle.eos_disk.proofs.FilesInOrder.{apart_all, apart_next}
use Rattle.eos_disk.proofs.FilesMore.{one_more}
use Rattle.eos_disk.proofs.ListingsCut.{taken_to}
use Rattle.eos_disk.proofs.listing.Segments.add_files.Goals as goal

pub loop-i-preserved : goal.loop-i-preserved
loop-i-preserved c =
    let so_far = c.loop-i.invariant in
    let added = c.in_ok-add.ensures in
    record {
      names = one_more (segment_of c.args.end.now) c.args.files.now c.loop-i.i c.args.self.now.names.items c.loop-i.self.names.items c.add.new.self.names.items so_far.names added.names;
      forms = one_more (λ f. f.form) c.args.files.now c.loop-i.i c.args.self.now.forms.items c.loop-i.self.forms.items c.add.new.self.forms.items so_far.forms added.forms;
      apart = apart_next c.args.files.now c.loop-i.i so_far.apart added.apart;
    }

pub returns-clause-apart : goal.returns-clause-apart
returns-clause-apart c = apart_all c.args.files.now (λ k lt. c.loop-i.invariant.apart k (omega (arith, lt, c.loop-i-test.false)))

pub returns-in_err-add-clause-taken : goal.returns-in_err-add-clause-taken
returns-in_err-add-clause-taken c =
    let p = err_from_is_err_and c.from_residual.result c.from_residual.ensures.1 in
    let so_far = c.loop-i.invariant in
    let files = c.args.files.now in
    let e = c.args.end.now in
    rw (p.1, p.2) (taken_to e (path_of_end c.args.folder.now e) files c.loop-i.i c.args.self.now.names.items c.loop-i.self.names.items c.add.new.self.names.items c.args.self.now.forms.items
    c.loop-i.self.forms.items c.add.new.self.forms.items c.in_err-add.field-0.0 so_far.names so_far.forms so_far.apart c.in_err-add.ensures.kept.0 c.in_err-add.ensures.kept.1 c.in_err-add.ensures.refused)
