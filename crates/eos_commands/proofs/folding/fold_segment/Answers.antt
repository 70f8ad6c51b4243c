use Rattle.std.proofs.Common.{ap, ◌∙◌, w64, rules}
use Rattle.std.proofs.lemmas.Int.{to_z-of_z}
use Rattle.std.proofs.lemmas.Result.{err_from_is_err_and}
use mir.Val.{SFits}
use Rattle.eos_fold_file.specs.Reading.{read_fold}
use Rattle.eos_commands.specs.Folding.{item_of}
use Rattle.eos_commands.proofs.FoldsMore.{put_is, left_is, left_nothing}
use Rattle.eos_commands.proofs.FoldsRefused.{unread_log, unwritten_log}
use Rattle.eos_commands.proofs.folding.fold_segment.Goals as goal

pub returns-in_err-text-clause-err : goal.returns-in_err-text-clause-err
returns-in_err-text-clause-err g c =
    let p = err_from_is_err_and c.from_residual.result c.from_residual.ensures.1 in
    rw p.1 (left_nothing (g.D.Disk.holds c.args.disk.now) c.args.asked.out.now (item_of c.args.asked.wanted c.args.folder.now c.args.base))

pub returns-in_err-name-clause-err : goal.returns-in_err-name-clause-err
returns-in_err-name-clause-err g c =
    let p = err_from_is_err_and c.from_residual-in_err-name.result c.from_residual-in_err-name.ensures.1 in
    rw p.1 (left_nothing (g.D.Disk.holds c.args.disk.now) c.args.asked.out.now (item_of c.args.asked.wanted c.args.folder.now c.args.base))

pub returns-in_err-put-clause-err : goal.returns-in_err-put-clause-err
returns-in_err-put-clause-err g c =
    let p = err_from_is_err_and c.from_residual-in_err-put.result c.from_residual-in_err-put.ensures.1 in
    let left = c.in_err-put.ensures.err in
    rw p.1 (left_is (g.D.Disk.holds c.args.disk.now) left.0 (g.D.Disk.holds c.write_fold-put.new.disk) c.args.asked.out.now (item_of c.args.asked.wanted c.args.folder.now c.args.base)
    c.in_ok-name.name c.as_slice.result.now (search rules) left.1 left.2)

pub returns-clause-ok : goal.returns-clause-ok
returns-clause-ok g c =
    let fits : SFits w64 c.args.base = search rules in
    let same = to_z-of_z w64 c.args.base fits in
    let put = c.in_ok-put.ensures.ok in
    let text = c.as_slice.ensures.value in
    let made = c.in_ok-text.ensures.fold in
    put_is (g.D.Disk.holds c.args.disk.now) put.0 (g.D.Disk.holds c.write_fold-put.new.disk) c.args.asked.topics.now c.args.asked.out.now (item_of c.args.asked.wanted c.args.folder.now c.args.base)
    made.0 c.in_ok-name.name c.as_slice.result.now (rw same at made.1) (search rules) (text ∙ made.2)
    (ap (λ bs. read_fold bs) text ∙ made.3) put.1 put.2

pub returns-in_err-text-clause-refused : goal.returns-in_err-text-clause-refused
returns-in_err-text-clause-refused g c =
    let p = err_from_is_err_and c.from_residual.result c.from_residual.ensures.1 in
    let same = to_z-of_z w64 c.args.base (search rules) in
    rw (p.1, p.2) (unread_log (g.D.Disk.holds c.args.disk.now) c.args.asked.topics.now c.args.asked.out.now (item_of c.args.asked.wanted c.args.folder.now c.args.base) c.in_err-text.field-0.0
    (rw same at c.in_err-text.ensures.refused))

pub returns-in_err-put-clause-refused : goal.returns-in_err-put-clause-refused
returns-in_err-put-clause-refused g c =
    let p = err_from_is_err_and c.from_residual-in_err-put.result c.from_residual-in_err-put.ensures.1 in
    let same = to_z-of_z w64 c.args.base (search rules) in
    let made = c.in_ok-text.ensures.fold in
    rw (p.1, p.2) (unwritten_log (g.D.Disk.holds c.args.disk.now) c.args.asked.topics.now c.args.asked.out.now (item_of c.args.asked.wanted c.args.folder.now c.args.base) c.in_ok-name.name made.0
    c.in_err-put.field-0.0 (search rules) (rw same at made.1) c.in_err-put.ensures.refused)
