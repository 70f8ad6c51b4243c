use Rattle.std.proofs.Common.{ℤ, List, pos, get_or, map, take, w64, ◌∙◌, subst, arith}
use Rattle.std.proofs.lemmas.Int.{to_z-of_z}
use Rattle.std.proofs.lemmas.List.{take_all}
use Rattle.std.proofs.lemmas.Result.{err_from_is_err_and}
use mir.Val.{to_z, of_z}
use Rattle.eos_commands.specs.Folding.{Folded, item_of}
use Rattle.eos_commands.proofs.FoldsMore.{next_fold, one_left}
use Rattle.eos_commands.proofs.FoldsRefused.{first_in_folder}
use Rattle.eos_commands.proofs.folding.fold_folder.Goals as goal

pub loop-base-preserved : goal.loop-base-preserved
loop-base-preserved g c =
    let bases = c.as_slice-base-items.result.now in
    let i = c.loop-base.base-index in
    let asked = c.args.asked in
    next_fold (g.D.Disk.holds c.args.disk.now) (g.D.Disk.holds c.loop-base.disk) (g.D.Disk.holds c.fold_segment.new.disk) asked.topics.now asked.out.now asked.wanted c.args.folder.now bases i (pos 0)
    (to_z w64 (of_z w64 (get_or bases i (pos 0)))) c.loop-base-test.true (grind (arith, to_z-of_z)) c.loop-base.invariant c.in_ok-fold_segment.ensures.ok

pub returns-in_err-fold_segment-clause-err : goal.returns-in_err-fold_segment-clause-err
returns-in_err-fold_segment-clause-err g c =
    let p = err_from_is_err_and c.from_residual.result c.from_residual.ensures.1 in
    let bases = c.as_slice-base-items.result.now in
    let i = c.loop-base.base-index in
    let asked = c.args.asked in
    let item = item_of asked.wanted c.args.folder.now in
    rw p.1 (one_left (g.D.Disk.holds c.args.disk.now) (g.D.Disk.holds c.loop-base.disk) (g.D.Disk.holds c.fold_segment.new.disk) asked.topics.now asked.out.now (map item (take i bases))
    (item (to_z w64 (of_z w64 (get_or bases i (pos 0))))) c.loop-base.invariant c.in_err-fold_segment.ensures.err)

pub returns-clause-ok : goal.returns-clause-ok
returns-clause-ok g c =
    let bases = c.as_slice-base-items.result.now in
    let asked = c.args.asked in
    subst (λ (bs : List ℤ). Folded (g.D.Disk.holds c.args.disk.now) asked.topics.now asked.out.now (map (item_of asked.wanted c.args.folder.now) bs) (g.D.Disk.holds c.loop-base.disk))
    (take_all c.loop-base.base-index bases c.loop-base-test.false ∙ c.as_slice-base-items.ensures.value) c.loop-base.invariant

pub returns-in_err-fold_segment-clause-refused : goal.returns-in_err-fold_segment-clause-refused
returns-in_err-fold_segment-clause-refused g c =
    let p = err_from_is_err_and c.from_residual.result c.from_residual.ensures.1 in
    let bases = c.as_slice-base-items.result.now in
    let i = c.loop-base.base-index in
    let asked = c.args.asked in
    rw (p.1, p.2) (first_in_folder (g.D.Disk.holds c.args.disk.now) (g.D.Disk.holds c.loop-base.disk) (g.D.Disk.holds c.fold_segment.new.disk) asked.topics.now asked.out.now asked.wanted c.args.folder.now
    bases i (pos 0) (to_z w64 (of_z w64 (get_or bases i (pos 0)))) c.in_err-fold_segment.field-0.0 c.loop-base-test.true (grind (arith, to_z-of_z)) c.as_slice-base-items.ensures.value c.loop-base.invariant
    c.in_err-fold_segment.ensures.refused c.in_err-fold_segment.ensures.err)
