use Rattle.std.proofs.Common.{List, inr, take, ap, ◌∙◌, subst}
use Rattle.std.proofs.lemmas.List.{take_all}
use Rattle.std.proofs.lemmas.Result.{err_from_is_err_and}
use Rattle.eos_reading.specs.Wanted.{wanted_of}
use Rattle.eos_commands.specs.Folding.{Folded, items_of}
use Rattle.eos_commands.specs.declared.folder.PartitionFolder.{PartitionFolder}
use Rattle.eos_commands.proofs.FoldsMore.{next_folder, more_in_part, none_folded}
use Rattle.eos_commands.proofs.FoldsRefused.{first_in_all}
use Rattle.eos_commands.proofs.folding.fold_all.Goals as goal

pub returns-in_err-wants-clause-err : goal.returns-in_err-wants-clause-err
returns-in_err-wants-clause-err g c =
    let p = err_from_is_err_and c.from_residual.result c.from_residual.ensures.1 in
    rw p.1 (none_folded (g.D.Disk.holds c.args.disk.now) c.args.roles.topics.now c.args.roles.out.now)

pub loop-folder-preserved : goal.loop-folder-preserved
loop-folder-preserved g c =
    let roles = c.args.roles in
    let wanted = c.of_topic.ensures roles.apps.now c.in_ok-wants.ensures ∙ ap (λ t. wanted_of roles.apps.now t) c.as_slice.ensures in
    next_folder (g.D.Disk.holds c.args.disk.now) (g.D.Disk.holds c.loop-folder.disk) (g.D.Disk.holds c.fold_folder.new.disk) roles.topics.now roles.out.now roles.apps.now c.args.folders.now
    c.loop-folder.folder-index c.folder-item.result c.of_topic.result c.loop-folder-test.true c.folder-item.is wanted c.loop-folder.invariant c.in_ok-fold_folder.ensures.ok

pub returns-in_err-fold_folder-clause-err : goal.returns-in_err-fold_folder-clause-err
returns-in_err-fold_folder-clause-err g c =
    let p = err_from_is_err_and c.from_residual-in_err-fold_folder.result c.from_residual-in_err-fold_folder.ensures.1 in
    let roles = c.args.roles in
    rw p.1 (more_in_part (g.D.Disk.holds c.args.disk.now) (g.D.Disk.holds c.loop-folder.disk) (g.D.Disk.holds c.fold_folder.new.disk) roles.topics.now roles.out.now
    (items_of roles.apps.now (take c.loop-folder.folder-index c.args.folders.now)) c.loop-folder.invariant c.in_err-fold_folder.ensures.err)

pub returns-clause-ok : goal.returns-clause-ok
returns-clause-ok g c =
    let roles = c.args.roles in
    subst (λ (fs : List PartitionFolder). Folded (g.D.Disk.holds c.args.disk.now) roles.topics.now roles.out.now (items_of roles.apps.now fs) (g.D.Disk.holds c.loop-folder.disk))
    (take_all c.loop-folder.folder-index c.args.folders.now c.loop-folder-test.false) c.loop-folder.invariant

pub returns-in_err-fold_folder-clause-refused : goal.returns-in_err-fold_folder-clause-refused
returns-in_err-fold_folder-clause-refused g c =
    let p = err_from_is_err_and c.from_residual-in_err-fold_folder.result c.from_residual-in_err-fold_folder.ensures.1 in
    let roles = c.args.roles in
    let wanted = c.of_topic.ensures roles.apps.now c.in_ok-wants.ensures ∙ ap (λ t. wanted_of roles.apps.now t) c.as_slice.ensures in
    rw (p.1, p.2) (inr (first_in_all (g.D.Disk.holds c.args.disk.now) (g.D.Disk.holds c.loop-folder.disk) (g.D.Disk.holds c.fold_folder.new.disk) roles.topics.now roles.out.now roles.apps.now
    c.args.folders.now c.loop-folder.folder-index c.folder-item.result c.of_topic.result c.in_err-fold_folder.field-0.0 c.loop-folder-test.true c.folder-item.is wanted c.loop-folder.invariant
    c.in_err-fold_folder.ensures.refused))
