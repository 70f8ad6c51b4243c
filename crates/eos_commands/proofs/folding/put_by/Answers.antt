use Rattle.std.proofs.Common.{rules, map}
use Rattle.std.proofs.lemmas.Result.{on_ok_weaker, on_err_weaker, err_from_is_err_and, IfErr-weaker}
use Rattle.eos_commands.proofs.AllFolded.{all_folded}
use Rattle.eos_commands.proofs.FoldsMore.{nothing_folded}
use Rattle.eos_commands.proofs.FoldsRefused.{given_refused, log_refused}
use Rattle.eos_commands.proofs.folding.put_by.Goals as goal

pub returns-in_err-folders-clause-err : goal.returns-in_err-folders-clause-err
returns-in_err-folders-clause-err g c =
    let p = err_from_is_err_and c.from_residual.result c.from_residual.ensures.1 in
    rw p.1 (nothing_folded (g.D.Disk.holds c.args.disk.now) c.args.given.out.now)

pub returns-in_err-topics-clause-err : goal.returns-in_err-topics-clause-err
returns-in_err-topics-clause-err g c =
    let p = err_from_is_err_and c.from_residual-in_err-topics.result c.from_residual-in_err-topics.ensures.1 in
    rw p.1 (nothing_folded (g.D.Disk.holds c.args.disk.now) c.args.given.out.now)

pub returns-clause-ok : goal.returns-clause-ok
returns-clause-ok g c =
    on_ok_weaker c.fold_all.result (λ folded. all_folded (g.D.Disk.holds c.args.disk.now) (g.D.Disk.holds c.fold_all.new.disk) c.args.given.out.now c.args.spec.now
    (map (λ p. p.now) c.args.given.folders.now) c.in_ok-folders.folders.items c.as_slice-2.result.now _ c.as_slice-apps.result.now c.in_ok-topics.topics.items c.as_slice.result.now c.in_ok-folders.ensures.ok.found
    (search rules) c.in_ok-topics.ensures (search rules) folded (search rules) (search rules)) c.fold_all.ensures.ok

pub returns-clause-err : goal.returns-clause-err
returns-clause-err g c = on_err_weaker c.fold_all.result (λ part. (c.as_slice.result.now, part)) c.fold_all.ensures.err

pub returns-in_err-folders-clause-refused : goal.returns-in_err-folders-clause-refused
returns-in_err-folders-clause-refused g c =
    let p = err_from_is_err_and c.from_residual.result c.from_residual.ensures.1 in
    rw (p.1, p.2) (given_refused (g.D.Disk.holds c.args.disk.now) c.args.given.out.now (map (λ p. p.now) c.args.given.folders.now) c.args.spec.now
    c.as_slice-ends.result.now c.in_err-folders.field-0.0 (search rules) c.in_err-folders.ensures.refused)

pub returns-clause-refused : goal.returns-clause-refused
returns-clause-refused g c =
    IfErr-weaker c.fold_all.result _ _
    (λ why r. log_refused (g.D.Disk.holds c.args.disk.now) (g.D.Disk.holds c.fold_all.new.disk) c.args.given.out.now (map (λ p. p.now) c.args.given.folders.now) c.args.spec.now
    c.as_slice-ends.result.now c.in_ok-folders.folders.items c.as_slice-2.result.now c.as_slice-apps.result.now c.in_ok-topics.topics.items c.as_slice.result.now why (search rules)
    c.in_ok-folders.ensures.ok (search rules) (search rules) c.in_ok-topics.ensures (search rules) r) c.fold_all.ensures.refused
