use Rattle.std.proofs.Common.{◌++◌, ◌∷◌, [], inr}
use Rattle.std.proofs.lemmas.Result.{err_from_is_err_and}
use Rattle.eos_commands.proofs.FoldersFound.{fit_next, fit_all, same_names, given_at}
use Rattle.eos_commands.proofs.folder.find_folders.Goals as goal

pub loop-path-preserved : goal.loop-path-preserved
loop-path-preserved g c =
    let here = c.in_ok-folder.ensures.ok c.loop-path.folders.items c.loop-path.invariant.names in
    record {
      fit = fit_next (g.D.Disk.holds c.args.disk.now) c.args.ends.now c.args.out.now c.args.paths.now c.loop-path.path-index _ c.loop-path.folders.items c.push.new.self.items c.in_ok-folder.folder
          c.loop-path-test.true c.loop-path.invariant.fit here.0 c.in_ok-push.ensures.items;
      names = same_names c.folder_at.new.names (c.loop-path.folders.items ++ c.in_ok-folder.folder ∷ []) c.push.new.self.items c.in_ok-push.ensures.items here.1;
    }

pub returns-clause-ok : goal.returns-clause-ok
returns-clause-ok g c =
    fit_all (g.D.Disk.holds c.args.disk.now) c.args.ends.now c.args.out.now c.args.paths.now c.loop-path.path-index c.loop-path.folders.items c.loop-path-test.false c.loop-path.invariant.fit

pub returns-in_err-folder-clause-refused : goal.returns-in_err-folder-clause-refused
returns-in_err-folder-clause-refused g c =
    let p = err_from_is_err_and c.from_residual.result c.from_residual.ensures.1 in
    rw (p.1, p.2) (inr (given_at (g.D.Disk.holds c.args.disk.now) c.args.ends.now c.args.out.now c.args.paths.now c.loop-path.path-index _ c.loop-path.folders.items c.in_err-folder.field-0.0
    c.loop-path-test.true c.loop-path.invariant.fit (c.in_err-folder.ensures.refused c.loop-path.folders.items c.loop-path.invariant.names)))
