use Rattle.std.proofs.Common.{inl, rules}
use Rattle.std.proofs.lemmas.Result.{err_from_is_err_and}
use Rattle.eos_disk.specs.Paths.{path_of_end}
use Rattle.eos_disk.proofs.FirstFold.{fold_refused}
use Rattle.eos_disk.proofs.listing.bases_of.Goals as goal

pub returns-in_err-files-clause-refused : goal.returns-in_err-files-clause-refused
returns-in_err-files-clause-refused g c =
    let p = err_from_is_err_and c.from_residual.result c.from_residual.ensures.1 in
    rw (p.1, p.2) (inl c.in_err-files.ensures.err)

pub returns-in-Some-clause-refused : goal.returns-in-Some-clause-refused
returns-in-Some-clause-refused g c =
    fold_refused (g.D.Disk.holds c.args.disk.now) (path_of_end c.args.folder.now c.args.end.now) c.in_ok-files.files.items c.as_slice.result.now c.in-Some.fold c.refused_at.result (search rules)
    c.in_ok-files.ensures.ok c.in-Some.ensures (c.refused_at.ensures _ c.path_of.ensures)
