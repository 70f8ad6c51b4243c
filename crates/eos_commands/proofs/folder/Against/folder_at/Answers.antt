use Rattle.std.proofs.Common.{◌++◌, ◌∷◌, [], refl, inl, inr, sym}
use Rattle.std.proofs.lemmas.Result.{err_from_is_err_and}
use Rattle.eos_commands.proofs.FoldersFound.{names_next, is_new, is_second}
use Rattle.eos_commands.proofs.folder.Against.folder_at.Goals as goal

pub returns-clause-ok : goal.returns-clause-ok
returns-clause-ok g c before has =
    let folder = c.in_ok-folder.folder in
    let new = is_new c.args.names.now before folder folder.name c.in_ok-insert_name.field-0 has refl c.in_ok-insert_name.ensures.added c.if-not-branch.false in (
      record { is = c.in_ok-folder.ensures.ok; new = new; unfolded = c.in_ok-refuse_folded.ensures.ok },
      names_next c.args.names.now c.insert_name.new.names before (before ++ folder ∷ []) folder folder.name has c.in_ok-insert_name.ensures.updates refl refl,
    )

pub returns-in_err-folder-clause-refused : goal.returns-in_err-folder-clause-refused
returns-in_err-folder-clause-refused g c before has =
    let p = err_from_is_err_and c.from_residual.result c.from_residual.ensures.1 in
    rw (p.1, p.2) (inl c.in_err-folder.ensures.refused)

pub returns-then-not-branch-clause-refused : goal.returns-then-not-branch-clause-refused
returns-then-not-branch-clause-refused g c before has =
    let folder = c.in_ok-folder.folder in
    let is = c.in_ok-folder.ensures.ok in
    let so = is_second c.args.names.now before folder folder.name c.in_ok-insert_name.field-0 has refl c.in_ok-insert_name.ensures.added c.if-not-branch.true in
    inr (folder, is, inl (_, refl, sym is.path_is, so))

pub returns-in_err-refuse_folded-clause-refused : goal.returns-in_err-refuse_folded-clause-refused
returns-in_err-refuse_folded-clause-refused g c before has =
    let p = err_from_is_err_and c.from_residual-in_err-refuse_folded.result c.from_residual-in_err-refuse_folded.ensures.1 in
    let folder = c.in_ok-folder.folder in
    let new = is_new c.args.names.now before folder folder.name c.in_ok-insert_name.field-0 has refl c.in_ok-insert_name.ensures.added c.if-not-branch.false in
    rw (p.1, p.2) (inr (folder, c.in_ok-folder.ensures.ok, inr (new, c.in_err-refuse_folded.ensures.refused)))
