use Rattle.std.proofs.Common.{◌∷◌, [], inr, append-nil, sym, ◌∙◌}
use Rattle.eos_commands.proofs.CopiedEnds.{copied_in, copied_out}
use Rattle.std.proofs.lemmas.Result.{err_from_is_err_and}
use Rattle.eos_commands.proofs.copied.Logs.push_end.Goals as goal

pub returns-then-not-holds-clause-ok : goal.returns-then-not-holds-clause-ok
returns-then-not-holds-clause-ok g c = (
  [],
  copied_out (g.D.Disk.holds c.args.self.now.disk.now) c.args.self.now.folder.now c.args.folders.now c.args.name.now (sym c.holds.ensures ∙ c.if-not-holds.true),
  sym (append-nil c.args.ends.now.items),
)

pub returns-clause-ok : goal.returns-clause-ok
returns-clause-ok g c =
    let end = c.in_ok-end_of_copy.field-0 in (
      end ∷ [],
      copied_in (g.D.Disk.holds c.args.self.now.disk.now) c.args.self.now.folder.now c.args.folders.now c.args.name.now end (sym c.holds.ensures ∙ c.if-not-holds.false) c.in_ok-end_of_copy.ensures.ok,
      c.in_ok-push.ensures.items,
    )

pub returns-in_err-end_of_copy-clause-refused : goal.returns-in_err-end_of_copy-clause-refused
returns-in_err-end_of_copy-clause-refused g c =
    let p = err_from_is_err_and c.from_residual.result c.from_residual.ensures.1 in
    rw (p.1, p.2) (inr (sym c.holds.ensures ∙ c.if-not-holds.false, c.in_err-end_of_copy.ensures.refused))
