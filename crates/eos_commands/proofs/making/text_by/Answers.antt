use Rattle.std.proofs.lemmas.Result.{IfOk-weaker, IfErr-weaker}
use Rattle.eos_commands.proofs.InitRefused.{unnoted}
use Rattle.eos_commands.proofs.making.text_by.Goals as goal

pub returns-clause-ok : goal.returns-clause-ok
returns-clause-ok g c =
    let is = rw c.as_slice.ensures.value at c.in_ok-spec.ensures.ok in
    IfOk-weaker c.text_with-made.result _ _ (λ made h. (c.in_ok-spec.spec, is.0, is.1, h.0, h.1)) c.text_with-made.ensures.ok

pub returns-clause-refused : goal.returns-clause-refused
returns-clause-refused g c =
    let is = rw c.as_slice.ensures.value at c.in_ok-spec.ensures.ok in
    IfErr-weaker c.text_with-made.result _ _ (λ why r. unnoted (g.D.Disk.holds c.args.logs.now.disk.now) c.args.logs.now.folder.now c.args.apps c.args.there.now.required
    c.args.said.now.ends.items c.in_ok-spec.spec why is.0 is.1 r) c.text_with-made.ensures.refused
