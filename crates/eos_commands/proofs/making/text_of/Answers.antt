use Rattle.std.proofs.lemmas.Result.{IfOk-weaker, IfErr-weaker, err_from_is_err_and}
use Rattle.eos_commands.proofs.ManifestParts.{manifest_is}
use Rattle.eos_commands.proofs.InitRefused.{not_words, not_there, asked_for, not_ends, not_manifest}
use Rattle.eos_commands.proofs.making.text_of.Goals as goal

pub returns-clause-ok : goal.returns-clause-ok
returns-clause-ok g c =
    let there = c.in_ok-there.there in
    let asked = asked_for c.args.given (g.D.Disk.holds c.args.disk.now) c.in_ok-apps.apps _ there.folders there.required c.in_ok-apps.ensures.ok c.in_ok-there.ensures.ok.0 c.as_slice.ensures
    c.in_ok-there.ensures.ok.1 in
    IfOk-weaker c.text_by.result _ _ (λ made h. (
      h.0,
      manifest_is c.args.given (g.D.Disk.holds c.args.disk.now) _ _ h.0 c.in_ok-apps.apps there.folders there.required _
          c.in_ok-said.said.ends.items asked c.in_ok-said.ensures.ok h.1 h.2 c.as_slice-required.ensures.items,
      h.3,
      h.4,
    )) c.text_by.ensures.ok

pub returns-in_err-apps-clause-refused : goal.returns-in_err-apps-clause-refused
returns-in_err-apps-clause-refused g c =
    let p = err_from_is_err_and c.from_residual.result c.from_residual.ensures.1 in
    rw (p.1, p.2) (not_words c.args.given (g.D.Disk.holds c.args.disk.now) _ _ c.in_err-apps.field-0.0 c.in_err-apps.ensures.refused)

pub returns-in_err-there-clause-refused : goal.returns-in_err-there-clause-refused
returns-in_err-there-clause-refused g c =
    let p = err_from_is_err_and c.from_residual-in_err-there.result c.from_residual-in_err-there.ensures.1 in
    rw (p.1, p.2) (not_there c.args.given (g.D.Disk.holds c.args.disk.now) _ _ c.in_ok-apps.apps _ c.in_err-there.field-0.0 c.in_ok-apps.ensures.ok c.as_slice.ensures c.in_err-there.ensures.refused)

pub returns-in_err-said-clause-refused : goal.returns-in_err-said-clause-refused
returns-in_err-said-clause-refused g c =
    let p = err_from_is_err_and c.from_residual-in_err-said.result c.from_residual-in_err-said.ensures.1 in
    let there = c.in_ok-there.there in
    let asked = asked_for c.args.given (g.D.Disk.holds c.args.disk.now) c.in_ok-apps.apps _ there.folders there.required c.in_ok-apps.ensures.ok c.in_ok-there.ensures.ok.0 c.as_slice.ensures
    c.in_ok-there.ensures.ok.1 in
    rw (p.1, p.2) (not_ends c.args.given (g.D.Disk.holds c.args.disk.now) _ _ c.in_ok-apps.apps there.folders there.required _ c.in_err-said.field-0.0 asked c.as_slice-required.ensures.items c.in_err-said.ensures.refused)

pub returns-clause-refused : goal.returns-clause-refused
returns-clause-refused g c =
    let there = c.in_ok-there.there in
    let asked = asked_for c.args.given (g.D.Disk.holds c.args.disk.now) c.in_ok-apps.apps _ there.folders there.required c.in_ok-apps.ensures.ok c.in_ok-there.ensures.ok.0 c.as_slice.ensures
    c.in_ok-there.ensures.ok.1 in
    IfErr-weaker c.text_by.result _ _ (λ why r. not_manifest c.args.given (g.D.Disk.holds c.args.disk.now) _ _ c.in_ok-apps.apps there.folders there.required _ c.in_ok-said.said.ends.items why
    asked c.as_slice-required.ensures.items c.in_ok-said.ensures.ok r) c.text_by.ensures.refused
