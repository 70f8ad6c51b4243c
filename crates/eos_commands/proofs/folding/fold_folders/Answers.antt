use Rattle.std.proofs.Common.{List, ℕ, inl, inr, refl, subst, map}
use Rattle.std.proofs.lemmas.Result.{on_ok_weaker, err_from_is_err_and, IfErr-weaker}
use Rattle.eos_disk.specs.Entries.{HasBytes}
use Rattle.eos_disk.specs.Refusals.{RefusesManifest}
use Rattle.eos_commands.proofs.FoldsMore.{nothing_folded}
use Rattle.eos_commands.proofs.FoldsRefused.{refused_by}
use Rattle.eos_commands.proofs.folding.fold_folders.Goals as goal

pub returns-in_err-manifest-clause-err : goal.returns-in_err-manifest-clause-err
returns-in_err-manifest-clause-err g c =
    let p = err_from_is_err_and c.from_residual.result c.from_residual.ensures.1 in
    rw p.1 (nothing_folded (g.D.Disk.holds c.args.disk.now) c.args.given.out.now)

pub returns-in_err-spec-clause-err : goal.returns-in_err-spec-clause-err
returns-in_err-spec-clause-err g c =
    let p = err_from_is_err_and c.from_residual-in_err-spec.result c.from_residual-in_err-spec.ensures.1 in
    rw p.1 (nothing_folded (g.D.Disk.holds c.args.disk.now) c.args.given.out.now)

pub returns-clause-ok : goal.returns-clause-ok
returns-clause-ok g c =
    let says = c.in_ok-spec.ensures.says in
    let stands = subst (λ (m : List ℕ). HasBytes (g.D.Disk.holds c.args.disk.now m) says.0) c.in_ok-manifest.ensures.ok says.1 in
    on_ok_weaker c.put_by.result (λ folded. (says.0, c.in_ok-spec.spec, folded.0, folded.1, stands, says.2, folded.2, folded.3, folded.4)) c.put_by.ensures.ok

pub returns-in_err-spec-clause-refused : goal.returns-in_err-spec-clause-refused
returns-in_err-spec-clause-refused g c =
    let p = err_from_is_err_and c.from_residual-in_err-spec.result c.from_residual-in_err-spec.ensures.1 in
    let fault = c.in_err-spec.field-0.0 in
    rw (p.1, p.2) (inr (inl (fault, refl, subst (λ (m : List ℕ). RefusesManifest (g.D.Disk.holds c.args.disk.now) m fault) c.in_ok-manifest.ensures.ok c.in_err-spec.ensures.err)))

pub returns-clause-refused : goal.returns-clause-refused
returns-clause-refused g c =
    let says = c.in_ok-spec.ensures.says in
    IfErr-weaker c.put_by.result _ _
    (λ why r. refused_by (g.D.Disk.holds c.args.disk.now) (g.D.Disk.holds c.put_by.new.disk) c.args.given.manifest.now _ c.args.given.out.now (map (λ p. p.now) c.args.given.folders.now) says.0
    c.in_ok-spec.spec why c.in_ok-manifest.ensures.ok says.1 says.2 r) c.put_by.ensures.refused
