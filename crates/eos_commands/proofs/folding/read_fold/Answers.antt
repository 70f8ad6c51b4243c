use Rattle.std.proofs.Common.{List, ℕ, w64, rules, string_bytes, ap, ◌∙◌, subst}
use Rattle.std.proofs.lemmas.Int.{to_z-of_z}
use Rattle.std.proofs.lemmas.Result.{err_from_is_err_and}
use mir.Val.{SFits}
use Rattle.eos_disk.specs.Entries.{Leaves}
use Rattle.eos_disk.specs.Refusals.{RefusesFile, MayRefuse}
use Rattle.eos_commands.specs.Folding.{item_of}
use Rattle.eos_commands.proofs.FoldsMore.{fold_is}
use Rattle.eos_commands.proofs.folding.read_fold.Goals as goal

pub returns-in-Ok-clause-fold : goal.returns-in-Ok-clause-fold
returns-in-Ok-clause-fold g c =
    let fits : SFits w64 c.args.base = search rules in
    let same = to_z-of_z w64 c.args.base fits in
    let h = c.in-Ok.ensures.ok in
    let left = g.D.File.Read.remaining c.in_ok-named.named.file in
    let leaves = subst (λ (p : List ℕ). Leaves (g.D.Disk.holds c.args.disk.now p) left) c.in_ok-path.ensures c.in_ok-named.ensures.ok in
    fold_is (g.D.Disk.holds c.args.disk.now) c.args.asked.topics.now (item_of c.args.asked.wanted c.args.folder.now c.args.base) c.in_ok-name.name _ _ h.0 c.in-Ok.fold (search rules)
    (rw same at leaves) h.1 c.in-Ok.ensures.end h.3 c.in-Ok.ensures.asked

pub returns-in_err-named-clause-refused : goal.returns-in_err-named-clause-refused
returns-in_err-named-clause-refused g c =
    let p = err_from_is_err_and c.from_residual-in_err-named.result c.from_residual-in_err-named.ensures.1 in
    let why = c.in_err-named.field-0.0 in
    let same = to_z-of_z w64 c.args.base (search rules) in
    let path = rw same at c.in_ok-path.ensures in
    rw (p.1, p.2) (
      subst (λ (x : List ℕ). RefusesFile x why) path c.in_err-named.ensures.err,
      subst (λ (x : List ℕ). MayRefuse (g.D.Disk.holds c.args.disk.now x) why) path c.in_err-named.ensures.so,
    )

pub returns-clause-refused : goal.returns-clause-refused
returns-clause-refused g c =
    let same = to_z-of_z w64 c.args.base (search rules) in
    let path = ap string_bytes c.in_ok-named.ensures.path ∙ (rw same at c.in_ok-path.ensures) in
    (subst (λ (x : List ℕ). RefusesFile x c.refusal_of.result) path c.refusal_of.ensures.path, c.refusal_of.ensures.so _)
