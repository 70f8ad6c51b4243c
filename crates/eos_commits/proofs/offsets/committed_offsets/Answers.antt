use Rattle.std.proofs.Common.{◌≡◌, ◌∙◌, ap, sym, subst, map}
use Rattle.std.proofs.lemmas.Result.{IfOk-weaker}
use Rattle.eos_claims.specs.Outputs.{committed_offset}
use Rattle.eos_commits.specs.Plain.{plain_commit}
use Rattle.eos_fold.specs.Parts.{part_name}
use Rattle.eos_commits.specs.NameTables.{AreAscending}
use Rattle.eos_commits.proofs.NamesAscend.{names_ascend}
use Rattle.eos_commits.proofs.offsets.committed_offsets.Goals as goal

pub returns : goal.returns
returns c =
    let names : c.in_ok-names.names ≡ map part_name c.args.parts.now = c.in_ok-names.ensures ∙ (c.as_slice.ensures.value ∙ c.in_ok-all.ensures) in
    IfOk-weaker c.offsets_of.result _ _
    (λ offsets set are. set (subst AreAscending (sym names) (names_ascend c.args.parts.now are)) ∙ ap (map (committed_offset (map plain_commit c.args.commits.now))) names) c.offsets_of.ensures
