use Rattle.std.proofs.Common.{◌≡◌, List, ap, subst, ◌∙◌, drop, take, ◌+◌, ◌-◌}
use Rattle.std.specs.List.{All}
use Rattle.eos_base.specs.Members.{Has}
use Rattle.eos_fold_file.specs.declared.file.FoldFile.{FoldFile}
use Rattle.eos_story.specs.steps.Ends.{folds_around}
use Rattle.eos_story.proofs.BatchesTold.{all_around}
use Rattle.eos_story.proofs.EndsTold.{around_told}
use Rattle.eos_story.proofs.ends.push_segments.Goals as goal

pub push_each-requires-clause-have : goal.push_each-requires-clause-have
push_each-requires-clause-have c = subst (λ (xs : List FoldFile). All (Has xs) c.around-shown.result.now) c.as_slice-folds.ensures.value (all_around _ _ c.as_slice-folds.result.now c.around-shown.result.now c.around-shown.ensures)

pub returns : goal.returns
returns c =
    let offset = c.args.offset in
    let same : c.as_slice-folds.result.now ≡ c.args.partition.now.folds.items = c.as_slice-folds.ensures.value in
    let shown : c.around-shown.result.now ≡ folds_around offset c.as_slice-folds.result.now = c.around-shown.ensures ∙ ap (λ n. drop (n - 2) (take (n + 1) c.as_slice-folds.result.now)) c.count_begun-begun.ensures.count in
    around_told c.args.name.now offset c.args.partition.now.folds.items c.around-shown.result.now c.in_ok-push_each.ensures (shown ∙ ap (folds_around offset) same) c.in_ok-push_more.ensures
