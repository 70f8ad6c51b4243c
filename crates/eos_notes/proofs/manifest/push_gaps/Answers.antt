use Rattle.std.proofs.Common.{◌++◌, ◌∙◌, ap, List, Bool, flat_map, subst, IsPermutation}
use Rattle.std.proofs.lemmas.Result.{IfOk-equal}
use Rattle.eos_commits.specs.Commits.{Topic}
use Rattle.eos_notes.specs.ManifestNotes.{gap_at}
use Rattle.eos_notes.proofs.TopicSets.{same_test}
use Rattle.eos_notes.proofs.manifest.push_gaps.Goals as goal

pub returns : goal.returns
returns c =
    let set = c.in_ok-used.used in
    let of = subst (λ (topics : List Topic). IsPermutation topics set) (c.as_slice.ensures.value ∙ c.in_ok-topics.ensures) c.in_ok-used.ensures in
    IfOk-equal c.push_gaps_by.result _ _ _ c.push_gaps_by.ensures (ap (λ (used : Topic → Bool). c.args.all.now.items ++ flat_map (gap_at used c.args.ends.now) c.args.ends.now) (same_test _ set of))
