use Rattle.std.proofs.Common.{◌++◌, ◌∙◌, ap, List, Bool, flat_map, subst, IsPermutation}
use Rattle.std.proofs.lemmas.Result.{IfOk-equal}
use Rattle.eos_commits.specs.Commits.{Topic}
use Rattle.eos_notes.specs.ManifestNotes.{absent_in}
use Rattle.eos_notes.proofs.TopicSets.{same_test}
use Rattle.eos_notes.proofs.manifest.push_absent_topics.Goals as goal

pub returns : goal.returns
returns c =
    let set = c.in_ok-present.present in
    let of = subst (λ (topics : List Topic). IsPermutation topics set) (c.as_slice.ensures.value ∙ c.in_ok-topics.ensures) c.in_ok-present.ensures in
    IfOk-equal c.push_absent_by.result _ _ _ c.push_absent_by.ensures (ap (λ (has : Topic → Bool). c.args.all.now.items ++ flat_map (absent_in has) c.args.apps.now) (same_test _ set of))
