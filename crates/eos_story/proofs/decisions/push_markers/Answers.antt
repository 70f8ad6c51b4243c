use Rattle.std.proofs.lemmas.Int.{to_z-of_z}
use Rattle.std.proofs.Common.{length, ap, refl, subst, sym, ◌∙◌}
use Rattle.eos_sought.specs.declared.wanted.Wanted.TheVariants.{Marking}
use Rattle.eos_sought.specs.declared.sought.Sought.{Sought}
use Rattle.eos_story.specs.Questions.{decision, in_each, lister, listed_open}
use Rattle.eos_story.specs.Rows.{AreListed}
use Rattle.eos_story.proofs.ListedTold.{open_listed}
use Rattle.eos_story.proofs.RowsTold.{then, each_as}
use Rattle.eos_story.proofs.decisions.push_markers.Goals as goal

pub push_listed-requires : goal.push_listed-requires
push_listed-requires c =
    let p = c.ranges.producer in
    let q = c.ranges.epoch in
    let names = simp to_z-of_z at c.in_ok-sought.ensures.names in
    let by = simp to_z-of_z at c.in_ok-sought.ensures.sought in
    let producer = c.args.producer in
    let epoch = c.args.epoch in
    let logs = c.args.scene.now.logs.now in
    let decided = decision producer epoch logs in
    let count = ap length (c.as_slice.ensures.value ∙ names) in
    λ lt. subst (λ (s : Sought). AreListed logs s (length c.as_slice.result.now)) (sym by) (open_listed logs producer epoch decided (length c.as_slice.result.now) refl count lt)

pub returns : goal.returns
returns c =
    let p = c.ranges.producer in
    let q = c.ranges.epoch in
    let names = simp to_z-of_z at c.in_ok-sought.ensures.names in
    let decided = simp to_z-of_z at c.in_ok-push_records.ensures in
    let first = simp to_z-of_z at c.in_ok-push_listed.ensures in
    let producer = c.args.producer in
    let epoch = c.args.epoch in
    let logs = c.args.scene.now.logs.now in
    let listed = listed_open logs producer (decision producer epoch logs) in
    let by = simp to_z-of_z at c.in_ok-sought.ensures.sought in
    let asked = lister producer epoch (decision producer epoch logs) in
    let markers = each_as (in_each asked (Marking producer epoch) listed) (ap (λ s. in_each s (Marking producer epoch) c.as_slice.result.now) by ∙ ap (in_each asked (Marking producer epoch)) (c.as_slice.ensures.value ∙ names)) first in
    then decided markers
