use Rattle.std.proofs.lemmas.Int.{to_z-of_z}
use Rattle.std.proofs.Common.{rules, w16, FitsSigned}
use Rattle.std.proofs.Common.{length, ap, refl, ◌∙◌}
use Rattle.eos_sought.specs.declared.wanted.Wanted.TheVariants.{Marking, Data}
use Rattle.eos_story.specs.Listings.{listed_by, epoch_before}
use Rattle.eos_story.specs.Questions.{decision, in_each}
use Rattle.eos_sought.specs.declared.sought.Sought.TheVariants.{Deciding}
use Rattle.eos_story.proofs.ListedTold.{one_listed}
use Rattle.eos_story.proofs.RowsTold.{then, each_as}
use Rattle.eos_story.proofs.decisions.push_listing.Goals as goal

pub push_listed-requires : goal.push_listed-requires
push_listed-requires c =
    let p = c.ranges.producer in
    let q = c.ranges.epoch in
    let of_found = simp to_z-of_z at c.in_ok-names.ensures in
    let producer = c.args.producer in
    let epoch = c.args.epoch in
    let logs = c.args.scene.now.logs.now in
    let names = ap length (c.as_slice.ensures.value ∙ of_found) in
    simp to_z-of_z (one_listed logs (Deciding producer epoch) 0 (length c.as_slice.result.now) (decision producer epoch logs) refl names)

pub push_listed-requires-2 : goal.push_listed-requires-2
push_listed-requires-2 c =
    let p = c.ranges.producer in
    let q = c.ranges.epoch in
    let of_found = simp to_z-of_z at c.in_ok-names.ensures in
    let producer = c.args.producer in
    let epoch = c.args.epoch in
    let logs = c.args.scene.now.logs.now in
    let names = ap length (c.as_slice-2.ensures.value ∙ of_found) in
    simp to_z-of_z (one_listed logs (Deciding producer epoch) 0 (length c.as_slice-2.result.now) (decision producer epoch logs) refl names)

pub returns : goal.returns
returns c =
    let p = c.ranges.producer in
    let q = c.ranges.epoch in
    let b : FitsSigned w16 c.epoch_before.result = search rules in
    let decided = simp to_z-of_z at c.in_ok-push_records.ensures in
    let first = simp to_z-of_z at c.in_ok-push_listed.ensures in
    let second = simp to_z-of_z at c.in_ok-push_listed-2.ensures in
    let before = simp to_z-of_z at c.epoch_before.ensures in
    let producer = c.args.producer in
    let epoch = c.args.epoch in
    let decided_by = Deciding producer epoch in
    let listed = listed_by (decision producer epoch c.args.scene.now.logs.now) in
    let of_found = simp to_z-of_z at c.in_ok-names.ensures in
    let markers = each_as (in_each decided_by (Marking producer epoch) listed) (ap (in_each decided_by (Marking producer epoch)) (c.as_slice.ensures.value ∙ of_found)) first in
    let writes = each_as (in_each decided_by (Data producer (epoch_before epoch)) listed) (ap (in_each decided_by (Data producer c.epoch_before.result)) (c.as_slice-2.ensures.value ∙ of_found) ∙ ap (λ e. in_each decided_by (Data producer e) listed) before) second in
    then decided (then markers writes)
