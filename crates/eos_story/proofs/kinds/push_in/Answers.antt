use Rattle.std.proofs.lemmas.Int.{to_z-of_z}
use Rattle.std.proofs.Common.{[], ◌∷◌, ap, w16, FitsSigned, rules}
use Rattle.eos_sought.specs.declared.wanted.Wanted.TheVariants.{Data}
use Rattle.eos_story.specs.Listings.{epoch_before}
use Rattle.eos_story.specs.Questions.{FirstBatch}
use Rattle.eos_story.proofs.RowsTold.{then, each_as}
use Rattle.eos_story.proofs.kinds.push_in.Goals as goal

pub returns : goal.returns
returns c =
    let p = c.ranges.producer in
    let q = c.ranges.epoch in
    let b : FitsSigned w16 c.epoch_before.result = search rules in
    let name = c.args.name.now in
    let producer = c.args.producer in
    let before = simp to_z-of_z at c.epoch_before.ensures in
    let first = simp to_z-of_z at c.in_ok-push_one.ensures in
    let marking = simp to_z-of_z at c.in_ok-push_one-2.ensures in
    then (each_as (FirstBatch name (Data producer (epoch_before c.args.epoch)) ∷ []) (ap (λ e. FirstBatch name (Data producer e) ∷ []) before) first) marking
