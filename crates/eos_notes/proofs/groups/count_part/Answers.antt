use Rattle.std.proofs.Common.{arith, w64, to_z, of_z, ap, ◌∙◌}
use Rattle.std.specs.Prelude.{List}
use Rattle.eos_fold.specs.declared.item.Item.{Item}
use Rattle.eos_notes.specs.steps.Counted.{count_visible, count_below}
use Rattle.eos_notes.proofs.CountedLooks.{visible_append, below_append}
use Rattle.eos_notes.proofs.groups.count_part.Goals as goal

pub loop-batch-preserved : goal.loop-batch-preserved
loop-batch-preserved c =
    let cut = c.in-Some.ensures.some.0 in
    let so_far = c.loop-batch.invariant in (
      omega (arith, ap (λ (zs : List Item). count_visible zs) cut ∙ visible_append c.in-Some.batch c.next.new.self, c.in_ok-count.ensures.inputs, so_far.0),
      omega (arith, ap (λ (zs : List Item). count_below (to_z w64 (of_z w64 c.args.committed)) zs) cut ∙ below_append (to_z w64 (of_z w64 c.args.committed)) c.in-Some.batch c.next.new.self, c.in_ok-count.ensures.below, so_far.1),
    )
