use Rattle.eos_story.proofs.RowsPushed.{record_at}
use Rattle.eos_story.proofs.records.push_find.Goals as goal

pub add_row-requires : goal.add_row-requires
add_row-requires c =
    λ ps seen. record_at ps c.args.scene.now.logs.now c.args.sought.now c.in_ok-sought.sought c.args.find.now c.in_ok-find.find c.in_ok-found.found.items c.as_slice.result.now c.first_of-spot.result c.requires
    c.in_ok-sought.ensures c.in_ok-find.ensures (c.in_ok-found.ensures ps seen.folded) c.as_slice.ensures.value c.first_of-spot.ensures
