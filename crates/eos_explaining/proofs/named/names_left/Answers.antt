use Rattle.std.specs.Option.{option_copied}
use Rattle.eos_story.specs.Names.{name_in}
use Rattle.eos_explaining.proofs.Covered.{names_still, row_named}
use Rattle.eos_explaining.proofs.named.names_left.Goals as goal

pub loop-row-init : goal.loop-row-init
loop-row-init c = (c.in_ok-push_left.ensures.left, λ row has. absurd has)

pub loop-row-preserved : goal.loop-row-preserved
loop-row-preserved c = (
  names_still c.args.read.now c.loop-row.names.items c.push_left-in-loop-row.new.names.items (option_copied c.args.own) c.in_ok-push_left-2.ensures.kept c.loop-row.invariant.0,
  row_named c.args.read.now c.loop-row.names.items c.push_left-in-loop-row.new.names.items name_in c.args.rows.now c.loop-row.row-index c.row-item.result _ c.loop-row-test.true c.row-item.is c.name_in.ensures c.in_ok-push_left-2.ensures.kept c.in_ok-push_left-2.ensures.left
      c.loop-row.invariant.1,
)
