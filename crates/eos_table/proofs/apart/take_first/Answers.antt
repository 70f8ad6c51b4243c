use Rattle.eos_table.proofs.ApartSteps.{apart_new}
use Rattle.eos_table.proofs.apart.take_first.Goals as goal

pub returns : goal.returns
returns c = λ before of none fits yes.
    apart_new c.args.owners.now c.args.homes.now c.is_at_home.new.homes before c.args.mark.now fits (c.in_ok-is_at_home.ensures c.if-not-branch.false) c.args.producer of c.add_owner.new.owners none c.in_ok-add_owner.ensures
