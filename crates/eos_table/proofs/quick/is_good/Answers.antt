use Rattle.std.proofs.Common.{subst}
use Rattle.eos_table.specs.steps.OneShard.{OneShard}
use Rattle.eos_table.specs.steps.Wanted.{IsOnce}
use Rattle.eos_table.proofs.quick.is_good.Goals as goal

pub returns : goal.returns
returns c = λ yes. record {
  once = subst (λ (z : OneShard). IsOnce z.of z.number c.args.ground.now.decisions.now) c.new.ensures (c.in_ok-once.ensures c.if-not-once.false);
  agree = c.in_ok-agree.ensures yes;
}
