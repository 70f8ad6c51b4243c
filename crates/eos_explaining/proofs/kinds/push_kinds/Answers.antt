use Rattle.std.proofs.Common.{string_bytes}
use Rattle.eos_explaining.specs.steps.Kinds.{kind_at}
use Rattle.eos_explaining.proofs.KindsCounted.{kinds_pushed}
use Rattle.eos_explaining.proofs.kinds.push_kinds.Goals as goal

pub loop-number-preserved : goal.loop-number-preserved
loop-number-preserved c =
    kinds_pushed (kind_at c.args.counts.now) c.args.numbers.now c.loop-number.number-index _ (string_bytes c.args.out.now) (string_bytes c.loop-number.out) (string_bytes c.push_kind.new.out)
    c.loop-number-test.true c.loop-number.invariant c.in_ok-push_kind.ensures
