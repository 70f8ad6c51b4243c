use Rattle.std.proofs.Common.{arith}
use Rattle.eos_drive.proofs.Replaying.{one_more}
use Rattle.eos_drive.proofs.shared.make_passes.Goals as goal

pub loop-number-preserved : goal.loop-number-preserved
loop-number-preserved g c =
    let before = c.loop-number.invariant in
    let had = before.0 in let none = before.1 in let many = before.3 in
    let left = c.split_off-share.ensures.parts_left in let rest = c.split_off-share.ensures.amount_left in let len = c.in_ok-push.ensures.len in (
      omega (arith, had, left),
      omega (arith, none, rest),
      one_more c.loop-number.number c.loop-number.passes.items c.push.new.self.items c.new.result.items before.2 c.new.ensures.items c.in_ok-push.ensures.items,
      omega (arith, many, len),
    )
