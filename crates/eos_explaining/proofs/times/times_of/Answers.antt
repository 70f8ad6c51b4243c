use Rattle.std.proofs.Common.{◌∙◌, ◌++◌, ◌∷◌, [], ap}
use Rattle.eos_explaining.proofs.TimesFound.{times_more, times_done}
use Rattle.eos_explaining.proofs.times.times_of.Goals as goal

pub loop-i-preserved : goal.loop-i-preserved
loop-i-preserved c = times_more c.args.rows.now c.args.found.now c.loop-i.times.items c.push.new.self.items _ c.loop-i.i c.known_at.result c.loop-i-test.true c.known_at.ensures (c.in_ok-push.ensures.items ∙ ap (λ t. c.loop-i.times.items ++ t ∷ []) c.flatten.ensures) c.loop-i.invariant

pub returns : goal.returns
returns c = times_done c.args.rows.now c.args.found.now c.loop-i.times.items _ c.loop-i.i c.loop-i-test.false c.loop-i.invariant
