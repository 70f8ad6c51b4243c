use Rattle.std.proofs.Common.{◌∙◌, ap, map, ℤ, Option}
use Rattle.eos_explaining.specs.steps.Times.{spot_in, time_put, times_put}
use Rattle.eos_explaining.proofs.TimesFound.{put_more, put_done, place_at}
use Rattle.eos_explaining.proofs.times.times_put.Goals as goal

pub loop-i-preserved : goal.loop-i-preserved
loop-i-preserved c = λ p named picked.
    let name = c.args.name.now in
    let all = c.args.rows.now in
    let row = c.index-rows-i.result in
    let batch = c.at.ensures p (map (spot_in name) all) (spot_in name row) picked (place_at name all c.loop-i.i row c.loop-i-test.true c.index-rows-i.is) in
    put_more p all c.args.was.now c.loop-i.found.items c.push.new.self.items (times_put p all c.args.was.now) c.loop-i.i row c.time_put-one.result c.loop-i-test.true c.index-rows-i.is
    (c.time_put-one.ensures p named batch ∙ ap (λ (was : Option (Option ℤ)). time_put p row was) c.known_at.ensures) c.in_ok-push.ensures.items (c.loop-i.invariant p named picked)

pub returns : goal.returns
returns c = λ p named picked. put_done p c.args.rows.now c.args.was.now c.loop-i.found.items c.loop-i.i c.loop-i-test.false (c.loop-i.invariant p named picked)
