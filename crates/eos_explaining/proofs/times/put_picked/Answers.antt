use Rattle.std.proofs.Common.{◌∙◌, ap}
use Rattle.eos_explaining.specs.steps.Times.{times_put}
use Rattle.eos_explaining.proofs.TimesFound.{more_picked, more_unpicked}
use Rattle.eos_explaining.proofs.times.put_picked.Goals as goal

pub returns-in-None : goal.returns-in-None
returns-in-None c = λ known shape before of are. more_unpicked known shape c.args.rows.now before c.args.name.now c.args.picked c.args.found.now.items of c.in-None.is are

pub returns-in_ok-found-in-Some : goal.returns-in_ok-found-in-Some
returns-in_ok-found-in-Some c = λ known shape before of are.
    more_picked known shape c.args.rows.now before c.args.name.now c.args.picked c.in-Some.picked c.args.found.now.items _ of c.in-Some.is (λ p named picked. c.in_ok-found-in-Some.ensures p named picked ∙ ap (times_put p c.args.rows.now) c.as_slice.ensures.value) are
