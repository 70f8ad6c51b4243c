use Rattle.std.proofs.Common.{◌+◌, ap, sym, ◌∙◌, arith}
use Rattle.eos_faults.specs.steps.OutputFaultsGathered.{first_absent, is_there}
use Rattle.eos_faults.proofs.LookedUp.{absent_at, absent_never}
use Rattle.eos_faults.proofs.SortedClaims.{not_there, numbers_rise, there_is}
use Rattle.eos_faults.proofs.claims.first_absent.Goals as goal

pub returns-then-last-top_of : goal.returns-then-last-top_of
returns-then-last-top_of c = λ a i apart are.
    let cs = c.args.claims.now in
    let there = is_there a.claims i in
    let last = c.last_there-last.result in
    let is = c.last_there-last.ensures (numbers_rise a apart i cs are) in
    let below = c.if-last-top_of.true in
    sym (absent_at there c.top_of.result 1 (last + 1) (omega arith) (omega (arith, below)) (λ n le lt. there_is a apart i cs are n (is.each n le (omega (arith, lt)))) (not_there a apart i cs are (last + 1) is.next))
    ∙ ap (λ top. first_absent there top 1) (c.top_of.ensures a i apart are)

pub returns-else-last-top_of : goal.returns-else-last-top_of
returns-else-last-top_of c = λ a i apart are.
    let cs = c.args.claims.now in
    let there = is_there a.claims i in
    let is = c.last_there-last.ensures (numbers_rise a apart i cs are) in
    let over = c.if-last-top_of.false in
    sym (absent_never there c.top_of.result 1 (λ n le lt. there_is a apart i cs are n (is.each n le (omega (arith, lt, over)))))
    ∙ ap (λ top. first_absent there top 1) (c.top_of.ensures a i apart are)
