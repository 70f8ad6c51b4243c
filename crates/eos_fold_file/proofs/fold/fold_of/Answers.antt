use Rattle.std.proofs.Common.{refl, arith, length, ◌≤◌, ◌^◌}
use Rattle.eos_fold_file.proofs.FrontSteps.{fold_right}
use Rattle.eos_fold_file.proofs.fold.fold_of.Goals as goal

pub returns-clause-right : goal.returns-clause-right
returns-clause-right g c =
    let e = c.in_ok-front.ensures.ok in
    let short : length e.0 ≤ 2 ^ 30 = omega (arith, e.2) in
    fold_right _ c.unsigned_abs-begin.result e.0 c.in_ok-front.front c.unsigned_abs-begin.ensures.value c.unsigned_abs-begin.ensures.bound short refl refl refl refl e.3
