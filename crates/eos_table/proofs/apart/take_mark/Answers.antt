use Rattle.std.proofs.Common.{◌≡◌, [], ◌∷◌, ◌++◌, true}
use Rattle.std.proofs.lemmas.Result.{IfOk-weaker}
use Rattle.eos_table.specs.steps.Doubled.{doubled_at}
use Rattle.eos_table.specs.steps.Apart.{Fits}
use Rattle.eos_table.proofs.ApartSteps.{apart_without}
use Rattle.eos_table.proofs.apart.take_mark.Goals as goal

pub returns-in-None : goal.returns-in-None
returns-in-None c = λ before fits.
    let mark = c.args.mark.now in
    let homes = c.is_at_home.new.homes in
    IfOk-weaker c.is_at_home.result _ (λ yes. yes ≡ true → Fits c.args.owners.now homes (before ++ mark ∷ []) × (doubled_at before mark ≡ []))
    (λ yes h is. apart_without c.args.owners.now c.args.homes.now homes before mark fits (h is) c.in-None.is) c.is_at_home.ensures

pub returns-in-Some : goal.returns-in-Some
returns-in-Some c = λ before fits. c.take_owned.ensures before c.in-Some.is fits
