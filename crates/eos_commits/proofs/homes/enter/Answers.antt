use Rattle.std.proofs.Common.{◌≡◌, ℤ, Some, cond, w32, rules, sym, subst, ◌∙◌}
use Rattle.std.proofs.lemmas.Int.{to_z-of_z}
use mir.Val.{SFits}
use Rattle.eos_commits.specs.Commits.{Group, is_same}
use Rattle.eos_commits.specs.steps.Lent.{homes_of}
use Rattle.eos_commits.proofs.HomesMet.{met_before, met_new}
use Rattle.eos_commits.proofs.homes.enter.Goals as goal

pub returns-in-Some-clause-homes : goal.returns-in-Some-clause-homes
returns-in-Some-clause-homes c = met_before (homes_of c.args.homes.now) c.args.group.now c.args.number _ (sym c.home_of.ensures ∙ c.in-Some.is)

pub returns-in_ok-put_home-in-None-clause-homes : goal.returns-in_ok-put_home-in-None-clause-homes
returns-in_ok-put_home-in-None-clause-homes c =
    let fits : SFits w32 c.args.number = search rules in
    let number = to_z-of_z w32 c.args.number fits in
    let put = subst (λ (n : ℤ). (other : Group) → homes_of c.put_home.new.homes other ≡ cond (is_same c.args.group.now other) (Some n) (homes_of c.args.homes.now other)) number c.in_ok-put_home-in-None.ensures in
    met_new (homes_of c.args.homes.now) (homes_of c.put_home.new.homes) c.args.group.now c.args.number (sym c.home_of.ensures ∙ c.in-None.is) put
