use Rattle.std.proofs.Common.{◌≡◌, ◌<◌, ◌∙◌, ℕ, List, Bool, true, length, get_or, sym, subst, arith, rules}
use Rattle.eos_table.specs.steps.Wanted.{IsGood}
use Rattle.eos_table.proofs.quick.are_good.Given.{Over}
use Rattle.eos_table.proofs.quick.are_good.Goals as goal

-- what a thread found
found : (g : Over) (c : goal.After-drop-answers g) (rest : ℕ) → rest < c.get.result → get_or c.in_ok-answers.answers.items rest true ≡ true
    → IsGood c.get.result rest c.args.ground.now.decisions.now c.args.ground.now.owners.now c.args.ground.now.lists.now c.args.ground.now.parts.now
found g c rest lt =
    let met = (c.in_ok-answers.ensures.each rest true lt).1.met in
    search rules

pub returns : goal.returns
returns g c = λ yes.
    let n = c.get.result in
    let some : 0 < n = omega (arith, c.get.ensures.some) in
    let count : length c.as_slice.result.now ≡ n = c.as_slice.ensures.len ∙ c.in_ok-answers.ensures.len in (
      n,
      some,
      λ rest lt.
          let all = c.are_all.ensures yes rest true (subst (λ k. rest < k) (sym count) lt) in
          found g c rest lt (subst (λ (bs : List Bool). get_or bs rest true ≡ true) c.as_slice.ensures.value all),
    )
