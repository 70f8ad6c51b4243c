use Rattle.std.proofs.Common.{◌≡◌, ◌<◌, ◌%◌, ◌∙◌, ℕ, List, Bool, true, length, get_or, refl, sym, subst, arith, rules}
use Rattle.std.proofs.Math.Nat.{mod-lt}
use Rattle.eos_fold.specs.Parts.{PartLog}
use Rattle.eos_commits.specs.steps.Settled.{is_settled}
use Rattle.eos_commits.proofs.settled.are_settled.Given.{Over}
use Rattle.eos_commits.proofs.settled.are_settled.Goals as goal

-- what a thread found of its partitions
found : (g : Over) (c : goal.After-drop-answers g) (rest : ℕ) → rest < c.min-threads.result → get_or c.in_ok-answers.answers.items rest true ≡ true
    → (i : ℕ) (d : PartLog) → i < length c.args.parts.now → i % c.min-threads.result ≡ rest → is_settled c.args.roles.now (get_or c.args.parts.now i d) ≡ true
found g c rest lt =
    let met = (c.in_ok-answers.ensures.each rest true lt).1.met in
    search rules

pub returns : goal.returns
returns g c = λ yes i d lt.
    let n = c.min-threads.result in
    let some : 0 < c.min-threads.result = omega (arith, c.if-threads-eq0.false) in
    let rest : i % n < n = mod-lt i some in
    let count : length c.as_slice.result.now ≡ n = c.as_slice.ensures.len ∙ c.in_ok-answers.ensures.len in
    let all = c.are_all.ensures yes (i % n) true (subst (λ k. i % n < k) (sym count) rest) in
    found g c (i % n) rest (subst (λ (bs : List Bool). get_or bs (i % n) true ≡ true) c.as_slice.ensures.value all) i d lt refl
