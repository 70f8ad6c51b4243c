use Rattle.std.proofs.Common.{◌≡◌, ◌∙◌, ◌++◌, ℕ, List, [], ap, rules, string_bytes}
use Rattle.eos_explaining.specs.steps.Kinds.{counts_text}
use Rattle.eos_explaining.proofs.KindsCounted.{kinds_said}
use Rattle.eos_explaining.proofs.kinds.line_of.Goals as goal

pub returns : goal.returns
returns c =
    let none : string_bytes c.new-line.result ≡ [] = search rules in
    λ told are.
    c.in_ok-push_counts.ensures.whole ∙ (ap (λ (l : List ℕ). l ++ counts_text c.args.counts.now) none ∙ kinds_said told c.args.counts.now are)
