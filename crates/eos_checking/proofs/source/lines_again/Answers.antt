use Rattle.std.proofs.Common.{List, ℕ, subst, sym}
use Rattle.eos_source_check.specs.Judged.{IsNotesTextOf}
use Rattle.eos_checking.proofs.source.lines_again.Goals as goal

pub returns : goal.returns
returns c = subst (λ (text : List ℕ). IsNotesTextOf c.args.spec.now c.args.noted.now.judged c.args.quiet text) (sym c.in_ok-text.ensures.cases) c.requires
