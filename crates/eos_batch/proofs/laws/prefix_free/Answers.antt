use Rattle.std.proofs.Common.{[], ◌∙◌, sym, ap, ◌++◌, List, ℕ}
use Rattle.std.proofs.lemmas.List.{append-nil}
use Rattle.eos_batch.proofs.BatchTexts.{batch_prefix_free}
use Rattle.eos_batch.proofs.laws.prefix_free.Goals as goal

pub returns-clause-prefix : goal.returns-clause-prefix
returns-clause-prefix c = λ r s more f g e. (batch_prefix_free c.args._a.now c.args._b.now more [] r s f g (sym e ∙ sym (append-nil c.args._b.now))).2

pub returns-clause-one_batch : goal.returns-clause-one_batch
returns-clause-one_batch c = λ r s f g e. (batch_prefix_free c.args._a.now c.args._b.now [] [] r s f g (ap (λ (xs : List ℕ). xs ++ []) e)).1
