use Rattle.std.proofs.Common.{ℕ, List, subst}
use Rattle.eos_wire.specs.Numbers.{IsBytes}
use Rattle.eos_fold_file.specs.Faults.{Answers}
use Rattle.eos_fold_file.specs.Reading.{read_fold}
use Rattle.eos_fold_file.proofs.FoldAnswers.{fold_answered, each_fold_answered}
use Rattle.eos_fold_file.proofs.read.decode_fold.Goals as goal

pub returns-clause-text : goal.returns-clause-text
returns-clause-text c = fold_answered c.args.bytes.now c.read_fold.result (subst IsBytes c.as_slice.ensures c.are_bytes.ensures) (subst (λ (xs : List ℕ). Answers c.read_fold.result (read_fold xs)) c.new.ensures c.read_fold.ensures)

pub returns-clause-each_text : goal.returns-clause-each_text
returns-clause-each_text c = each_fold_answered c.args.bytes.now c.read_fold.result (subst IsBytes c.as_slice.ensures c.are_bytes.ensures) (subst (λ (xs : List ℕ). Answers c.read_fold.result (read_fold xs)) c.new.ensures c.read_fold.ensures)
