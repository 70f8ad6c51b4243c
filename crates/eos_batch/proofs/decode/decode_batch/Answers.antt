use Rattle.std.proofs.Common.{subst}
use Rattle.eos_wire.specs.Numbers.{IsBytes}
use Rattle.eos_batch.specs.Answers.{Answers}
use Rattle.eos_batch.proofs.BatchTexts.{IsBytes-drop, answers_text, read_at}
use Rattle.eos_batch.proofs.decode.decode_batch.Goals as goal

pub returns-clause-text : goal.returns-clause-text
returns-clause-text c =
    let fits : IsBytes c.args.bytes.now = subst IsBytes c.as_slice.ensures c.are_bytes.ensures in
    answers_text c.args.bytes.now c.args.at c.batch_of.result (IsBytes-drop c.args.at c.args.bytes.now fits) c.requires c.batch_of.ensures.steps

pub returns-clause-whole : goal.returns-clause-whole
returns-clause-whole c = λ b k h. subst (Answers c.batch_of.result) (read_at c.args.bytes.now c.args.at b k h) c.batch_of.ensures.steps
