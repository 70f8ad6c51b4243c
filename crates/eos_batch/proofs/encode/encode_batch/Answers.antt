use Rattle.std.proofs.Common.{refl, sym, ap, ◌∙◌, length, inr, List, ℕ}
use Rattle.std.proofs.lemmas.Result.{err_from_is_err_and}
use Rattle.eos_batch.proofs.BatchTexts.{batch_whole}
use Rattle.eos_batch.proofs.EncodingLeast.{batch_least, has_no_text, refused, written, out_of_memory}
use Rattle.eos_batch.proofs.encode.encode_batch.Goals as goal

pub returns-in_err-test-clause-answer : goal.returns-in_err-test-clause-answer
returns-in_err-test-clause-answer c =
    let p = err_from_is_err_and c.from_residual.result c.from_residual.ensures.1 in
    refused c.args.batch.now c.in_err-test.field-0.0 c.from_residual.result (sym c.test.ensures ∙ c.in_err-test.was) (rw (p.1, p.2) refl)

pub returns-in_err-test-clause-refused : goal.returns-in_err-test-clause-refused
returns-in_err-test-clause-refused c =
    let p = err_from_is_err_and c.from_residual.result c.from_residual.ensures.1 in
    rw p.1 (inr (has_no_text c.args.batch.now c.in_err-test.field-0.0 (sym c.test.ensures ∙ c.in_err-test.was)))

pub returns-in_err-write-clause-answer : goal.returns-in_err-write-clause-answer
returns-in_err-write-clause-answer c =
    let p = err_from_is_err_and c.from_residual-in_err-write.result c.from_residual-in_err-write.ensures.1 in
    out_of_memory c.args.batch.now c.from_residual-in_err-write.result (sym c.test.ensures ∙ c.in_ok-test.was) (rw (p.1, p.2) refl)

pub returns-clause-answer : goal.returns-clause-answer
returns-clause-answer c = written c.args.batch.now c.in_ok-write.field-0 (sym c.test.ensures ∙ c.in_ok-test.was) c.in_ok-write.ensures.value

pub returns-clause-shortest : goal.returns-clause-shortest
returns-clause-shortest c =
    (c.in_ok-write.ensures.text, λ other t. rw (ap (λ (text : List ℕ). length text) c.in_ok-write.ensures.value) (batch_least other c.args.batch.now t))

pub returns-clause-reads_back : goal.returns-clause-reads_back
returns-clause-reads_back c = λ rest. batch_whole c.in_ok-write.field-0 c.args.batch.now rest c.in_ok-write.ensures.text
