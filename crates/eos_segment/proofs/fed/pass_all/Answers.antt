use Rattle.std.proofs.Common.{◌≡◌, ◌≢◌, ◌++◌, List, drop, sym, ap, subst, ◌∙◌, rules}
use Rattle.eos_batch.specs.declared.fault.BatchFault.TheVariants as faults
use Rattle.eos_batch.specs.declared.head.BatchHead.{BatchHead}
use Rattle.eos_reading.specs.Heads.{HasHeads}
use Rattle.eos_segment.specs.steps.Feeding.{IsBefore}
use Rattle.eos_segment.proofs.PassedHeads.{ends_cut, ends_at_batch, ends_bad}
use Rattle.eos_segment.proofs.fed.pass_all.Goals as goal

pub returns-in-Some-clause-passed : goal.returns-in-Some-clause-passed
returns-in-Some-clause-passed c = λ fed before h texts sum.
    let run = c.in_ok-byte.ensures in
    let buffer = c.args.buffer.now in
    let rest = drop c.in_ok-byte.byte buffer in
    let same : c.as_slice.result.now ≡ run.more = c.as_slice.ensures.value ∙ (run.heads_are ∙ ap (λ (hs : List BatchHead). hs ++ run.more) c.new-heads.ensures.items) in
    let first : IsBefore fed rest c.as_slice.result.now c.args.walk.now = record {
      before = before;
      passed = h;
      bytes = buffer;
      texts = texts;
      batches = run.batches;
      heads_are = subst (λ (hs : List BatchHead). HasHeads buffer run.batches hs rest) (sym same) run.reads;
    } in
    ends_at_batch fed rest c.pass_heads.new.walk c.in_ok-fault.field-0 c.in-Some.fault c.in-Some.is (c.in_ok-fault.ensures fed rest first)

pub returns-then-eq-clause-passed : goal.returns-then-eq-clause-passed
returns-then-eq-clause-passed c = λ fed before h texts sum.
    let run = c.in_ok-byte.ensures in
    let buffer = c.args.buffer.now in
    let rest = drop c.in_ok-byte.byte buffer in
    let same : c.as_slice.result.now ≡ run.more = c.as_slice.ensures.value ∙ (run.heads_are ∙ ap (λ (hs : List BatchHead). hs ++ run.more) c.new-heads.ensures.items) in
    let first : IsBefore fed rest c.as_slice.result.now c.args.walk.now = record {
      before = before;
      passed = h;
      bytes = buffer;
      texts = texts;
      batches = run.batches;
      heads_are = subst (λ (hs : List BatchHead). HasHeads buffer run.batches hs rest) (sym same) run.reads;
    } in
    let is : c.in_ok-byte.batch ≡ faults.Truncated = search rules in
    ends_cut fed rest c.pass_heads.new.walk c.in_ok-fault.field-0 c.in_ok-byte.batch c.in_default.is (c.in_ok-fault.ensures fed rest first) run.ends is

pub returns-clause-passed : goal.returns-clause-passed
returns-clause-passed c = λ fed before h texts sum.
    let run = c.in_ok-byte.ensures in
    let buffer = c.args.buffer.now in
    let rest = drop c.in_ok-byte.byte buffer in
    let same : c.as_slice.result.now ≡ run.more = c.as_slice.ensures.value ∙ (run.heads_are ∙ ap (λ (hs : List BatchHead). hs ++ run.more) c.new-heads.ensures.items) in
    let first : IsBefore fed rest c.as_slice.result.now c.args.walk.now = record {
      before = before;
      passed = h;
      bytes = buffer;
      texts = texts;
      batches = run.batches;
      heads_are = subst (λ (hs : List BatchHead). HasHeads buffer run.batches hs rest) (sym same) run.reads;
    } in
    let ne : c.in_ok-byte.batch ≢ faults.Truncated = search rules in
    ends_bad fed buffer c.pass_heads.new.walk c.in_ok-fault.field-0 c.in_ok-byte.batch c.args.place c.in_ok-byte.byte c.in_ok-at.at c.bad_batch.result c.in_default.is (c.in_ok-fault.ensures fed rest first) run.ends ne run.within sum c.in_ok-at.ensures
    c.bad_batch.ensures.topic c.bad_batch.ensures.partition c.bad_batch.ensures.offset c.bad_batch.ensures.kind
