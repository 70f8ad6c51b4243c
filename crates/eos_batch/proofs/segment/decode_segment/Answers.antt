use Rattle.std.proofs.Common.{◌≡◌, ◌<◌, ◌∙◌, [], Result, subst, drop, length, arith, None, Some}
use Rattle.std.specs.Prelude.{ℕ, IfErr}
use Rattle.std.proofs.lemmas.List.{drop_all}
use Rattle.eos_wire.specs.Numbers.{IsBytes}
use Rattle.eos_batch.specs.declared.batch.Batch.{Batch}
use Rattle.eos_batch.specs.declared.fault.BatchFault.{BatchFault}
use Rattle.eos_batch.specs.Real.{IsReal}
use Rattle.eos_batch.proofs.SegmentTexts.{step_at, stops_at, longest}
use Rattle.eos_batch.proofs.segment.decode_segment.Goals as goal

pub texts-preserved : goal.texts-preserved
texts-preserved c =
    let fits : IsBytes c.args.bytes.now = subst IsBytes c.as_slice.ensures c.are_bytes.ensures in
    let s = step_at c.args.bytes.now c.texts.batches.items c.texts.at c.in-Ok.batch c.in-Ok.len fits c.texts.invariant.within c.texts.invariant.splits (c.in_ok-batch.ensures.read ∙ c.in-Ok.is) in
    record { splits = rw c.in_ok-push-in-Ok.ensures.items s.splits; within = s.within }

pub returns-clause-longest : goal.returns-clause-longest
returns-clause-longest c = λ others rest t.
    let none : drop c.texts.at c.args.bytes.now ≡ [] = drop_all c.texts.at c.args.bytes.now (omega (arith, c.len.ensures.value, c.texts-test.false)) in
    rw c.new-2.ensures (longest c.args.bytes.now c.args.bytes.now (drop c.texts.at c.args.bytes.now) None c.texts.batches.items others rest none c.texts.invariant.splits t)

pub returns-in-Err : goal.returns-in-Err
returns-in-Err c =
    let lt : c.texts.at < length c.args.bytes.now = omega (arith, c.len.ensures.value, c.texts-test.true) in
    let real : IsReal c.in-Err.fault = subst (λ (r : Result (Batch × ℕ) BatchFault). IfErr r IsReal) c.in-Err.is c.in_ok-batch.ensures.real in
    let halt = stops_at c.args.bytes.now c.texts.at c.in-Err.fault lt (c.in_ok-batch.ensures.read ∙ c.in-Err.is) real in
    record {
      text = (drop c.texts.at c.args.bytes.now, rw c.new.ensures c.texts.invariant.splits, halt);
      longest = λ others more t. rw c.new.ensures (longest c.args.bytes.now c.args.bytes.now (drop c.texts.at c.args.bytes.now) (Some (c.texts.at, c.in-Err.fault)) c.texts.batches.items others more halt c.texts.invariant.splits t);
    }
