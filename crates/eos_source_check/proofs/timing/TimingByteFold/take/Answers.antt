use Rattle.std.proofs.Common.{◌≡◌, ◌≢◌, ◌++◌, ℕ, List, drop, refl, sym, ap, subst, ◌∙◌, rules}
use Rattle.eos_batch.specs.declared.fault.BatchFault.TheVariants as faults
use Rattle.eos_batch.specs.declared.head.BatchHead.{BatchHead}
use Rattle.eos_reading.specs.Heads.{HasHeads}
use Rattle.eos_source_check.specs.steps.Timing.{IsTimedOn}
use Rattle.eos_source_check.proofs.TimedBytes.{timing_ended, timing_stopped, timing_cut}
use Rattle.eos_source_check.proofs.timing.TimingByteFold.take.Goals as goal

pub returns-then-self-clause-goes_on : goal.returns-then-self-clause-goes_on
returns-then-self-clause-goes_on c = λ fed waiting more f is.
    timing_ended c.args.told.now fed waiting more _ c.args.self.now c.if-self.true f

pub returns-then-eq-clause-goes_on : goal.returns-then-eq-clause-goes_on
returns-then-eq-clause-goes_on c = λ fed waiting more f is.
    let run = c.in_ok-taken.ensures in
    let buffer = c.args.buffer.now in
    let rest = drop c.in_ok-taken.taken buffer in
    let same : c.as_slice.result.now ≡ run.more = c.as_slice.ensures.value ∙ (run.heads_are ∙ ap (λ (hs : List BatchHead). hs ++ run.more) c.new-heads.ensures.items) in
    let has = subst (λ (hs : List BatchHead). HasHeads buffer run.batches hs rest) (sym same) run.reads in
    let on = subst (λ (os : List ℕ). IsTimedOn buffer os rest c.args.self.now c.pass_heads.new.timing) c.offsets.ensures (c.in_ok-pass_heads.ensures run.batches rest c.if-self.false has) in
    let cut : c.in_ok-taken.fault ≡ faults.Truncated = search rules in
    timing_cut c.args.told.now fed waiting more buffer rest c.args.self.now c.pass_heads.new.timing c.pass_heads.new.timing c.in_ok-taken.fault is c.if-self.false f run.ends on refl refl cut refl

pub returns-clause-goes_on : goal.returns-clause-goes_on
returns-clause-goes_on c = λ fed waiting more f is.
    let run = c.in_ok-taken.ensures in
    let buffer = c.args.buffer.now in
    let rest = drop c.in_ok-taken.taken buffer in
    let same : c.as_slice.result.now ≡ run.more = c.as_slice.ensures.value ∙ (run.heads_are ∙ ap (λ (hs : List BatchHead). hs ++ run.more) c.new-heads.ensures.items) in
    let has = subst (λ (hs : List BatchHead). HasHeads buffer run.batches hs rest) (sym same) run.reads in
    let on = subst (λ (os : List ℕ). IsTimedOn buffer os rest c.args.self.now c.pass_heads.new.timing) c.offsets.ensures (c.in_ok-pass_heads.ensures run.batches rest c.if-self.false has) in
    let ne : c.in_ok-taken.fault ≢ faults.Truncated = search rules in
    timing_stopped c.args.told.now fed waiting more buffer rest c.args.self.now c.pass_heads.new.timing _ c.in_ok-taken.fault is c.if-self.false f run.ends on refl refl ne refl
