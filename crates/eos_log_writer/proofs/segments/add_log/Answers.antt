use Rattle.std.proofs.Common.{◌≡◌, ◌∙◌, sym, ap, Err, true, false, arith}
use Rattle.std.proofs.lemmas.Result.{err_from_is_err_and}
use Rattle.eos_machine.specs.Evidences.{batches_at, segment_at}
use Rattle.eos_log_writer.proofs.Adding.{one_added, first_left}
use Rattle.eos_log_writer.proofs.Texts.{one_further}
use Rattle.eos_machine.specs.Batches.{AreTexts}
use Rattle.eos_machine.proofs.StateValues.{all_read_back}
use Rattle.eos_machine.proofs.FittingTests.{all_fit, fit_all}
use Rattle.eos_log_writer.proofs.Refusals.{begins_inside, next_taken}
use Rattle.eos_log_writer.proofs.segments.add_log.Goals as goal

pub loop-i-init : goal.loop-i-init
loop-i-init c = (
  first_left c.args.config c.args.leaders.place c.args.leaders.elections.now c.args.log.now c.args.builder.now c.segment_count-count.result c.segment_count-count.ensures,
  λ k l. absurd (omega (arith, l)),
)

pub loop-i-preserved : goal.loop-i-preserved
loop-i-preserved c = (
  one_added (segment_at c.args.config c.args.leaders.place c.args.leaders.elections.now c.args.log.now) c.loop-i.builder c.add.new.builder _ c.in-Ok.segment c.loop-i.i c.segment_count-count.result (omega (arith, c.loop-i-test.true)) c.loop-i.invariant.0 c.in-Ok.ensures.segment c.in_ok-add.ensures.added,
  one_further (λ k. AreTexts (batches_at c.args.config c.args.leaders.place c.args.leaders.elections.now c.args.log.now k)) c.loop-i.i c.loop-i.invariant.1 c.in-Ok.ensures.written,
)

pub returns-clause-written : goal.returns-clause-written
returns-clause-written c = record {
  texts = λ k l. c.loop-i.invariant.1 k (omega (arith, c.loop-i-test.false, c.segment_count-count.ensures, l));
  reads = all_read_back c.args.config c.args.log.now c.requires (all_fit c.args.config c.args.log.now (sym c.are_fit.ensures ∙ c.if-not-are_fit.false));
}

pub returns-in_err-add-clause-only : goal.returns-in_err-add-clause-only
returns-in_err-add-clause-only c =
    let p = err_from_is_err_and c.from_residual.result c.from_residual.ensures.1 in
    λ l h o q. c.in_err-add.ensures.only
    (next_taken (segment_at c.args.config c.args.leaders.place c.args.leaders.elections.now c.args.log.now) c.loop-i.builder _ c.in-Ok.segment c.loop-i.i c.segment_count-count.result (omega (arith, c.loop-i-test.true)) o c.loop-i.invariant.0 c.in-Ok.ensures.segment)
    (ap Err (sym p.2) ∙ (sym p.1 ∙ q))

pub segment_at-requires-clause-fits : goal.segment_at-requires-clause-fits
segment_at-requires-clause-fits c = all_fit c.args.config c.args.log.now (sym c.are_fit.ensures ∙ c.if-not-are_fit.false)

pub segment_at-requires-clause-begins : goal.segment_at-requires-clause-begins
segment_at-requires-clause-begins c = begins_inside c.args.config _ c.loop-i.i c.requires.segment_records.0 (omega (arith, c.loop-i-test.true, c.segment_count-count.ensures))

pub returns-then-not-are_fit-clause-only : goal.returns-then-not-are_fit-clause-only
returns-then-not-are_fit-clause-only c =
    λ l h o q. absurd (let t : false ≡ true = sym c.if-not-are_fit.true ∙ (c.are_fit.ensures ∙ fit_all c.args.config c.args.log.now h) in cc)
