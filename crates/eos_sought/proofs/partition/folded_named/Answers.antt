use Rattle.std.proofs.Common.{◌∙◌, sym, arith}
use Rattle.eos_sought.proofs.FoldedNames.{none_passed, one_passed, one_named, none_named}
use Rattle.eos_sought.proofs.partition.folded_named.Goals as goal

pub loop-one-init : goal.loop-one-init
loop-one-init c = none_passed c.args.name.now c.args.folded.now

pub loop-one-preserved : goal.loop-one-preserved
loop-one-preserved c =
    one_passed c.args.name.now c.args.folded.now c.loop-one.one-index c.one-item.result c.loop-one-test.true c.one-item.is (sym c.names.ensures ∙ c.if-names.false) c.loop-one.invariant

pub returns-then-names-clause-some : goal.returns-then-names-clause-some
returns-then-names-clause-some c =
    one_named c.args.name.now c.args.folded.now c.loop-one.one-index c.one-item.result c.loop-one-test.true c.one-item.is (sym c.names.ensures ∙ c.if-names.true) c.loop-one.invariant

pub returns-clause-none : goal.returns-clause-none
returns-clause-none c = none_named c.args.name.now c.args.folded.now c.loop-one.one-index (omega (arith, c.loop-one-test.false)) c.loop-one.invariant
