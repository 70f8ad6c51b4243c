use Rattle.std.proofs.Common.{sym, ◌∙◌, arith, pos, false, None}
use Rattle.eos_batch.specs.declared.head.BatchHead.{BatchHead}
use Rattle.eos_reading.proofs.SealSteps.{read_none, read_inside, read_some, read_all, next_fits}
use Rattle.eos_reading.proofs.seals.read_seals.Goals as goal

pub loop-head-init : goal.loop-head-init
loop-head-init c = read_none c.args.bytes.now c.args.heads.now c.args.seals.now.items c.requires.heads

pub read_seal-requires-clause-inside : goal.read_seal-requires-clause-inside
read_seal-requires-clause-inside c = read_inside c.args.bytes.now c.args.heads.now _ _ c.loop-head.head-index c.loop-head.at c.loop-head-test.true c.loop-head.invariant

pub unreachable-requires : goal.unreachable-requires
unreachable-requires c = read_some c.args.bytes.now c.args.heads.now _ _ c.loop-head.head-index c.loop-head.at _ c.loop-head-test.true c.loop-head.invariant (sym c.in_default.is ∙ c.read_seal.ensures)

pub overflow_add-at : goal.overflow_add-at
overflow_add-at c =
    let d : BatchHead = record { offset = 0; count = 0; size = 0; producer = pos 0; epoch = pos 0; sequence = pos 0; is_control = false; is_transactional = false; marker = None } in
    let fits = next_fits c.args.bytes.now c.args.heads.now c.args.seals.now.items c.loop-head.seals.items c.loop-head.head-index c.loop-head.at d c.loop-head-test.true c.loop-head.invariant c.requires.small in
    omega (arith, fits)

pub returns : goal.returns
returns c = read_all c.args.bytes.now c.args.heads.now _ _ c.loop-head.head-index c.loop-head.at c.loop-head-test.false c.loop-head.invariant
