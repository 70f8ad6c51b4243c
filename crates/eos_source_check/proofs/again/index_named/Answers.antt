use Rattle.std.proofs.Common.{◌+◌, ℕ, refl, sym, ◌∙◌, ap, arith}
use Rattle.eos_source_check.proofs.FoldsAgain.{found_at}
use Rattle.eos_source_check.proofs.NamedAgain.{not_named, none_named}
use Rattle.eos_source_check.proofs.PassedAgain.{first_next, room}
use Rattle.eos_source_check.proofs.again.index_named.Goals as goal

pub overflow_add-first : goal.overflow_add-first
overflow_add-first c =
    let at = c.loop-i.invariant.0 in
    let len = c.len.ensures in
    let fits = room c.args.shape.now c.partitions-partitions.result.now c.loop-i.i c.index-partitions-i.result c.partitions-partitions.ensures.value c.partitions-partitions.ensures.evidence
    c.loop-i-test.true c.index-partitions-i.is in
    omega (arith, at, len, fits)

pub loop-i-init : goal.loop-i-init
loop-i-init c = (refl, λ known read h. h)

pub loop-i-preserved : goal.loop-i-preserved
loop-i-preserved c =
    let shapes = c.partitions-partitions.result.now in
    let i = c.loop-i.i in
    let p = c.index-partitions-i.result in
    let at = c.loop-i.invariant.0 in
    let len = c.len.ensures in
    let next = first_next shapes i p c.loop-i-test.true c.index-partitions-i.is in (
      omega (arith, at, len, next),
      λ known. not_named known shapes c.args.name.now c.loop-i.first i p c.loop-i-test.true c.index-partitions-i.is (c.loop-i.first + c.len.result) (sym c.is_named.ensures ∙ c.if-is_named.false)
          (ap (λ (n : ℕ). c.loop-i.first + n) c.len.ensures) (c.loop-i.invariant.1 known),
    )

pub returns-then-is_named-clause-some : goal.returns-then-is_named-clause-some
returns-then-is_named-clause-some c =
    found_at c.args.shape.now.partitions c.partitions-partitions.result.now c.args.name.now c.loop-i.i c.loop-i.first c.index-partitions-i.result c.partitions-partitions.ensures.value c.loop-i-test.true c.index-partitions-i.is
    (sym c.is_named.ensures ∙ c.if-is_named.true) c.loop-i.invariant.0 c.loop-i.invariant.1

pub returns-clause-none : goal.returns-clause-none
returns-clause-none c = λ known.
    none_named known c.args.shape.now.partitions c.partitions-partitions.result.now c.args.name.now c.loop-i.first c.loop-i.i c.partitions-partitions.ensures.value (omega (arith, c.loop-i-test.false)) (c.loop-i.invariant.1 known)
