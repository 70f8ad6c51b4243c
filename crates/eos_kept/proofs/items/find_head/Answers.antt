use Rattle.std.proofs.Common.{◌≡◌, ℕ, ◌∙◌, length, take, refl, ap, arith}
use Rattle.std.proofs.lemmas.Option.{slice_get_read}
use Rattle.std.proofs.Math.Seq.{take-length}
use Rattle.eos_kept.specs.steps.Counts.{count_in}
use Rattle.eos_kept.proofs.HeadPlaces.{count_more}
use Rattle.eos_kept.proofs.items.find_head.Goals as goal

pub loop-i-preserved : goal.loop-i-preserved
loop-i-preserved c =
    let heads = c.args.heads.now in
    let i = c.loop-i.i in
    let h = c.index-heads-i.result in
    let more = count_more heads i h (slice_get_read heads (length heads) i h refl c.loop-i-test.true c.index-heads-i.is) in
    omega (arith, more, c.loop-i.invariant, c.count-count.ensures, c.if-left-count.false)

pub returns-then-left-count : goal.returns-then-left-count
returns-then-left-count c =
    let heads = c.args.heads.now in
    let i = c.loop-i.i in
    let h = c.index-heads-i.result in
    (h, slice_get_read heads (length heads) i h refl c.loop-i-test.true c.index-heads-i.is, omega (arith, c.count-count.ensures, c.if-left-count.true), c.loop-i.invariant)

pub unreachable-requires : goal.unreachable-requires
unreachable-requires c =
    let heads = c.args.heads.now in
    let z : c.loop-i.i ≡ length heads = omega (arith, c.loop-i-test.false, c.loop-i.auto.i-end) in
    let all = ap (λ (k : ℕ). count_in (take k heads)) z ∙ ap count_in (take-length heads) in
    omega (arith, all, c.loop-i.invariant, c.requires)
