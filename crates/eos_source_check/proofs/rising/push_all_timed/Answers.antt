use Rattle.std.proofs.Common.{◌≡◌, ◌≤◌, ◌+◌, ◌++◌, ℕ, List, drop, flat_map, length, sym, subst, arith}
use Rattle.eos_source_check.specs.steps.Rising.{timed_of}
use Rattle.eos_source_check.proofs.RisingTimes.{flat_next, flat_done}
use Rattle.eos_source_check.proofs.rising.push_all_timed.Goals as goal

pub loop-offset-preserved : goal.loop-offset-preserved
loop-offset-preserved c =
    let timed = timed_of c.args.batch.now c.args.standing in
    let i = c.loop-offset.offset-index in
    let first = c.args.times.now.items in
    let before = c.loop-offset.times.items in
    let now = c.push_timed.new.times.items in
    subst (λ (xs : List ℕ). now ++ flat_map timed (drop (i + 1) xs) ≡ first ++ flat_map timed xs) c.offsets.view_is
    (flat_next timed c.offsets.inside.offsets.now i _ before now (first ++ flat_map timed c.offsets.inside.offsets.now) c.loop-offset-test.true c.in_ok-push_timed.ensures
    (subst (λ (xs : List ℕ). before ++ flat_map timed (drop i xs) ≡ first ++ flat_map timed xs) (sym c.offsets.view_is) c.loop-offset.invariant))

pub returns : goal.returns
returns c =
    let timed = timed_of c.args.batch.now c.args.standing in
    let i = c.loop-offset.offset-index in
    let all : length c.args.offsets.now ≤ i = subst (λ (xs : List ℕ). length xs ≤ i) c.offsets.view_is (omega (arith, c.loop-offset-test.false)) in
    flat_done timed c.args.offsets.now i c.loop-offset.times.items (c.args.times.now.items ++ flat_map timed c.args.offsets.now) all c.loop-offset.invariant
