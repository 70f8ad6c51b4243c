use Rattle.std.proofs.Common.{◌≡◌, ◌≤◌, ◌+◌, length, rules}
use Rattle.eos_faults.proofs.RangesJoined.{all_ranges}
use Rattle.eos_faults.proofs.SharesTaken.{ranges_joined}
use Rattle.eos_faults.proofs.by_range.faults_by_range.Goals as goal

pub loop-first-preserved : goal.loop-first-preserved
loop-first-preserved g c =
    let laws = g.met.S.FaultSink g.world.𝓛 g.world.𝓜 g.world.𝓡 ((λ s x. x), (λ x. x), (λ x. x), λ x. x) in
    let first = c.loop-first.first in
    let next = first + c.min-count.result in
    let within : next ≤ c.in_ok-ranges.ranges = search rules in (
      within,
      ranges_joined g.S.FaultSink.takes c.args.books.now c.as_slice.result.now laws.takes_both 0 first next c.args.sink.now c.loop-first.sink c.take_ranges.new.sink c.loop-first.invariant.1 c.in_ok-take_ranges.ensures,
    )

pub returns : goal.returns
returns g c =
    let bounds = c.as_slice.result.now in
    let told = c.loop-first.invariant.1 in
    let all : c.loop-first.first ≡ length bounds + 1 = search rules in (
      told.list,
      told.taken,
      λ a reads are. all_ranges a bounds c.loop-first.first all told.list (told.leads a reads are c.as_slice.ensures.sorted),
    )
