use Rattle.std.proofs.Common.{◌≤◌, ◌∙◌, ◌+◌, List, [], length, take, subst, sym, ap, rules}
use Rattle.std.proofs.lemmas.List.{take_all}
use Rattle.eos_base.specs.declared.partition_name.PartitionName.{PartitionName}
use Rattle.eos_source.specs.Said.{known_by}
use Rattle.eos_explaining.specs.steps.Again.{AreNamedOrRead}
use Rattle.eos_explaining.specs.steps.Times.{timed_in, known_times, AreTimesKnown}
use Rattle.eos_explaining.proofs.Covered.{take_on}
use Rattle.eos_explaining.proofs.TimesFound.{known_none, times_are}
use Rattle.eos_explaining.proofs.times.row_times.Goals as goal

pub loop-first-init : goal.loop-first-init
loop-first-init g c =
    let source = c.args.pieces.now.source.now in
    let known = known_by (g.S.Source.said source) (g.S.Source.is_log source) in
    let shape = c.args.pieces.now.shape.now in
    (search rules, subst (AreTimesKnown known shape c.args.rows.now []) (sym c.new-found.ensures.items) (known_none known shape c.args.rows.now))

pub loop-first-preserved : goal.loop-first-preserved
loop-first-preserved g c =
    let source = c.args.pieces.now.source.now in
    let known = known_by (g.S.Source.said source) (g.S.Source.is_log source) in
    let shape = c.args.pieces.now.shape.now in
    let names = c.as_slice-names.result.now in
    let first = c.loop-first.first in
    let count = c.min-count.result in
    let within : first + count ≤ length names = search rules in
    (within, subst (λ (ns : List PartitionName). AreTimesKnown known shape c.args.rows.now ns c.time_each.new.found.items) (sym (take_on names first count c.loop-first.invariant.0)) (c.in_ok-time_each.ensures.times (take first names) c.loop-first.invariant.1))

pub returns-clause-times : goal.returns-clause-times
returns-clause-times g c =
    let source = c.args.pieces.now.source.now in
    let known = known_by (g.S.Source.said source) (g.S.Source.is_log source) in
    let shape = c.args.pieces.now.shape.now in
    let names = c.as_slice-names.result.now in
    let all = c.args.rows.now in
    let named = subst (λ (ns : List PartitionName). AreNamedOrRead [] ns timed_in all) (sym c.as_slice-names.ensures.value) c.in_ok-names.ensures in
    let are = subst (λ (ns : List PartitionName). AreTimesKnown known shape all ns c.loop-first.found.items) (take_all c.loop-first.first names c.loop-first-test.false) c.loop-first.invariant.1 in
    times_are known shape all names c.loop-first.found.items c.in_ok-times.times.items named are (c.in_ok-times.ensures ∙ ap (known_times all) c.as_slice.ensures.value)
