use Rattle.std.proofs.Common.{◌≡◌, ℕ, ◌+◌, [], ◌∷◌, length, take, inl, sym, ap, subst, ◌∙◌, arith, rules, List}
use Rattle.std.specs.Vec.Iter.{into_iter_items}
use Rattle.eos_evidence.specs.declared.segment.Segment.{Segment}
use Rattle.eos_source.specs.steps.Runs.{asking, IsRead, ArePassed}
use Rattle.eos_source.proofs.PiecesJoined.{none_passed, some_left, next, all_passed}
use Rattle.eos_source.proofs.SlotsRefused as refused
use Rattle.eos_source.proofs.joined.next_run.Goals as goal

pub loop-init : goal.loop-init
loop-init g c = (none_passed _ _, refused.none_passed (into_iter_items c.args.slots.now))

pub unreachable-requires : goal.unreachable-requires
unreachable-requires g c =
    let r = c.requires in
    let so = c.loop.invariant.0 r.0 r.1 r.2 r.3 r.4 r.5 r.6 r.7 r.8 in
    let some = some_left r.0 r.1 r.2 r.3 (r.5 + c.loop.counter) c.args.names.now r.6 c.loop.counter (into_iter_items c.loop.slots) c.loop-test.true so.1 in
    search (arith, rules, some)

pub longer-requires : goal.longer-requires
longer-requires g c =
    let r = c.requires in
    let so = c.loop.invariant.0 r.0 r.1 r.2 r.3 r.4 r.5 r.6 r.7 r.8 in
    let head = c.in-Some.ensures.cases.0 ∙ ap (λ s. s ∷ into_iter_items c.next.new.self) c.in-Ok.is in
    let n = next r.0 r.1 r.2 r.3 r.4 r.5 c.args.names.now r.6 c.loop.counter c.in-Ok.next (into_iter_items c.loop.slots) (into_iter_items c.next.new.self) c.loop-test.true r.7 so.1 head in
    (r.0, r.1, asking r.2 r.3 r.4, r.5, take c.loop.counter c.args.names.now, n.name ∷ [], so.0, n.read)

pub loop-preserved : goal.loop-preserved
loop-preserved g c =
    let head = c.in-Some.ensures.cases.0 ∙ ap (λ s. s ∷ into_iter_items c.next.new.self) c.in-Ok.is in (
      λ known said topics apps topic piece later all at.
          let so = c.loop.invariant.0 known said topics apps topic piece later all at in
          let n = next known said topics apps topic piece c.args.names.now later c.loop.counter c.in-Ok.next (into_iter_items c.loop.slots) (into_iter_items c.next.new.self) c.loop-test.true all so.1 head in
          let longer = c.in_ok-longer-in-Ok.ensures known said (asking topics apps topic) piece (take c.loop.counter c.args.names.now) (n.name ∷ []) so.0 n.read in
          (subst (λ (xs : List Segment). IsRead known said (asking topics apps topic) piece xs c.in_ok-longer-in-Ok.field-0) (sym n.taken) longer, n.slots),
      refused.one_passed c.loop.counter (into_iter_items c.args.slots.now) (into_iter_items c.loop.slots) (into_iter_items c.next.new.self) c.in-Ok.next head c.loop.invariant.1,
    )

pub returns-clause-run : goal.returns-clause-run
returns-clause-run g c =
    let e : c.loop.counter ≡ length c.args.names.now = omega (arith, c.loop.auto.counter-end, c.loop-test.false) in
    all_passed c.args.names.now (into_iter_items c.args.slots.now) c.loop.counter c.loop.run (into_iter_items c.loop.slots) e c.loop.invariant.0

pub returns-clause-passed : goal.returns-clause-passed
returns-clause-passed g c =
    let e : c.loop.counter ≡ length c.args.names.now = omega (arith, c.loop.auto.counter-end, c.loop-test.false) in
    subst (λ (n : ℕ). ArePassed n (into_iter_items c.args.slots.now) (into_iter_items c.loop.slots)) e c.loop.invariant.1

pub returns-in-Err-clause-refused : goal.returns-in-Err-clause-refused
returns-in-Err-clause-refused g c =
    let head = c.in-Some.ensures.cases.0 ∙ ap (λ s. s ∷ into_iter_items c.next.new.self) c.in-Err.is in
    inl (refused.refused_here c.loop.counter (into_iter_items c.args.slots.now) (into_iter_items c.loop.slots) (into_iter_items c.next.new.self) c.in-Err.why head c.loop.invariant.1)
