use Rattle.std.proofs.Common.{◌≡◌, ◌∙◌, ◌+◌, ◌<◌, length, ap, sym, subst, inl, arith}
use Rattle.std.specs.Ordering.{nat_cmp}
use Rattle.std.specs.Cmp.Lexicographic.{slice_cmp}
use Rattle.std.proofs.lemmas.Bool.{ltb-true}
use Rattle.std.specs.List.{flat_map}
use Rattle.eos_base.specs.Members.{is_found}
use Rattle.eos_fold.specs.Parts.{part_name}
use Rattle.eos_commits.specs.Applications.{is_part_of}
use Rattle.eos_lineage.specs.declared.exact.Left.{Left}
use Rattle.eos_lineage.specs.steps.Keys.{plain_left, HasTaken}
use Rattle.eos_lineage.specs.steps.Shares.{untaken, below_of, inputs_between}
use Rattle.eos_lineage.proofs.Stretches.{at_end}
use Rattle.eos_lineage.proofs.TakenInputs.{log_at, source_taken, other_passed}
use Rattle.eos_lineage.proofs.exact.take_logs.Goals.{then-has+in_ok-committed+in_ok-left, else-has}
use Rattle.eos_lineage.proofs.exact.take_logs.Goals as goal

pub loop-i-preserved : goal.loop-i-preserved
loop-i-preserved c = (
  omega (arith, c.loop-i.invariant.0),
  inl (omega (arith, c.loop-i-test.true)),
  λ a are.
      let b = c.args.books.now in
      let p = c.in_ok-part.part.now in
      let i = c.loop-i.i in
      let from = c.args.share.now.from in
      let u = untaken c.args.share.now in
      let v = plain_left c.loop-i.left in
      let lt : c.loop-i.i < length c.args.books.now.parts.now = ltb-true i (length b.parts.now) (sym c.in_ok-part.ensures.lookup.0) in
      let is = c.in_ok-part.ensures.lookup.1 in
      let test : is_part_of b.sources.now p ≡ c.has.result = ap (is_found (slice_cmp nat_cmp) b.sources.now) (sym (c.as_slice.ensures ∙ c.topic.ensures)) ∙ sym c.has.ensures in
      elim c.if-has.branch [
        | then-has+in_ok-committed+in_ok-left w ↦
            subst (λ (l : Left). HasTaken b.names.now u (plain_left l) (inputs_between a b from (i + 1))) (sym w.left-is)
            (source_taken a b are u v (plain_left w.in_ok-left.left) from i p w.in_ok-committed.committed.now c.loop-i.invariant.0 lt is (test ∙ w.if-has.true) w.in_ok-committed.ensures.lookup.1
            (w.in_ok-left.ensures b.names.now (part_name p) (log_at a b are i p lt is)) (c.loop-i.invariant.2 a are))
        | else-has w ↦
            subst (λ (l : Left). HasTaken b.names.now u (plain_left l) (inputs_between a b from (i + 1))) (sym w.left-is)
            (other_passed a b u v from i p c.loop-i.invariant.0 lt is (test ∙ w.if-has.false) (c.loop-i.invariant.2 a are))
      ],
)

pub returns : goal.returns
returns c = λ a are.
    let b = c.args.books.now in
    let s = c.args.share.now in
    subst (HasTaken b.names.now (untaken s) (plain_left c.loop-i.left)) (ap (flat_map (below_of a b.sources.now)) (at_end s.from s.until c.loop-i.i b.parts.now c.loop-i-test.false c.loop-i.invariant.1)) (c.loop-i.invariant.2 a are)
