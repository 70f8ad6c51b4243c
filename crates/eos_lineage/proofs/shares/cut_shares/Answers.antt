use Rattle.std.proofs.Common.{◌∙◌, [], ap, sym, refl, arith}
use Rattle.std.proofs.lemmas.List.{append-nil}
use Rattle.eos_lineage.proofs.SharesTaken.{then_one, then_none}
use Rattle.eos_lineage.proofs.shares.cut_shares.Goals.{then-until-from+in_ok-push, else-until-from}
use Rattle.eos_lineage.proofs.shares.cut_shares.Goals as goal

pub loop-i-preserved : goal.loop-i-preserved
loop-i-preserved c =
    elim c.if-until-from.branch [
      | then-until-from+in_ok-push w ↦ (
        then_one 0 c.args.keys.now c.loop-i.shares.items c.if-until-from.shares.items c.loop-i.from c.if-until-from.from c.loop-i.left.now c.if-until-from.left.now
            (record { from = c.loop-i.from; until = c.min-until.result; keys = w.split_at.result.0 }) w.split_at.result.1.now
            c.loop-i.invariant.0 refl (omega (arith, w.if-until-from.true)) w.split_at.ensures.by_index.0
            (ap (λ v. v.items) w.shares-is ∙ w.in_ok-push.ensures.items) w.from-is (ap (λ r. r.now) w.left-is),
        omega (arith, w.from-is, c.min-until.ensures),
      )
      | else-until-from w ↦ (
        then_none 0 c.args.keys.now c.loop-i.shares.items c.if-until-from.shares.items c.loop-i.from c.if-until-from.from c.loop-i.left.now c.if-until-from.left.now
            c.loop-i.invariant.0 (ap (λ v. v.items) w.shares-is) w.from-is (ap (λ r. r.now) w.left-is),
        omega (arith, w.from-is, c.loop-i.invariant.1),
      )
    ]

pub returns : goal.returns
returns c =
    then_one 0 c.args.keys.now c.loop-i.shares.items c.push-2.new.self.items c.loop-i.from c.args.parts c.loop-i.left.now []
    (record { from = c.loop-i.from; until = c.args.parts; keys = c.loop-i.left }) []
    c.loop-i.invariant.0 refl c.loop-i.invariant.1 (sym (append-nil c.loop-i.left.now)) c.in_ok-push-2.ensures.items refl refl
