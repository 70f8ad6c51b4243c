use Rattle.std.proofs.Common.{rules, ◌≤◌, ◌+◌, ℤ, ap, subst, ◌∙◌, inr, length, arith, w64}
use Rattle.std.proofs.lemmas.Int.{to_z-of_z}
use mir.Val.{SFits}
use Rattle.std.specs.Prelude.{IsSome}
use Rattle.std.specs.Ordering.{int_cmp}
use Rattle.std.specs.Map.{lookup}
use Rattle.std.specs.BTreeMap.{get, is_at}
use Rattle.eos_fold.specs.Tables.{ends_at}
use Rattle.eos_fold.proofs.TableWrites.{same_ends, same_trans, ready_step, ready_end}
use Rattle.eos_fold.proofs.table.make_room.Goals as goal

pub loop-producer-init : goal.loop-producer-init
loop-producer-init c = record {
  same = λ id. same_ends (ends_at c.args.producers.now id);
  ready = λ id e g. inr (ap (lookup (is_at (int_cmp id))) c.iter-rest.ensures.rest ∙ g);
}

pub loop-producer-preserved : goal.loop-producer-preserved
loop-producer-preserved c = record {
  same = λ id. same_trans _ _ _ (c.loop-producer.invariant.same id) (c.make_room_for.ensures.same id);
  ready = λ id e g.
      let fits : SFits w64 c.in-Some.producer.now = search rules in
      let key = to_z-of_z w64 c.in-Some.producer.now fits in
      let present = subst (λ (k : ℤ). IsSome (get int_cmp c.make_room_for.new.producers k)) key c.in_ok-make_room_for.ensures.present in
      let room = subst (λ (k : ℤ). length (ends_at c.loop-producer.producers k).waiting.list + c.len.result ≤ (ends_at c.make_room_for.new.producers k).waiting.room) key c.in_ok-make_room_for.ensures.room in
      let n = c.len.ensures in
      ready_step c.loop-producer.producers c.make_room_for.new.producers c.in-Some.producer.now id c.in-Some.ends.now e c.loop-producer.rest c.next.new.self c.in-Some.ensures.steps
      c.make_room_for.ensures.same c.make_room_for.ensures.keeps present (omega (arith, room, n)) (c.loop-producer.invariant.ready id e g);
}

pub returns-in_err-make_room_for-clause-same : goal.returns-in_err-make_room_for-clause-same
returns-in_err-make_room_for-clause-same c = λ id. same_trans _ _ _ (c.loop-producer.invariant.same id) (c.make_room_for.ensures.same id)

pub returns-clause-ready : goal.returns-clause-ready
returns-clause-ready c = λ id e g. ready_end c.loop-producer.producers id e c.loop-producer.rest c.in_default.ensures.steps.0 (c.loop-producer.invariant.ready id e g)
