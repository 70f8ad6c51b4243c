use Rattle.std.proofs.Common.{◌≤◌, rules, ap, subst, sym, ◌∙◌, w64, length, arith}
use Rattle.std.specs.Prelude.{is_some}
use Rattle.std.proofs.lemmas.Int.{to_z-of_z}
use mir.Val.{SFits}
use Rattle.eos_fold.specs.declared.ends.Ends.{Ends}
use Rattle.eos_fold.proofs.TableWrites.{Writes, writes, written, written_at, same_after, same_blank}
use Rattle.eos_fold.proofs.table.insert_blank.Goals as goal

pub returns-clause-same : goal.returns-clause-same
returns-clause-same c =
    let fits : SFits w64 c.args.producer = search rules in
    let key = to_z-of_z w64 c.args.producer fits in
    let w : Ends = record { first = c.blank-ends.result.first; last = c.blank-ends.result.last; marker = c.blank-ends.result.marker; waiting = c.reserve.new.self } in
    let u : Writes c.args.producers.now c.args.producer w c.insert.new.self = writes c.args.producers.now c.insert.new.self _ c.args.producer w key c.in_ok-insert.ensures.updates.0 in
    same_after c.args.producers.now c.insert.new.self c.args.producer w u
    (same_blank c.args.producers.now c.args.producer w c.requires c.blank-ends.ensures.first c.blank-ends.ensures.last c.blank-ends.ensures.marker (c.reserve.ensures.list ∙ c.blank-ends.ensures.waiting))

pub returns-clause-present : goal.returns-clause-present
returns-clause-present c =
    let fits : SFits w64 c.args.producer = search rules in
    let key = to_z-of_z w64 c.args.producer fits in
    let w : Ends = record { first = c.blank-ends.result.first; last = c.blank-ends.result.last; marker = c.blank-ends.result.marker; waiting = c.reserve.new.self } in
    let u : Writes c.args.producers.now c.args.producer w c.insert.new.self = writes c.args.producers.now c.insert.new.self _ c.args.producer w key c.in_ok-insert.ensures.updates.0 in
    ap is_some (written c.args.producers.now c.insert.new.self c.args.producer w u)

pub returns-clause-room : goal.returns-clause-room
returns-clause-room c =
    let fits : SFits w64 c.args.producer = search rules in
    let key = to_z-of_z w64 c.args.producer fits in
    let w : Ends = record { first = c.blank-ends.result.first; last = c.blank-ends.result.last; marker = c.blank-ends.result.marker; waiting = c.reserve.new.self } in
    let u : Writes c.args.producers.now c.args.producer w c.insert.new.self = writes c.args.producers.now c.insert.new.self _ c.args.producer w key c.in_ok-insert.ensures.updates.0 in
    let empty = ap length c.blank-ends.ensures.waiting in
    subst (λ (x : Ends). c.args.count ≤ x.waiting.room) (sym (written_at c.args.producers.now c.insert.new.self c.args.producer w u)) (omega (arith, empty, c.in_ok-reserve.ensures.room))
