use Rattle.std.proofs.Common.{◌≡◌, ◌≤◌, ℤ, Some, None, rules, sym, ap, subst, ◌∙◌, w64, length, arith}
use Rattle.std.specs.Prelude.{OnOk, IsSome, is_some}
use Rattle.std.specs.Ordering.{int_cmp}
use Rattle.std.specs.BTreeMap.{get}
use Rattle.std.proofs.lemmas.Int.{to_z-of_z}
use mir.Val.{SFits}
use Rattle.eos_fold.specs.declared.ends.Ends.{Ends}
use Rattle.eos_fold.specs.Tables.{ends_in, ends_at}
use Rattle.eos_fold.proofs.TableWrites.{Writes, writes, written, same_after, written_at, reserved, same_from, on_ok, on_ok_map}
use Rattle.eos_fold.proofs.table.make_room_for.Goals as goal

pub returns-clause-same : goal.returns-clause-same
returns-clause-same c =
    let fits : SFits w64 c.args.producer = search rules in
    let key = to_z-of_z w64 c.args.producer fits in
    let w : Ends = record { first = c.in-Some.ends.now.first; last = c.in-Some.ends.now.last; marker = c.in-Some.ends.now.marker; waiting = c.reserve.new.self } in
    let was : get int_cmp c.args.producers.now c.args.producer ≡ Some c.in-Some.ends.now = sym (c.in-Some.ensures.value ∙ ap (get int_cmp c.args.producers.now) key) in
    let u : Writes c.args.producers.now c.args.producer w (c.get_mut.follows.lender w) = writes c.args.producers.now (c.get_mut.follows.lender w) _ c.args.producer w key ((c.get_mut.follows.holds w).3 (ap is_some (sym c.in-Some.ensures.value))).0 in
    same_after c.args.producers.now _ c.args.producer w u (same_from c.args.producers.now c.args.producer c.in-Some.ends.now w was (reserved c.in-Some.ends.now c.reserve.new.self c.reserve.ensures.list c.reserve.ensures.more))

pub returns-clause-present : goal.returns-clause-present
returns-clause-present c =
    let fits : SFits w64 c.args.producer = search rules in
    let key = to_z-of_z w64 c.args.producer fits in
    let w : Ends = record { first = c.in-Some.ends.now.first; last = c.in-Some.ends.now.last; marker = c.in-Some.ends.now.marker; waiting = c.reserve.new.self } in
    let u : Writes c.args.producers.now c.args.producer w (c.get_mut.follows.lender w) = writes c.args.producers.now (c.get_mut.follows.lender w) _ c.args.producer w key ((c.get_mut.follows.holds w).3 (ap is_some (sym c.in-Some.ensures.value))).0 in
    on_ok _ c.reserve.result (ap is_some (written c.args.producers.now _ c.args.producer w u))

pub returns-clause-room : goal.returns-clause-room
returns-clause-room c =
    let fits : SFits w64 c.args.producer = search rules in
    let key = to_z-of_z w64 c.args.producer fits in
    let w : Ends = record { first = c.in-Some.ends.now.first; last = c.in-Some.ends.now.last; marker = c.in-Some.ends.now.marker; waiting = c.reserve.new.self } in
    let was : get int_cmp c.args.producers.now c.args.producer ≡ Some c.in-Some.ends.now = sym (c.in-Some.ensures.value ∙ ap (get int_cmp c.args.producers.now) key) in
    let u : Writes c.args.producers.now c.args.producer w (c.get_mut.follows.lender w) = writes c.args.producers.now (c.get_mut.follows.lender w) _ c.args.producer w key ((c.get_mut.follows.holds w).3 (ap is_some (sym c.in-Some.ensures.value))).0 in
    let at = written_at c.args.producers.now _ c.args.producer w u in
    rw (at, ap ends_in was) c.reserve.ensures.room

pub insert_blank-requires : goal.insert_blank-requires
insert_blank-requires c = rw c.get_mut.follows.holds-at-none (sym c.in_default.ensures.value)

pub returns-in_default-clause-present : goal.returns-in_default-clause-present
returns-in_default-clause-present c =
    let fits : SFits w64 c.args.producer = search rules in
    let key = to_z-of_z w64 c.args.producer fits in
    subst (λ (k : ℤ). OnOk c.insert_blank.result (IsSome (get int_cmp c.insert_blank.new.producers k))) key c.insert_blank.ensures.present

pub returns-in_default-clause-room : goal.returns-in_default-clause-room
returns-in_default-clause-room c =
    let fits : SFits w64 c.args.producer = search rules in
    let key = to_z-of_z w64 c.args.producer fits in
    let t = c.insert_blank.new.producers in
    let none : get int_cmp c.args.producers.now c.args.producer ≡ None = ap (get int_cmp c.args.producers.now) (sym key) ∙ sym c.in_default.ensures.value in
    let empty = ap (λ (e : Ends). length e.waiting.list) (ap ends_in none) in
    let room = subst (λ (k : ℤ). OnOk c.insert_blank.result (c.args.count ≤ (ends_at t k).waiting.room)) key c.insert_blank.ensures.room in
    on_ok_map (c.args.count ≤ (ends_at t c.args.producer).waiting.room) _ c.insert_blank.result (λ (h : c.args.count ≤ (ends_at t c.args.producer).waiting.room). omega (arith, empty, h)) room
