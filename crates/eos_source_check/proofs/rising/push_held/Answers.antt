use Rattle.std.proofs.Common.{◌≡◌, ◌+◌, Ok, Err, drop, arith, rules}
use Rattle.std.proofs.lemmas.Result.{on_ok_weaker}
use Rattle.eos_batch.specs.Reading.{batch_at}
use Rattle.eos_source_check.proofs.RisingTimes.{pushed_none, pushed_outside, pushed_unread, pushed_read}
use Rattle.eos_source_check.proofs.rising.push_held.Goals as goal

pub returns-then-is_empty : goal.returns-then-is_empty
returns-then-is_empty c =
    let s = c.args.standing in
    let ends : c.in-Some.behind ≡ s.head.offset + s.head.count = search rules in
    pushed_none c.args.bytes.now s c.args.offsets.now c.between-held.result c.in-Some.behind ends c.between-held.ensures c.args.times.now.items (c.is_empty.ensures c.if-is_empty.true)

pub returns-then-standing-len : goal.returns-then-standing-len
returns-then-standing-len c =
    let s = c.args.standing in
    let ends : c.in-Some.behind ≡ s.head.offset + s.head.count = search rules in
    pushed_outside c.args.bytes.now s c.args.offsets.now c.between-held.result c.in-Some.behind ends c.between-held.ensures c.args.times.now.items (omega (arith, c.len.ensures.value, c.if-standing-len.true))

pub returns-in-Ok : goal.returns-in-Ok
returns-in-Ok c =
    let s = c.args.standing in
    let ends : c.in-Some.behind ≡ s.head.offset + s.head.count = search rules in
    let read : batch_at (drop s.byte c.args.bytes.now) ≡ Ok (c.in-Ok.batch, c.in-Ok._size) = search rules in
    on_ok_weaker c.push_all_timed.result
    (λ pushed. pushed_read c.args.bytes.now s c.args.offsets.now c.between-held.result c.in-Some.behind ends c.between-held.ensures c.in-Ok.batch c.in-Ok._size c.args.times.now.items c.push_all_timed.new.times.items
    (omega (arith, c.len.ensures.value, c.if-standing-len.false)) read pushed)
    c.push_all_timed.ensures

pub returns-in-Err : goal.returns-in-Err
returns-in-Err c =
    let s = c.args.standing in
    let ends : c.in-Some.behind ≡ s.head.offset + s.head.count = search rules in
    let unread : batch_at (drop s.byte c.args.bytes.now) ≡ Err c.in-Err.field-0 = search rules in
    pushed_unread c.args.bytes.now s c.args.offsets.now c.between-held.result c.in-Some.behind ends c.between-held.ensures c.in-Err.field-0 c.args.times.now.items (omega (arith, c.len.ensures.value, c.if-standing-len.false)) unread
