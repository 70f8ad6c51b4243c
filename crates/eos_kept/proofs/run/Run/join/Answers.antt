use Rattle.std.proofs.Common.{sym, ap, length, ◌∙◌, arith}
use Rattle.eos_fold.proofs.TableWrites.{ok_of}
use Rattle.eos_kept.proofs.JoinedRuns.{can_join, begins_joining, made_joined}
use Rattle.eos_kept.proofs.run.Run.join.Goals as goal

pub take_all-requires : goal.take_all-requires
take_all-requires c =
    let ok = sym c.is_err.ensures.value ∙ c.if-is_err.false in
    let o = c.reserve_for.ensures in
    can_join c.args.before c.args.after c.reserve_for.new.producers c.reserve_for.new.heads.list c.len-by.result c.requires.before c.requires.after o.same o.list c.len-by.ensures.value (ok_of _ c.reserve_for.result ok o.ready) (ok_of _ c.reserve_for.result ok o.small)

pub append-requires : goal.append-requires
append-requires c =
    let ok = sym c.is_err.ensures.value ∙ c.if-is_err.false in
    let o = c.reserve_for.ensures in
    let room = ok_of _ c.reserve_for.result ok o.room in
    let list = ap length o.list in
    omega (arith, room, list, c.take_all.ensures.all, c.take_all.ensures.capacity)

pub returns-clause-ok : goal.returns-clause-ok
returns-clause-ok c = λ xs ys h k.
    let o = c.reserve_for.ensures in
    let begins = begins_joining xs ys c.args.before c.args.after c.reserve_for.new.producers c.reserve_for.new.heads.list _ h k c.requires.same o.same o.list c.earlier-before.ensures in
    made_joined xs ys c.args.before c.args.after _ c.take_all.new.self.heads.list k (c.take_all.ensures.taken xs ys begins) c.take_all.ensures.sequenced c.append.ensures
