use Rattle.std.proofs.Common.{◌≡◌, ◌+◌, rules}
use Rattle.eos_explaining.proofs.KindsCounted.{kinds_joined}
use Rattle.eos_explaining.proofs.kinds.KindCounts.join.Goals as goal

pub returns : goal.returns
returns c = λ told list are others.
    let old = c.args.self.now in
    let more = c.args.more.now in
    let all : c.in_ok-self.field-0 ≡ old.all + more.all = search rules in
    kinds_joined told list old more (record { all = c.in_ok-self.field-0; kinds = c.join_kinds.new.kinds }) are others all c.in_ok-join_kinds.ensures
