use Rattle.std.proofs.Common.{map, rules}
use Rattle.eos_commands.proofs.FoundMore.{one_fold}
use Rattle.eos_commands.proofs.verifying.Sides.push.Goals as goal

pub returns-in_ok-push-in-Fold : goal.returns-in_ok-push-in-Fold
returns-in_ok-push-in-Fold g c =
    let self = c.args.self.now in
    one_fold (g.D.Disk.holds self.disk.now) self.topics.now c.args.asked.wanted self.folder.now (map (λ l. l.now) self.logs.now) c.args.asked.name.now c.args.form c.in_ok-find-in-Fold.field-0
    c.args.found.now.items c.push.new.self.items (search rules) c.in_ok-find-in-Fold.ensures c.in_ok-push-in-Fold.ensures.items
