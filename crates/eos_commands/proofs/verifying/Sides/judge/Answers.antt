use Rattle.std.proofs.Common.{rules}
use Rattle.eos_commands.proofs.Likenesses.{is_right, is_forged, is_stale}
use Rattle.eos_commands.proofs.verifying.Sides.judge.Goals as goal

pub returns-then-is_whole : goal.returns-then-is_whole
returns-then-is_whole g c =
    let self = c.args.self.now in
    is_right (g.D.Disk.holds self.disk.now) self.topics.now c.args.asked.wanted c.args.asked.name.now c.args.logs.now c.args.text.now c.in_ok-made.made.text.items c.in_ok-made.ensures (search rules)

pub returns-then-is_front : goal.returns-then-is_front
returns-then-is_front g c =
    let self = c.args.self.now in
    is_stale (g.D.Disk.holds self.disk.now) self.topics.now c.args.asked.wanted c.args.asked.name.now c.args.logs.now c.args.text.now c.in_ok-made.made.text.items c.in_ok-front-in-Some.front.items
    c.in_ok-made.ensures (search rules) c.in_ok-front-in-Some.ensures (search rules)

pub returns-else-is_front : goal.returns-else-is_front
returns-else-is_front g c =
    let self = c.args.self.now in
    is_forged (g.D.Disk.holds self.disk.now) self.topics.now c.args.asked.wanted c.args.asked.name.now c.args.logs.now c.args.text.now c.in_ok-made.made.text.items c.in_ok-made.ensures (search rules)

pub returns-in_default : goal.returns-in_default
returns-in_default g c =
    let self = c.args.self.now in
    is_forged (g.D.Disk.holds self.disk.now) self.topics.now c.args.asked.wanted c.args.asked.name.now c.args.logs.now c.args.text.now c.in_ok-made.made.text.items c.in_ok-made.ensures (search rules)
