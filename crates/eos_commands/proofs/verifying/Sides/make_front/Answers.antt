use Rattle.eos_commands.proofs.Likenesses.{of_front}
use Rattle.eos_commands.proofs.verifying.Sides.make_front.Goals as goal

pub returns-in-Ok : goal.returns-in-Ok
returns-in-Ok g c =
    let h = c.in-Ok.ensures.ok in
    of_front (g.D.Disk.holds c.args.self.now.disk.now) c.args.self.now.topics.now c.args.asked.wanted c.args.asked.name.now c.args.logs.now h.0 c.in-Ok.made.text.items c.args.bytes _ _
    c.in_ok-file.ensures.ok (rw (c.take-front.ensures.limit, c.take-front.ensures.inner) at h.1) c.in-Ok.ensures.end h.2
