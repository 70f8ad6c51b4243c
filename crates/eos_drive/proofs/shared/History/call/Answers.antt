use Rattle.std.proofs.Common.{◌∙◌, sym, subst}
use Rattle.eos_drive.specs.Replay.{IsReplay}
use Rattle.eos_drive.proofs.Replaying.{replay_answered, counted_one}
use Rattle.eos_drive.proofs.shared.History.call.Goals as goal

pub invariant_of-self : goal.invariant_of-self
invariant_of-self g c =
    let before = c.self.invariant in let told = c.answer-called.ensures in (
      told.honest,
      subst (IsReplay c.answer-called.new.cluster.config c.answer-called.new.cluster.world) (sym told.entries) (replay_answered c.self.inside.cluster c.answer-called.new.cluster c.self.inside.entries.items c.pass.inside.number c.args.event c.answer-called.result.reply before.1 told.step told.counted),
      counted_one c.self.inside.entries.items c.answer-called.new.entries.items c.pass.inside.number c.args.event c.answer-called.result.reply c.self.inside.book.total c.add.new.self.total (sym c.is_taken.ensures ∙ c.if-is_taken.true) told.entries before.2 c.add.ensures.total,
      before.3,
      before.4,
    )
