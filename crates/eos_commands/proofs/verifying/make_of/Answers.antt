use Rattle.eos_commands.proofs.Likenesses.{text_is}
use Rattle.eos_commands.proofs.verifying.make_of.Goals as goal

pub returns-clause-ok : goal.returns-clause-ok
returns-clause-ok g c =
    let h = c.in_ok-fold.ensures.ok in (
      h.0,
      h.1,
      text_is c.args.topics.now c.args.asked.wanted c.args.asked.name.now h.0 c.in_ok-text.text.items c.in_ok-fold.fold h.3 c.in_ok-fold.ensures.asked c.in_ok-text.ensures.bytes,
    )
