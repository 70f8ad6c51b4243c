use Rattle.std.proofs.Common.{refl, None}
use Rattle.std.proofs.lemmas.Result.{IfOk-weaker}
use Rattle.eos_reading.specs.declared.wanted.Wanted.TheVariants.{Presence}
use Rattle.eos_reading.specs.Records.{record_of}
use Rattle.eos_kept.proofs.HeldRecords.{each_map, presence_says}
use Rattle.eos_kept.proofs.PartsMade.{sized_of, presence_read}
use Rattle.eos_kept.proofs.part.Part.of_presence.Goals as goal

pub made-requires-clause-each : goal.made-requires-clause-each
made-requires-clause-each c = each_map (λ one. record_of None None None) _ _ _ refl c.apart-front.ensures.each

pub made-requires-clause-said : goal.made-requires-clause-said
made-requires-clause-said c = presence_says _

pub returns : goal.returns
returns c = IfOk-weaker c.made.result _ _ (λ made so. λ segments kept of. so Presence segments (presence_read segments c.args.run _ _ _ _ c.apart-front.ensures.parts refl kept) (sized_of (λ n r. tt) segments c.args.run _ _ _ c.apart-front.ensures.parts kept) of) c.made.ensures
