use Rattle.std.proofs.Common.{refl}
use Rattle.std.proofs.lemmas.Result.{IfOk-weaker}
use Rattle.eos_reading.specs.declared.wanted.Wanted.TheVariants.{Texts}
use Rattle.eos_kept.proofs.HeldRecords.{texts_say}
use Rattle.eos_kept.proofs.PartsMade.{sized_of, texts_read}
use Rattle.eos_reading.specs.Records.{wanted_record}
use Rattle.eos_kept.proofs.part.Part.of_texts.Goals as goal

pub made-requires-clause-said : goal.made-requires-clause-said
made-requires-clause-said c = texts_say c.args.run _ _ _ c.apart-front.ensures.parts c.requires

pub returns : goal.returns
returns c = IfOk-weaker c.made.result _ _ (λ made so. λ segments kept of. so Texts segments (texts_read segments c.args.run _ _ _ _ c.apart-front.ensures.parts refl kept) (sized_of (λ n r. wanted_record Texts r) segments c.args.run _ _ _ c.apart-front.ensures.parts kept) of) c.made.ensures
