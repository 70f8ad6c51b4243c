use Rattle.std.proofs.Common.{refl}
use Rattle.std.proofs.lemmas.Result.{IfOk-weaker}
use Rattle.eos_reading.specs.declared.wanted.Wanted.TheVariants.{Claims}
use Rattle.eos_kept.specs.Records.{output_record}
use Rattle.eos_kept.proofs.HeldRecords.{each_map, outputs_back, outputs_say}
use Rattle.eos_kept.proofs.PartsMade.{sized_of, outputs_read}
use Rattle.eos_claims.specs.Headers.{claim_of}
use Rattle.eos_reading.specs.Outputs.{kept_output}
use Rattle.eos_kept.proofs.part.Part.of_outputs.Goals as goal

pub made-requires-clause-each : goal.made-requires-clause-each
made-requires-clause-each c = each_map (output_record c.args.topics.items) _ _ _ refl c.apart-front.ensures.each

pub made-requires-clause-claims : goal.made-requires-clause-claims
made-requires-clause-claims c = outputs_back c.args.topics.items c.args.run _ _ _ c.apart-front.ensures.parts c.requires

pub made-requires-clause-said : goal.made-requires-clause-said
made-requires-clause-said c = outputs_say c.args.topics.items c.args.run _ _ _ c.apart-front.ensures.parts c.requires

pub returns : goal.returns
returns c = IfOk-weaker c.made.result _ _ (λ made so. λ segments kept of. so Claims segments (outputs_read c.args.topics.items segments c.args.run _ _ _ _ c.apart-front.ensures.parts refl kept) (sized_of (λ n r. kept_output c.args.topics.items (claim_of r.headers)) segments c.args.run _ _ _ c.apart-front.ensures.parts kept) of) c.made.ensures
