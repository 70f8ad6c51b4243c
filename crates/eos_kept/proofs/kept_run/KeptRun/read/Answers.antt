use Rattle.std.proofs.Common.{[], ◌∷◌, refl, sym, pos, rules, w64}
use Rattle.std.proofs.lemmas.Int.{to_z-of_z}
use mir.Val.{SFits}
use Rattle.eos_evidence.specs.declared.segment.Segment.{Segment}
use Rattle.eos_kept.specs.declared.kept_run.KeptRun.TheVariants.{Claims, Texts}
use Rattle.eos_kept.proofs.PartsMade.{run_claims}
use Rattle.eos_kept.proofs.kept_run.KeptRun.read.Goals as goal

pub returns-in-Ok-keep_segment-clause-ok : goal.returns-in-Ok-keep_segment-clause-ok
returns-in-Ok-keep_segment-clause-ok g c =
    let e = c.in-Ok-keep_segment.ensures.ok in
    let fits : SFits w64 c.args.base = search rules in
    let back = to_z-of_z w64 c.args.base fits in
    (e.0, e.1, e.2, λ segment topic base bytes. e.3 segment topic (cc (base, back)) bytes)

pub returns-in-Ok-keep_segment-clause-claims : goal.returns-in-Ok-keep_segment-clause-claims
returns-in-Ok-keep_segment-clause-claims g c =
    let e = c.in-Ok-keep_segment.ensures.ok in
    let s : Segment = record { topic = c.args.topic.now; partition = pos 0; base = c.args.base; bytes = e.0 } in
    let fits : SFits w64 c.args.base = search rules in
    run_claims c.args.asked.topics.now (s ∷ []) (Claims c.in-Ok-keep_segment.kept) (e.3 s refl (sym (to_z-of_z w64 c.args.base fits)) refl)

pub returns-in-Ok-keep_segment-2-clause-claims : goal.returns-in-Ok-keep_segment-2-clause-claims
returns-in-Ok-keep_segment-2-clause-claims g c =
    let e = c.in-Ok-keep_segment-2.ensures.ok in
    let s : Segment = record { topic = c.args.topic.now; partition = pos 0; base = c.args.base; bytes = e.0 } in
    let fits : SFits w64 c.args.base = search rules in
    run_claims c.args.asked.topics.now (s ∷ []) (Texts c.in-Ok-keep_segment-2.kept) (e.3 s refl (sym (to_z-of_z w64 c.args.base fits)) refl)
