use Rattle.std.proofs.Common.{subst}
use Rattle.eos_reading.specs.Outputs.{KeptOutput, claim_kept}
use Rattle.eos_reading.specs.Records.{ReadsBack}
use Rattle.eos_kept.specs.Records.{SaysClaim}
use Rattle.eos_kept.specs.KeptRuns.{HasClaims}
use Rattle.eos_kept.proofs.HeldRecords.{joined_all}
use Rattle.eos_kept.proofs.kept_run.KeptRun.join.Goals as goal

pub returns-in-Ok-join-clause-claims : goal.returns-in-Ok-join-clause-claims
returns-in-Ok-join-clause-claims c = λ topics h k.
    joined_all (λ (one : KeptOutput). ReadsBack (claim_kept topics one)) c.in-Claims.before.kept c.in-Claims-after.after.kept _ c.in-Ok-join.ensures.kept (subst (HasClaims topics) c.in-Claims.is h) (subst (HasClaims topics) c.in-Claims-after.is k)

pub returns-in-Ok-join-2-clause-claims : goal.returns-in-Ok-join-2-clause-claims
returns-in-Ok-join-2-clause-claims c = λ topics h k.
    joined_all SaysClaim c.in-Texts.before.kept c.in-Texts-after.after.kept _ c.in-Ok-join-2.ensures.kept (subst (HasClaims topics) c.in-Texts.is h) (subst (HasClaims topics) c.in-Texts-after.is k)
