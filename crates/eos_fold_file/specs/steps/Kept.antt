-- What a fold keeps, as reading its segment keeps it.
use Rattle.std.specs.Prelude.{ℕ, List, [], All, ⊤}
use Rattle.eos_batch.specs.declared.record.Record.{Record}
use Rattle.eos_reading.specs.Outputs.{claim_kept}
use Rattle.eos_reading.specs.Records.{record_of, ReadsBack}
use Rattle.eos_fold_file.specs.Records.{FoldText}
use Rattle.eos_fold_file.specs.declared.file.FoldKept.{FoldKept}
use Rattle.eos_fold_file.specs.declared.file.FoldKept.TheVariants.{Presence, Claims, Texts}

-- the topics that were asked for
abbrev pub topics_in : FoldKept → List (List ℕ)
topics_in Presence = []
topics_in (Claims topics outputs) = topics
topics_in (Texts texts) = []

abbrev pub text_record : FoldText → Record
text_record t = record_of t.key t.value t.claim

-- the claims can be read back from the headers that say them
abbrev pub AreReadBack : FoldKept → Type 0
AreReadBack Presence = ⊤
AreReadBack (Claims topics outputs) = All (λ one. ReadsBack (claim_kept topics one)) outputs
AreReadBack (Texts texts) = All (λ t. ReadsBack t.claim) texts
