-- The keys of the five headers of a claim.
use Rattle.std.specs.Prelude.{ℕ, List, codes}
use Rattle.eos_story.specs.declared.headers.HeaderName.{HeaderName}
use Rattle.eos_story.specs.declared.headers.HeaderName.TheVariants.{Topic, Partition, Offset, Output, Of}

abbrev pub key_of : HeaderName → List ℕ
key_of Topic = codes "eo.topic"
key_of Partition = codes "eo.partition"
key_of Offset = codes "eo.offset"
key_of Output = codes "eo.output"
key_of Of = codes "eo.of"
