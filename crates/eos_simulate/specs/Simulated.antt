-- What `simulate` prints of the evidence that it wrote.
use Rattle.std.specs.Prelude.{ℕ, List, ◌++◌, length, codes}
use Rattle.std.specs.Fmt.{decimal}
use Rattle.eos_evidence.specs.Evidence.{EvidenceParts}

-- how many partitions it has
abbrev pub wrote_line : EvidenceParts → List ℕ
wrote_line e = (codes "wrote partitions=" ++ decimal (length e.partitions)) ++ codes "\n"
