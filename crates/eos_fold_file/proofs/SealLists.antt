-- Going along seals: the checksums one after the other.
use Rattle.std.proofs.Common.{◌≡◌, ℕ, ◌+◌, ◌<◌, ◌≤◌, List, [], ◌++◌, length, get_or, take, flat_map, ap, ◌∙◌}
use Rattle.std.proofs.lemmas.List.{take_all}
use Rattle.eos_wire.specs.Crc.{crc32c_of}
use Rattle.eos_fold_file.proofs.Loop.{piece_more}
use Rattle.eos_reading.specs.declared.seals.Seal.{Seal}
use Rattle.eos_fold_file.specs.steps.Seals.{checksum_text}

pub fields_on : (fields next : List ℕ) (ss : List Seal) (i : ℕ) (d : Seal) → i < length ss → fields ≡ flat_map checksum_text (take i ss) → next ≡ fields ++ checksum_text (get_or ss i d)
    → next ≡ flat_map checksum_text (take (i + 1) ss)
fields_on fields next ss i d lt before pushed = piece_more checksum_text [] fields next ss i d lt before pushed

pub fields_done : (fields : List ℕ) (ss : List Seal) (i sum : ℕ) → length ss ≤ i → fields ≡ flat_map checksum_text (take i ss) → sum ≡ crc32c_of fields → sum ≡ crc32c_of (flat_map checksum_text ss)
fields_done fields ss i sum le before is = is ∙ ap crc32c_of (before ∙ ap (flat_map checksum_text) (take_all i ss le))
