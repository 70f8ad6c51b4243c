-- What a folder lists, put in its partitions, is the shape that stands there.
use Rattle.std.proofs.Common.{◌≡◌, ℕ, List, Ok, sym, ap, ◌∙◌, subst}
use Rattle.std.specs.List.Sorted.{IsStrictlySortedBy}
use Rattle.eos_disk.specs.Entries.{Entry, HasBytes}
use Rattle.eos_evidence.specs.declared.partition.Partition.{Partition}
use Rattle.eos_evidence.specs.declared.segment.Segment.{Segment}
use Rattle.eos_evidence.specs.Ends.{end_cmp}
use Rattle.eos_evidence.specs.Evidence.{EvidenceParts, IsEvidence}
use Rattle.eos_evidence.specs.Manifest.{spec_said_by}
use Rattle.eos_evidence.specs.SpecFields.{SpecFields}
use Rattle.eos_disk.specs.declared.names.Form.{Form}
use Rattle.eos_disk.specs.Paths.{manifest_path}
use Rattle.eos_disk.specs.Shapes.{AreListed, IsShapeAt}
use Rattle.eos_disk.specs.steps.Listing.{AreNamed, partitions_with}
use Rattle.eos_disk.proofs.PartitionsGrown.{listed_by}

pub shape_stands : (holds : List ℕ → Entry) (folder text : List ℕ) (spec : SpecFields) (names : List Segment) (shape : EvidenceParts) (forms : List Form)
    → HasBytes (holds (manifest_path folder)) text → spec_said_by text ≡ Ok spec → shape.spec ≡ spec → shape.partitions ≡ partitions_with names spec.ends → IsEvidence shape
    → AreNamed holds folder spec.ends names forms → IsShapeAt holds folder shape forms
shape_stands holds folder text spec names shape forms stands says same partitions is named = record {
  manifest = text;
  stands = stands;
  says = says ∙ ap Ok (sym same);
  is_evidence = is;
  listed = subst (λ (ps : List Partition). AreListed holds folder ps forms) (sym partitions)
      (listed_by holds folder spec.ends names forms (subst (λ (s : SpecFields). IsStrictlySortedBy end_cmp s.ends) same is.accepted.ascending) named);
}
