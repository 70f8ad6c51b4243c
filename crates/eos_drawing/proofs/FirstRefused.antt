-- A refusal of a folder of which a picture is drawn is the first one.
use Rattle.std.proofs.Common.{◌≡◌, inl, inr, ℕ, Bool, List, length, Option, Result, Ok, Err, sym, subst}
use Rattle.std.specs.Prelude.{⊤}
use Rattle.eos_disk.specs.Entries.{Entry}
use Rattle.eos_disk.specs.Paths.{manifest_path}
use Rattle.eos_disk.specs.Refusals.{RefusesManifest}
use Rattle.eos_disk.specs.Shapes.{IsShapeAt}
use Rattle.eos_disk.specs.Stopped.{IsShapeTo}
use Rattle.eos_disk.specs.declared.folder.FolderFault.{FolderFault}
use Rattle.eos_disk.specs.declared.folder.FolderFault.TheVariants.{OutOfMemory}
use Rattle.eos_disk.specs.declared.names.Form.{Form}
use Rattle.eos_evidence.specs.declared.partition.Partition.{Partition}
use Rattle.eos_evidence.specs.Evidence.{EvidenceParts, segments_of}
use Rattle.eos_source.specs.FirstRefusals.{outcomes_of, pieces_of}
use Rattle.eos_source.specs.Refusals.{AreOpened, IsRefusal}
use Rattle.eos_source.specs.Said.{Known}
use Rattle.eos_source.proofs.FirstRefusals as first
use Rattle.eos_source_check.specs.Refusals.{IsUntold, IsRefusedAgain, IsRefusalFor}
use Rattle.eos_source_check.specs.declared.fault.Unlisted.{Unlisted}
use Rattle.eos_source_check.specs.declared.fault.Unlisted.TheVariants as unlisted
use Rattle.eos_source_check.specs.declared.judged.Judged.{Judged}
use Rattle.eos_source_check.proofs.FoldersRefused.{untold_of}
use Rattle.eos_source_check.proofs.RefusalsTold.{earned_untold}
use Rattle.eos_drawing.specs.Refused.{IsFirstOfDrawing}
use Rattle.eos_drawing.specs.steps.Undrawn.{IsAfter, IsUndrawn, IsUndrawnOf}

-- ---- of a source's pieces

pub unjudged : {F : Type 0} (outcomes : ℕ → Option F → Type 0) (IsMemory : F → Type 0) (pieces : ℕ) (later : Bool) (why : F) → IsRefusal outcomes IsMemory pieces why
    → IsUndrawn outcomes IsMemory pieces later (unlisted.Refused why)
unjudged outcomes IsMemory pieces later why h = inl (inl h)

pub after : {F : Type 0} (known : ℕ → Known) (outcomes : ℕ → Option F → Type 0) (IsMemory : F → Type 0) (shapes : List Partition) (judged : Judged) (later : Bool) (why : Unlisted F)
    → AreOpened outcomes (length (segments_of shapes)) → IsAfter known outcomes shapes judged later why → IsUndrawn outcomes IsMemory (length (segments_of shapes)) later why
after known outcomes IsMemory shapes judged later why opened (inl earned) =
    inl (subst (λ (l : Bool). IsUntold outcomes IsMemory (length (segments_of shapes)) l why) (sym earned.0)
    (earned_untold known outcomes IsMemory shapes judged.logs.faults.items why opened earned.1))
after known outcomes IsMemory shapes judged later why opened (inr again) = inr (opened, again)

-- ---- of a folder's pieces

again_of : (outcomes : ℕ → Option FolderFault → Type 0) (pieces : ℕ) (later : Bool) (why : Unlisted FolderFault) (fault : FolderFault) → AreOpened outcomes pieces → IsRefusedAgain outcomes pieces why
    → IsRefusalFor outcomes pieces why fault → IsUndrawnOf outcomes pieces later fault
again_of outcomes pieces later (unlisted.Refused why) fault opened again is = subst (IsUndrawnOf outcomes pieces later) (sym is) (inr (opened, again.0, again.1, again.2))
again_of outcomes pieces later (unlisted.Fold piece) fault opened again is = absurd again
again_of outcomes pieces later (unlisted.Changed piece) fault opened again is = absurd again
again_of outcomes pieces later unlisted.OutOfMemory fault opened again is = inl (inl (inr is))

pub undrawn_of : (outcomes : ℕ → Option FolderFault → Type 0) (pieces : ℕ) (later : Bool) (why : Unlisted FolderFault) (fault : FolderFault) → IsUndrawn outcomes (λ w. w ≡ OutOfMemory) pieces later why
    → IsRefusalFor outcomes pieces why fault → IsUndrawnOf outcomes pieces later fault
undrawn_of outcomes pieces later why fault (inl untold) is = inl (untold_of outcomes pieces later why fault untold is)
undrawn_of outcomes pieces later why fault (inr again) is = again_of outcomes pieces later why fault again.0 again.1 is

-- ---- of a folder

pub of_manifest : (holds : List ℕ → Entry) (folder : List ℕ) (later : Bool) (why : FolderFault) → RefusesManifest holds (manifest_path folder) why → IsFirstOfDrawing holds folder later why
of_manifest holds folder later why h = inl (first.of_manifest holds folder later why h)

pub of_piece : (holds : List ℕ → Entry) (folder : List ℕ) (later : Bool) (shape : EvidenceParts) (forms : List Form) (listed : Result ⊤ FolderFault) (why : FolderFault)
    → (listed ≡ Ok tt → IsShapeAt holds folder shape forms) → ((w : FolderFault) → listed ≡ Err w → IsShapeTo holds folder shape forms w)
    → IsUndrawnOf (outcomes_of holds folder shape forms) (pieces_of shape) later why → IsFirstOfDrawing holds folder later why
of_piece holds folder later shape forms listed why whole front (inl h) = inl (first.of_piece holds folder later shape forms listed why whole front h)
of_piece holds folder later shape forms listed why whole front (inr again) = inr (record {
  shape = shape;
  forms = forms;
  is = first.so_far holds folder shape forms listed whole front;
  opened = again.0;
  piece = again.1;
  there = again.2;
  refused = again.3;
})

pub of_listing : (holds : List ℕ → Entry) (folder : List ℕ) (later : Bool) (shape : EvidenceParts) (forms : List Form) (why : FolderFault) → IsShapeTo holds folder shape forms why
    → AreOpened (outcomes_of holds folder shape forms) (pieces_of shape) → IsFirstOfDrawing holds folder later why
of_listing holds folder later shape forms why is opened = inl (first.of_listing holds folder later shape forms why is opened)
