-- What is drawn of what a folder holds is the answer to the evidence that stands there.
use Rattle.std.proofs.Common.{◌≡◌, ℕ, Bool, List, Option, subst, string_bytes}
use Rattle.std.specs.Io.KnownBytes.{Appends}
use Rattle.eos_disk.specs.Entries.{Entry}
use Rattle.eos_disk.specs.Putting.{IsBegun, IsPlaced}
use Rattle.eos_evidence.specs.declared.partition.Partition.{Partition}
use Rattle.eos_evidence.specs.Evidence.{EvidenceParts}
use Rattle.eos_disk.specs.Shapes.{AreKnown}
use Rattle.eos_source.specs.Saying.{StandsAt}
use Rattle.eos_source.specs.Said.{Known}
use Rattle.eos_source_check.proofs.FoldersRead.{read_too, known_there}
use Rattle.eos_text.specs.Writing.{WritesFront}
use Rattle.eos_drawing.specs.declared.answer.Answer.TheVariants as answers
use Rattle.eos_drawing.specs.declared.answer.Drawn.{Drawn}
use Rattle.eos_drawing.specs.Drawings.{AreTooFew}
use Rattle.eos_drawing.specs.Folders.{is_later, HoldsOf, HoldsAt, IsDrawn, IsHalfDrawn}
use Rattle.eos_drawing.specs.steps.Answers.{IsAnswer}
use Rattle.eos_drawing.proofs.Placed.{placed_after}

-- where it is known what stands below the folder, it holds of the evidence that stands there
pub known_of : (holds : List ℕ → Entry) (folder : List ℕ) (later : Bool) (Holds : (ℕ → Known) → List Partition → EvidenceParts → Type 0) (e : EvidenceParts) → AreKnown holds folder
    → (at : StandsAt holds folder e) → HoldsOf holds folder later Holds → HoldsAt holds folder e at Holds
known_of holds folder later Holds e known at h = known_there holds folder later (λ k shape. Holds k shape.partitions) e known at h

so_too : (holds : List ℕ → Entry) (folder : List ℕ) (later : Bool) (Holds Follows : (ℕ → Known) → List Partition → EvidenceParts → Type 0)
    → ((known : ℕ → Known) (partitions : List Partition) (e : EvidenceParts) → Holds known partitions e → Follows known partitions e) → HoldsOf holds folder later Holds
    → HoldsOf holds folder later Follows
so_too holds folder later Holds Follows follows h =
    read_too holds folder later (λ known shape. Holds known shape.partitions) (λ known shape. Follows known shape.partitions) (λ known shape. follows known shape.partitions) h

-- ---- what is left and printed

pub few_of : (holds : List ℕ → Entry) (folder : List ℕ) (fault around : Option ℕ) (count : ℕ) → HoldsOf holds folder (is_later fault) (IsAnswer fault around (answers.TooFew count))
    → HoldsOf holds folder (is_later fault) (λ _ _ e. AreTooFew e fault count)
few_of holds folder fault around count h = so_too holds folder (is_later fault) (IsAnswer fault around (answers.TooFew count)) (λ _ _ e. AreTooFew e fault count) (λ _ _ e few. few) h

pub drawn_of : (holds : List ℕ → Entry) (folder : List ℕ) (fault around : Option ℕ) (drawn : Drawn) (path file text line : List ℕ) (old mid new : List ℕ → Entry)
    (before after : Option (List ℕ)) → file ≡ path → IsBegun old path mid → text ≡ string_bytes drawn.text → IsPlaced mid file text new → line ≡ string_bytes drawn.line → Appends before after line
    → HoldsOf holds folder (is_later fault) (IsAnswer fault around (answers.Drawn drawn)) → HoldsOf holds folder (is_later fault) (IsDrawn fault around path old new before after drawn.status)
drawn_of holds folder fault around drawn path file text line old mid new before after same begun texts placed lines printed h =
    so_too holds folder (is_later fault) (IsAnswer fault around (answers.Drawn drawn)) (IsDrawn fault around path old new before after drawn.status)
    (λ known partitions e is. record {
      line = string_bytes drawn.line;
      text = string_bytes drawn.text;
      is = is;
      placed = placed_after path file (string_bytes drawn.text) old mid new same begun (subst (λ (bytes : List ℕ). IsPlaced mid file bytes new) texts placed);
      printed = subst (Appends before after) lines printed;
    }) h

pub half_of : (holds : List ℕ → Entry) (folder : List ℕ) (fault around : Option ℕ) (drawn : Drawn) (path file text line : List ℕ) (old mid new : List ℕ → Entry)
    (before after : Option (List ℕ)) → file ≡ path → IsBegun old path mid → text ≡ string_bytes drawn.text → IsPlaced mid file text new → line ≡ string_bytes drawn.line → WritesFront before after line
    → HoldsOf holds folder (is_later fault) (IsAnswer fault around (answers.Drawn drawn)) → HoldsOf holds folder (is_later fault) (IsHalfDrawn fault around path old new before after)
half_of holds folder fault around drawn path file text line old mid new before after same begun texts placed lines printed h =
    so_too holds folder (is_later fault) (IsAnswer fault around (answers.Drawn drawn)) (IsHalfDrawn fault around path old new before after)
    (λ known partitions e is. record {
      status = drawn.status;
      line = string_bytes drawn.line;
      text = string_bytes drawn.text;
      is = is;
      placed = placed_after path file (string_bytes drawn.text) old mid new same begun (subst (λ (bytes : List ℕ). IsPlaced mid file bytes new) texts placed);
      printed = subst (WritesFront before after) lines printed;
    }) h
