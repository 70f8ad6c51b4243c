-- Claims, each with the end of its transaction.
use Rattle.std.proofs.Common.{◌≡◌, ℕ, ℤ, ◌+◌, ◌<◌, ◌≤◌, List, [], ◌∷◌, ◌++◌, length, take, get_or, refl, sym, ap, subst, ◌∙◌, append_assoc, Option}
use Rattle.std.proofs.lemmas.List.{take_all}
use Rattle.eos_base.specs.declared.partition_name.PartitionName.{PartitionName}
use Rattle.eos_base.specs.Members.{Has}
use Rattle.eos_sought.specs.declared.partition.Placed.{Placed}
use Rattle.eos_sought.specs.declared.wanted.Wanted.TheVariants.{Ending}
use Rattle.eos_sought.specs.declared.finding.Find.{Find}
use Rattle.eos_sought.specs.declared.sought.Sought.{Sought}
use Rattle.eos_sought.specs.Finds.{all_of}
use Rattle.eos_story.specs.Answers.{StandInOrder, IsRecordRow, IsDecided, IsEndingShown, IsEndShown, AreEndsShown}
use Rattle.eos_story.specs.declared.row.Row.{Row}
use Rattle.eos_story.specs.declared.row.Row.TheVariants as rows
use Rattle.eos_story.specs.declared.scene.Scene.{Scene}
use Rattle.eos_story.specs.Questions.{Claims}
use Rattle.eos_story.specs.steps.Claims.{IsClaimTold, AreClaimsTold}
use Rattle.eos_story.specs.steps.Telling.{Tells, TellsEach, IsRecordBehind, IsRestTold}
use Rattle.eos_story.proofs.RowsGrown.{has_grown, ends_grown, ends_more, in_order_more}
use Rattle.eos_story.proofs.RowsTold.{told_both, told_as, first_shown, one_more, grown_twice}

pub ending_told : {scene : Scene} {a b c : List Row} (name : PartitionName) (producer : ℤ) (offset : ℕ) (marker : Option Placed) → Tells scene a b (λ told. Has told (rows.First name (Ending producer offset) marker)) → Tells scene b c (IsDecided scene.logs.now producer marker)
    → Tells scene a c (IsEndingShown scene.logs.now name producer offset)
ending_told {scene} {a} {b} {c} name producer offset marker h k =
    told_as (IsEndingShown scene.logs.now name producer offset) (λ t. (marker, t.0, t.1)) (told_both (λ told added is. has_grown told added _ is) h k)

behind_grown : (sought : Sought) (find : Find) (before told added : List Row) → IsRecordBehind sought find before told → IsRecordBehind sought find before (told ++ added)
behind_grown sought find before told added h = (h.0, h.1 ++ added, ap (λ (ts : List Row). ts ++ added) h.2 ∙ append_assoc before (rows.Record sought find h.0 ∷ h.1) added)

pub claim_told : {scene : Scene} {a b c : List Row} (sought : Sought) (find : Find) → Tells scene a b (IsRecordBehind sought find a) → Tells scene b c (IsEndShown scene.logs.now find.partition find.item.offset find.item.writer)
    → Tells scene a c (IsClaimTold scene.logs.now sought find a)
claim_told {scene} {a} {b} {c} sought find h k =
    told_as (IsClaimTold scene.logs.now sought find a) (λ t. (t.0, t.1)) (told_both (behind_grown sought find a) h k)

pub claims_more : {scene : Scene} {a b c : List Row} (sought : Sought) (finds : List Find) (i : ℕ) (find : Find) → Tells scene a b (AreClaimsTold scene.logs.now sought (take i finds)) → Tells scene b c (IsClaimTold scene.logs.now sought find b) → i < length finds → find ≡ get_or finds i find
    → Tells scene a c (AreClaimsTold scene.logs.now sought (take (i + 1) finds))
claims_more {scene} {a} {b} {c} sought finds i find h k lt is =
    let logs = scene.logs.now in
    let xs : List Find = take i finds in
    let behind : IsRecordBehind sought find b c = k.told.0 in
    let order : StandInOrder (IsRecordRow sought) (xs ++ find ∷ []) c = subst (StandInOrder (IsRecordRow sought) (xs ++ find ∷ [])) (sym behind.2) (in_order_more (IsRecordRow sought) xs find b _ behind.1 h.told.0 (behind.0, refl)) in
    let ends : AreEndsShown logs (xs ++ find ∷ []) c = ends_more logs xs find c (subst (AreEndsShown logs xs) (sym k.grown) (ends_grown logs xs b k.added h.told.1)) k.told.1 in
    record {
      added = h.added ++ k.added;
      grown = grown_twice a b c h.added k.added h.grown k.grown;
      are = λ old. k.are (h.are old);
      told = subst (λ (fs : List Find). AreClaimsTold logs sought fs c) (sym (one_more finds i find lt is)) (order, ends);
    }

pub claims_whole : {scene : Scene} {a b : List Row} (sought : Sought) (finds : List Find) (i : ℕ) → Tells scene a b (AreClaimsTold scene.logs.now sought (take i finds)) → length finds ≤ i → Tells scene a b (AreClaimsTold scene.logs.now sought finds)
claims_whole {scene} {a} {b} sought finds i h le = told_as (AreClaimsTold scene.logs.now sought finds) (λ told. subst (λ (fs : List Find). AreClaimsTold scene.logs.now sought fs b) (take_all i finds le) told) h

pub claims_told : {scene : Scene} {a b c : List Row} (sought : Sought) (most count : ℕ) (shown : List Find) → count ≡ length (all_of sought scene.logs.now) → Tells scene a b (AreClaimsTold scene.logs.now sought shown) → Tells scene b c (IsRestTold sought most count)
    → shown ≡ take most (all_of sought scene.logs.now) → TellsEach scene a c (Claims sought most ∷ [])
claims_told {scene} {a} {b} {c} sought most count shown number h k first =
    let logs = scene.logs.now in
    let told = first_shown sought most count shown (all_of sought logs) refl number (told_as (StandInOrder (IsRecordRow sought) shown) (λ t. t.0) h) k first in
    let ends : AreEndsShown logs shown c = subst (AreEndsShown logs shown) (sym k.grown) (ends_grown logs shown b k.added h.told.1) in
    record { added = told.added; grown = told.grown; are = told.are; answers = λ ps seen. ((told.told, subst (λ (fs : List Find). AreEndsShown logs fs c) first ends), tt) }
