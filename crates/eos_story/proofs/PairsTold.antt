-- What is told of a batch that may not follow another, and of a transaction that is open.
use Rattle.std.proofs.Common.{◌≡◌, ◌≢◌, ◌∙◌, true, ℕ, ℤ, ◌-◌, List, [], ◌∷◌, ◌++◌, length, refl, sym, ap, subst, Some, Option, slice_get}
use Rattle.eos_base.specs.declared.partition_name.PartitionName.{PartitionName}
use Rattle.std.proofs.lemmas.Bool.{ne_eqb}
use Rattle.eos_base.specs.Members.{Has}
use Rattle.eos_claims.specs.declared.place.Place.{Place}
use Rattle.eos_fold.specs.Parts.{PartLog}
use Rattle.eos_sought.specs.declared.partition.Placed.{Placed}
use Rattle.eos_sought.specs.declared.wanted.Wanted.TheVariants.{Of, Ending, Open}
use Rattle.eos_sought.specs.Partitions.{AreBatchesOf}
use Rattle.eos_sought.specs.declared.sought.Sought.{Sought}
use Rattle.eos_sought.specs.declared.sought.Sought.TheVariants.{OfProducer, Passed}
use Rattle.eos_sought.specs.Finds.{all_of}
use Rattle.eos_story.specs.Listings.{epoch_after}
use Rattle.eos_story.specs.Answers.{count_below, AnswersEach}
use Rattle.eos_story.specs.declared.row.Row.{Row}
use Rattle.eos_story.specs.declared.row.Row.TheVariants as rows
use Rattle.eos_story.specs.declared.scene.Scene.{Scene}
use Rattle.eos_story.specs.Questions.{Records, Latest, listing, markers_of, ending_epoch, ending, of_pair, of_open, others_past}
use Rattle.eos_story.specs.steps.Seen.{OfAllSeen}
use Rattle.eos_story.specs.steps.Telling.{Tells, TellsEach}
use Rattle.eos_story.specs.Wholeness.{IsPairTold, IsOpenTold, last_end}
use Rattle.eos_story.proofs.RowsGrown.{has_grown}
use Rattle.eos_story.proofs.RowsTold.{each_told, each_as, then, grown_twice}

pub pair_told : {scene : Scene} {a b : List Row} (name : PartitionName) (producer : ℤ) (offset : ℕ) (found : List Placed) (before : Option Placed) → OfAllSeen scene (λ ps. AreBatchesOf ps name (Of producer) found) → before ≡ slice_get found (count_below offset found - 1)
    → TellsEach scene a b (of_pair scene.logs.now name producer offset before) → Tells scene a b (λ told. OfAllSeen scene (λ ps. IsPairTold ps scene.logs.now name producer offset told))
pair_told {scene} {a} {b} name producer offset found before are e h =
    let logs = scene.logs.now in
    each_told (λ rows. OfAllSeen scene (λ ps. IsPairTold ps logs name producer offset rows)) (λ told ps seen. record {
      found = found;
      are = are ps seen;
      answers = subst (λ (p : Option Placed). AnswersEach ps logs b (of_pair logs name producer offset p)) e (told ps seen);
    }) h

pub open_told : {scene : Scene} {a b c : List Row} {from : ℕ} (name : PartitionName) (producer : ℤ) (markers : List Placed) (first : Option Placed) → OfAllSeen scene (λ ps. AreBatchesOf ps name (Ending producer 0) markers) → from ≡ last_end markers
    → Tells scene a b (λ told. Has told (rows.First name (Open producer from) first)) → TellsEach scene b c (of_open scene.logs.now producer first) → Tells scene a c (λ told. OfAllSeen scene (λ ps. IsOpenTold ps scene.logs.now name producer told))
open_told {scene} {a} {b} {c} {from} name producer markers first are e h k = record {
  added = h.added ++ k.added;
  grown = grown_twice a b c h.added k.added h.grown k.grown;
  are = λ old. k.are (h.are old);
  told = λ ps seen. record {
    markers = markers;
    are = are ps seen;
    first = first;
    shown = subst (λ n. Has c (rows.First name (Open producer n) first)) e (subst (λ (told : List Row). Has told (rows.First name (Open producer from) first)) (sym k.grown) (has_grown b k.added _ h.told));
    answers = k.answers ps seen;
  };
}

pub ending_told : {scene : Scene} {a b : List Row} (producer epoch : ℤ) (batch : Option Placed) (p : Placed) → batch ≡ Some p → p.standing.head.is_transactional ≡ true → epoch ≡ ending_epoch p.standing.head → TellsEach scene a b (listing scene.logs.now producer epoch)
    → TellsEach scene a b (ending scene.logs.now producer batch)
ending_told {scene} {a} {b} producer epoch batch p is goes_on e h =
    let logs = scene.logs.now in
    let some : ending logs producer (Some p) ≡ listing logs producer (ending_epoch p.standing.head) = rw goes_on refl in
    each_as (ending logs producer batch) (ap (listing logs producer) e ∙ sym (ap (ending logs producer) is ∙ some)) h

pub open_some : {scene : Scene} {a b c : List Row} (producer epoch : ℤ) (first : Option Placed) (p : Placed) → first ≡ Some p → epoch ≡ epoch_after p.standing.head.epoch → TellsEach scene a b (markers_of scene.logs.now producer epoch) → TellsEach scene b c (Latest (OfProducer producer) 4 ∷ [])
    → TellsEach scene a c (of_open scene.logs.now producer first)
open_some {scene} {a} {b} {c} producer epoch first p is e h k =
    let logs = scene.logs.now in
    each_as (of_open logs producer first) (sym (ap (of_open logs producer) is)) (then (each_as (markers_of logs producer (epoch_after p.standing.head.epoch)) (ap (markers_of logs producer) e) h) k)

pub none_past : (logs : List PartLog) (passing : Sought) (place : Place) (n : ℕ) → n ≡ length (all_of passing logs) → n ≢ 0 → others_past logs passing place ≡ []
none_past logs passing place n e ne = rw (ne_eqb (length (all_of passing logs)) 0 (λ z. ne (e ∙ z))) refl

pub some_past : (logs : List PartLog) (passing : Sought) (place : Place) (n : ℕ) → n ≡ length (all_of passing logs) → n ≡ 0 → others_past logs passing place ≡ Records (Passed place) 3 ∷ []
some_past logs passing place n e z = rw (sym e ∙ z) refl
