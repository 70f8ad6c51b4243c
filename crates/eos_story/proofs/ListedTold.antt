-- The partitions that a record lists.
use Rattle.std.proofs.Common.{◌≡◌, ◌<◌, ℕ, zero, suc, ℤ, ◌-◌, List, [], ◌∷◌, length, sym, inl, inr, arith, refl, Some, None, Option, slice_get}
use Rattle.std.proofs.lemmas.Bool.{lt-leb}
use Rattle.eos_base.specs.Members.{Has}
use Rattle.eos_fold.specs.Parts.{PartLog}
use Rattle.eos_sought.specs.declared.finding.Find.{Find}
use Rattle.eos_sought.specs.declared.sought.Sought.{Sought}
use Rattle.eos_sought.specs.declared.sought.Sought.TheVariants.{Deciding, OfProducer}
use Rattle.eos_sought.specs.Finds.{all_of}
use Rattle.eos_story.specs.declared.row.Row.{Row}
use Rattle.eos_story.specs.declared.row.Row.TheVariants as rows
use Rattle.eos_story.specs.declared.scene.Scene.{Scene}
use Rattle.eos_story.specs.Listings.{listed_by}
use Rattle.eos_story.specs.Questions.{Listed, rest_listed, decision, lister, listed_open}
use Rattle.eos_story.specs.Rows.{AreListed}
use Rattle.eos_story.specs.steps.Seen.{AreTrue}
use Rattle.eos_story.specs.steps.Telling.{TellsEach, IsNext}
use Rattle.eos_story.proofs.RowsTold.{told_each, told_next, next_has, each_as}

has_at : {X : Type 0} (xs : List X) (i : ℕ) (x : X) → slice_get xs i ≡ Some x → Has xs x
has_at [] i x e = cc
has_at (y ∷ ys) zero x e = inl (cc)
has_at (y ∷ ys) (suc i) x e = inr (has_at ys i x e)

-- a record at some place of those that are sought
pub one_listed : (logs : List PartLog) (sought : Sought) (i all : ℕ) (find : Option Find) → find ≡ slice_get (all_of sought logs) i → all ≡ length (listed_by find) → 6 < all → AreListed logs sought all
one_listed logs sought i all None e n lt = absurd (omega (arith, n, lt))
one_listed logs sought i all (Some find) e n lt = record { find = find; has = has_at (all_of sought logs) i find (sym e); number = n }

-- the decision, or else the last state of the producer id
pub open_listed : (logs : List PartLog) (producer epoch : ℤ) (found : Option Find) (all : ℕ) → found ≡ decision producer epoch logs → all ≡ length (listed_open logs producer found) → 6 < all → AreListed logs (lister producer epoch found) all
open_listed logs producer epoch None all e n lt = one_listed logs (OfProducer producer) (length (all_of (OfProducer producer) logs) - 1) all (slice_get (all_of (OfProducer producer) logs) (length (all_of (OfProducer producer) logs) - 1)) refl n lt
open_listed logs producer epoch (Some find) all e n lt = one_listed logs (Deciding producer epoch) 0 all (Some find) e n lt

pub rest_more : {scene : Scene} {a b : List Row} (sought : Sought) (all : ℕ) → (AreTrue scene a → AreTrue scene b) → IsNext a (rows.MorePartitions 6 all sought) b → 6 < all → TellsEach scene a b (rest_listed sought all)
rest_more {scene} {a} {b} sought all are is lt =
    let some : rest_listed sought all ≡ Listed sought 6 all ∷ [] = rw (lt-leb all 6 lt) refl in
    let more : Row = rows.MorePartitions 6 all sought in
    each_as (rest_listed sought all) (sym some) (told_each (Listed sought 6 all ∷ []) (λ has ps seen. (has, tt)) (told_next more (λ told. Has told more) are is (next_has a b more is)))
