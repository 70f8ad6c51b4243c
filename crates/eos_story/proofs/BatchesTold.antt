-- Batches and segments of a partition.
use Rattle.std.proofs.Common.{◌≡◌, ℕ, ◌+◌, ◌-◌, ◌<◌, min, List, [], ◌∷◌, ◌++◌, length, take, drop, get_or, refl, sym, ap, subst, ◌∙◌, inl, inr, Option, zero, suc, map, arith, length-drop}
use Rattle.std.specs.List.{All}
use Rattle.std.proofs.lemmas.List.{map-append, take_min, take_all}
use Rattle.eos_base.specs.declared.partition_name.PartitionName.{PartitionName}
use Rattle.eos_base.specs.Members.{Has}
use Rattle.eos_batch.specs.declared.record.Header.{Header}
use Rattle.eos_sought.specs.declared.partition.Placed.{Placed}
use Rattle.eos_sought.specs.declared.wanted.Wanted.{Wanted}
use Rattle.eos_sought.specs.Partitions.{AreBatchesOf}
use Rattle.eos_claims.specs.declared.place.Place.{Place}
use Rattle.eos_story.specs.declared.headers.HeaderName.TheVariants.{Topic, Partition as Number, Offset, Output, Of as OfHeader}
use Rattle.eos_story.specs.Answers.{StandInOrder, IsBatchRow, around, IsHeaderRow, header_names}
use Rattle.eos_story.specs.declared.batches.Found.{Found}
use Rattle.eos_story.specs.declared.row.Row.{Row}
use Rattle.eos_story.specs.declared.row.Row.TheVariants as rows
use Rattle.eos_story.specs.declared.scene.Scene.{Scene}
use Rattle.eos_story.specs.Questions.{FirstBatch, Batches, Around}
use Rattle.eos_story.specs.steps.Batches.{AreMoreTold}
use Rattle.eos_story.specs.steps.Seen.{OfAllSeen, AreTrue}
use Rattle.eos_story.specs.steps.Telling.{Tells, TellsEach, IsNext}
use Rattle.eos_story.proofs.RowsGrown.{in_order_grown}
use Rattle.eos_story.proofs.RowsPushed.{has_taken, has_index}
use Rattle.eos_story.proofs.RowsTold.{told_nothing, told_next, next_has, order_more, grown_twice, told_each, one_more, then}

pub first_told : {scene : Scene} {a b : List Row} (name kept : PartitionName) (wanted : Wanted) (placed : Option Placed) → (AreTrue scene a → AreTrue scene b) → IsNext a (rows.First kept wanted placed) b → kept ≡ name
    → Tells scene a b (λ told. Has told (rows.First name wanted placed))
first_told {scene} {a} {b} name kept wanted placed are is same =
    told_next (rows.First kept wanted placed) (λ told. Has told (rows.First name wanted placed)) are is (subst (λ (n : PartitionName). Has b (rows.First n wanted placed)) same (next_has a b (rows.First kept wanted placed) is))

-- a row more, for the next of a list
pub next_more : {X : Type 0} {scene : Scene} {a b c : List Row} (row : Row) (R : X → Row → Type 0) (xs : List X) (i : ℕ) (x : X) → Tells scene a b (StandInOrder R (take i xs)) → Tells scene b c (IsNext b row) → R x row → take (i + 1) xs ≡ take i xs ++ x ∷ []
    → Tells scene a c (StandInOrder R (take (i + 1) xs))
next_more {X} {scene} {a} {b} {c} row R xs i x h k is e = order_more R (take i xs) x (take (i + 1) xs) row [] h k.are k.told is e

has_dropped : {X : Type 0} (n : ℕ) (xs : List X) (x : X) → Has (drop n xs) x → Has xs x
has_dropped zero xs x h = h
has_dropped (suc n) [] x h = absurd h
has_dropped (suc n) (y ∷ ys) x h = inr (has_dropped n ys x h)

has_all : {X : Type 0} (P : X → Type 0) (ys : List X) → All P ys → (x : X) → Has ys x → P x
has_all {X} P [] all x h = absurd h
has_all {X} P (y ∷ ys) all x (inl e) = subst P e (all 0 x (omega arith))
has_all {X} P (y ∷ ys) all x (inr h) = has_all P ys (λ i d lt. all (suc i) d (omega (arith, lt))) x h

pub all_dropped : {X : Type 0} (n : ℕ) (xs ys : List X) → All (Has xs) ys → All (Has xs) (drop n ys)
all_dropped {X} n xs ys all = λ i d lt. has_all (Has xs) ys all (get_or (drop n ys) i d) (has_dropped n ys (get_or (drop n ys) i d) (has_index (drop n ys) i d lt))

pub all_taken : {X : Type 0} (n : ℕ) (xs : List X) → All (Has xs) (take n xs)
all_taken n xs = λ i d lt. has_taken n xs _ (has_index (take n xs) i d lt)

pub around_told : {scene : Scene} {a b c : List Row} (name : PartitionName) (wanted : Wanted) (offset : ℕ) (found shown : List Placed) → OfAllSeen scene (λ ps. AreBatchesOf ps name wanted found) → Tells scene a b (StandInOrder (IsBatchRow name wanted) shown) → shown ≡ around offset found
    → Tells scene b c (λ told. length shown < length found → Has told (rows.MoreBatches name wanted (length shown) (length found))) → TellsEach scene a c (Around name wanted offset ∷ [])
around_told {scene} {a} {b} {c} name wanted offset found shown are h e k =
    let R = IsBatchRow name wanted in
    let kept : StandInOrder R shown c = subst (StandInOrder R shown) (sym k.grown) (in_order_grown R shown b k.added h.told) in
    record {
      added = h.added ++ k.added;
      grown = grown_twice a b c h.added k.added h.grown k.grown;
      are = λ old. k.are (h.are old);
      answers = λ ps seen. (
        record {
          found = found;
          are = are ps seen;
          in_order = subst (λ (ps : List Placed). StandInOrder R ps c) e kept;
          more = subst (λ (ps : List Placed). length ps < length found → Has c (rows.MoreBatches name wanted (length ps) (length found))) e k.told;
        },
        tt,
      );
    }

pub batches_told : {scene : Scene} {a b c : List Row} (name : PartitionName) (wanted : Wanted) (most : ℕ) (found shown : List Placed) → OfAllSeen scene (λ ps. AreBatchesOf ps name wanted found) → Tells scene a b (StandInOrder (IsBatchRow name wanted) shown) → shown ≡ take most found
    → Tells scene b c (λ told. most < length found → Has told (rows.MoreBatches name wanted most (length found))) → TellsEach scene a c (Batches name wanted most ∷ [])
batches_told {scene} {a} {b} {c} name wanted most found shown are h e k =
    let R = IsBatchRow name wanted in
    let kept : StandInOrder R shown c = subst (StandInOrder R shown) (sym k.grown) (in_order_grown R shown b k.added h.told) in
    record {
      added = h.added ++ k.added;
      grown = grown_twice a b c h.added k.added h.grown k.grown;
      are = λ old. k.are (h.are old);
      answers = λ ps seen. (record { found = found; are = are ps seen; in_order = subst (λ (shown : List Placed). StandInOrder R shown c) e kept; more = k.told }, tt);
    }

pub more_told : {scene : Scene} {a b : List Row} {all : ℕ} (found : Found) (most : ℕ) (kept : PartitionName) → (AreTrue scene a → AreTrue scene b) → IsNext a (rows.MoreBatches kept found.wanted most all) b → kept ≡ found.name.now → all ≡ length found.batches.now
    → Tells scene a b (AreMoreTold found most)
more_told {scene} {a} {b} {all} found most kept are is same e =
    let here : Has b (rows.MoreBatches found.name.now found.wanted most (length found.batches.now)) =
    subst (λ (n : PartitionName). Has b (rows.MoreBatches n found.wanted most (length found.batches.now))) same (subst (λ m. Has b (rows.MoreBatches kept found.wanted most m)) e (next_has a b (rows.MoreBatches kept found.wanted most all) is)) in
    told_next (rows.MoreBatches kept found.wanted most all) (AreMoreTold found most) are is (λ lt. here)

-- of each of these partitions the first batch that is wanted
pub first_more : {scene : Scene} {a b c : List Row} {placed : Option Placed} (wanted : Wanted) (names : List PartitionName) (i : ℕ) (name : PartitionName) → TellsEach scene a b (map (λ (n : PartitionName). FirstBatch n wanted) (take i names))
    → Tells scene b c (λ told. Has told (rows.First name wanted placed)) → i < length names → name ≡ get_or names i name → TellsEach scene a c (map (λ (n : PartitionName). FirstBatch n wanted) (take (i + 1) names))
first_more {scene} {a} {b} {c} {placed} wanted names i name h k lt is =
    let ask = λ (n : PartitionName). FirstBatch n wanted in
    let e : map ask (take (i + 1) names) ≡ map ask (take i names) ++ ask name ∷ [] = ap (map ask) (one_more names i name lt is) ∙ map-append ask (take i names) (name ∷ []) in
    subst (TellsEach scene a c) (sym e) (then h (told_each (ask name ∷ []) (λ has ps seen. ((placed, has), tt)) k))

-- ---- the end of a partition

pub has_as : {scene : Scene} {a b : List Row} (kept row : Row) → (AreTrue scene a → AreTrue scene b) → IsNext a kept b → kept ≡ row → Tells scene a b (λ told. Has told row)
has_as {scene} {a} {b} kept row are is e = told_next kept (λ told. Has told row) are is (subst (Has b) e (next_has a b kept is))

pub has_of_all : {X : Type 0} (xs ys : List X) (i : ℕ) (x : X) → All (Has xs) ys → i < length ys → x ≡ get_or ys i x → Has xs x
has_of_all xs ys i x all lt is = subst (Has xs) (sym is) (all i x lt)

pub around_slice : {X : Type 0} (xs : List X) (at before after to from : ℕ) → to ≡ min (at + after) (length xs) → from ≡ at - before → drop from (take to xs) ≡ drop (at - before) (take (at + after) xs)
around_slice {X} xs at before after to from t f = ap (λ n. drop n (take to xs)) f ∙ ap (drop (at - before)) (ap (λ n. take n xs) t ∙ take_min (at + after) xs)

pub all_from : {X : Type 0} (n : ℕ) (xs : List X) → take (length xs - n) (drop n xs) ≡ drop n xs
all_from {X} n xs = take_all (length xs - n) (drop n xs) (omega (arith, length-drop n xs))

pub all_around : {X : Type 0} (n m : ℕ) (xs shown : List X) → shown ≡ drop n (take m xs) → All (Has xs) shown
all_around {X} n m xs shown e = subst (All (Has xs)) (sym e) (all_dropped n xs (take m xs) (all_taken m xs))

-- the names of the headers, one after the other
pub headers_told : {scene : Scene} {a b c d e f : List Row} (r1 r2 r3 r4 r5 : Row) (place : Place) (headers : List Header) → Tells scene a b (IsNext a r1) → Tells scene b c (IsNext b r2) → Tells scene c d (IsNext c r3) → Tells scene d e (IsNext d r4) → Tells scene e f (IsNext e r5)
    → IsHeaderRow place headers Topic r1 → IsHeaderRow place headers Number r2 → IsHeaderRow place headers Offset r3 → IsHeaderRow place headers Output r4 → IsHeaderRow place headers OfHeader r5 → Tells scene a f (StandInOrder (IsHeaderRow place headers) header_names)
headers_told {scene} {a} {b} {c} {d} {e} {f} r1 r2 r3 r4 r5 place headers h1 h2 h3 h4 h5 i1 i2 i3 i4 i5 =
    let R = IsHeaderRow place headers in
    let s0 = told_nothing scene a (StandInOrder R []) tt in
    let s1 = order_more R [] Topic (Topic ∷ []) r1 [] s0 h1.are h1.told i1 refl in
    let s2 = order_more R (Topic ∷ []) Number (Topic ∷ (Number ∷ [])) r2 [] s1 h2.are h2.told i2 refl in
    let s3 = order_more R (Topic ∷ (Number ∷ [])) Offset (Topic ∷ (Number ∷ (Offset ∷ []))) r3 [] s2 h3.are h3.told i3 refl in
    let s4 = order_more R (Topic ∷ (Number ∷ (Offset ∷ []))) Output (Topic ∷ (Number ∷ (Offset ∷ (Output ∷ [])))) r4 [] s3 h4.are h4.told i4 refl in
    order_more R (Topic ∷ (Number ∷ (Offset ∷ (Output ∷ [])))) OfHeader header_names r5 [] s4 h5.are h5.told i5 refl
