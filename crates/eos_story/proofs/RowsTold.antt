-- Rows that are put at the end, one after the other, and what they tell.
use Rattle.std.proofs.Common.{◌≡◌, ℕ, ◌+◌, ◌-◌, ◌<◌, ◌≤◌, List, [], ◌∷◌, ◌++◌, length, take, drop, refl, sym, ap, subst, ◌∙◌, append_assoc, arith, get_or}
use Rattle.std.proofs.lemmas.List.{append-nil, take_more, take_all}
use Rattle.eos_base.specs.Members.{Has}
use Rattle.eos_sought.specs.declared.finding.Find.{Find}
use Rattle.eos_sought.specs.declared.sought.Sought.{Sought}
use Rattle.eos_sought.specs.Finds.{all_of}
use Rattle.eos_story.specs.Answers.{StandInOrder, IsRecordRow, AreFirstShown, AnswersEach}
use Rattle.eos_story.specs.declared.row.Row.{Row}
use Rattle.eos_story.specs.declared.row.Row.TheVariants as rows
use Rattle.eos_story.specs.declared.scene.Scene.{Scene}
use Rattle.eos_story.specs.Questions.{Question, Latest}
use Rattle.eos_story.specs.steps.Seen.{AreTrue, AnswersOf}
use Rattle.eos_story.specs.steps.Telling.{Tells, TellsEach, IsNext, IsRecordBehind, IsRestTold}
use Rattle.eos_story.proofs.RowsGrown.{has_last, has_grown, in_order_grown, in_order_more, each_grown, each_of_both}

-- a row was put there
pub told_next : {scene : Scene} {before after : List Row} (row : Row) (P : List Row → Type 0) → (AreTrue scene before → AreTrue scene after) → IsNext before row after → P after → Tells scene before after P
told_next {scene} {before} {after} row P are is told = record { added = row ∷ []; grown = is; are = are; told = told }

-- it is there
pub next_has : (before after : List Row) (row : Row) → IsNext before row after → Has after row
next_has before after row is = subst (λ (ts : List Row). Has ts row) (sym is) (has_last before row)

-- nothing was
pub told_nothing : (scene : Scene) (rows : List Row) (P : List Row → Type 0) → P rows → Tells scene rows rows P
told_nothing scene rows P told = record { added = []; grown = sym (append-nil rows); are = λ is. is; told = told }

pub nothing : (scene : Scene) (rows : List Row) → TellsEach scene rows rows []
nothing scene rows = record { added = []; grown = sym (append-nil rows); are = λ is. is; answers = λ ps seen. tt }

-- the same rows, told otherwise
pub told_as : {scene : Scene} {a b : List Row} {P : List Row → Type 0} (Q : List Row → Type 0) → (P b → Q b) → Tells scene a b P → Tells scene a b Q
told_as {scene} {a} {b} {P} Q f h = record { added = h.added; grown = h.grown; are = h.are; told = f h.told }

pub told_each : {scene : Scene} {a b : List Row} {P : List Row → Type 0} (qs : List Question) → (P b → AnswersOf scene b qs) → Tells scene a b P → TellsEach scene a b qs
told_each {scene} {a} {b} {P} qs f h = record { added = h.added; grown = h.grown; are = h.are; answers = f h.told }

pub each_told : {scene : Scene} {a b : List Row} {qs : List Question} (P : List Row → Type 0) → (AnswersOf scene b qs → P b) → TellsEach scene a b qs → Tells scene a b P
each_told {scene} {a} {b} {qs} P f h = record { added = h.added; grown = h.grown; are = h.are; told = f h.answers }

pub grown_twice : (a b c x y : List Row) → b ≡ a ++ x → c ≡ b ++ y → c ≡ a ++ (x ++ y)
grown_twice a b c x y e h = h ∙ (ap (λ (ts : List Row). ts ++ y) e ∙ append_assoc a x y)

-- some rows, and then others
pub told_both : {scene : Scene} {a b c : List Row} {P Q : List Row → Type 0} → ((told added : List Row) → P told → P (told ++ added)) → Tells scene a b P → Tells scene b c Q → Tells scene a c (λ told. P told × Q told)
told_both {scene} {a} {b} {c} {P} {Q} grows h k = record {
  added = h.added ++ k.added;
  grown = grown_twice a b c h.added k.added h.grown k.grown;
  are = λ is. k.are (h.are is);
  told = (subst P (sym k.grown) (grows b k.added h.told), k.told);
}

pub then : {scene : Scene} {a b c : List Row} {qs rs : List Question} → TellsEach scene a b qs → TellsEach scene b c rs → TellsEach scene a c (qs ++ rs)
then {scene} {a} {b} {c} {qs} {rs} h k =
    let logs = scene.logs.now in
    record {
      added = h.added ++ k.added;
      grown = grown_twice a b c h.added k.added h.grown k.grown;
      are = λ is. k.are (h.are is);
      answers = λ ps seen. each_of_both ps logs c qs rs (subst (λ (told : List Row). AnswersEach ps logs told qs) (sym k.grown) (each_grown ps logs b k.added qs (h.answers ps seen))) (k.answers ps seen);
    }

-- ---- rows in order

pub one_more : {X : Type 0} (xs : List X) (i : ℕ) (x : X) → i < length xs → x ≡ get_or xs i x → take (i + 1) xs ≡ take i xs ++ x ∷ []
one_more {X} xs i x lt is = take_more xs i x lt ∙ ap (λ (y : X). take i xs ++ y ∷ []) (sym is)

-- a row more for the next of a list
pub order_more : {X : Type 0} {scene : Scene} {a b c : List Row} (R : X → Row → Type 0) (xs : List X) (x : X) (ys : List X) (row : Row) (after : List Row) → Tells scene a b (StandInOrder R xs) → (AreTrue scene b → AreTrue scene c) → c ≡ b ++ row ∷ after → R x row
    → ys ≡ xs ++ x ∷ [] → Tells scene a c (StandInOrder R ys)
order_more {X} {scene} {a} {b} {c} R xs x ys row after h are e is more = record {
  added = h.added ++ row ∷ after;
  grown = grown_twice a b c h.added (row ∷ after) h.grown e;
  are = λ old. are (h.are old);
  told = subst (λ (zs : List X). StandInOrder R zs c) (sym more) (subst (StandInOrder R (xs ++ x ∷ [])) (sym e) (in_order_more R xs x b row after h.told is));
}

-- ---- records

-- the rows of the first records that are sought, or of the last, and what is said of the rest
pub first_shown : {scene : Scene} {a b c : List Row} (sought : Sought) (most count : ℕ) (shown all : List Find) → all ≡ all_of sought scene.logs.now → count ≡ length all → Tells scene a b (StandInOrder (IsRecordRow sought) shown) → Tells scene b c (IsRestTold sought most count)
    → shown ≡ take most all → Tells scene a c (AreFirstShown scene.logs.now sought most)
first_shown {scene} {a} {b} {c} sought most count shown all is number h k first =
    let R = IsRecordRow sought in
    let kept : StandInOrder R shown c = subst (StandInOrder R shown) (sym k.grown) (in_order_grown R shown b k.added h.told) in
    let these : List Find = take most (all_of sought scene.logs.now) in
    let e : shown ≡ these = first ∙ ap (take most) is in
    let n : count ≡ length (all_of sought scene.logs.now) = number ∙ ap length is in
    record {
      added = h.added ++ k.added;
      grown = grown_twice a b c h.added k.added h.grown k.grown;
      are = λ old. k.are (h.are old);
      told = record {
        in_order = subst (λ (fs : List Find). StandInOrder R fs c) e kept;
        more = λ lt. subst (λ m. Has c (rows.MoreRecords most m sought)) n (k.told.more (subst (λ m. most < m) (sym n) lt));
        none = λ z. k.told.none (n ∙ z);
      };
    }

-- one row more of those that are sought
pub found_more : {scene : Scene} {a b c : List Row} (sought : Sought) (finds : List Find) (i : ℕ) (find : Find) → Tells scene a b (StandInOrder (IsRecordRow sought) (take i finds)) → Tells scene b c (IsRecordBehind sought find b) → i < length finds → find ≡ get_or finds i find
    → Tells scene a c (StandInOrder (IsRecordRow sought) (take (i + 1) finds))
found_more {scene} {a} {b} {c} sought finds i find h k lt is =
    order_more (IsRecordRow sought) (take i finds) find (take (i + 1) finds) (rows.Record sought find k.told.0) k.told.1 h k.are k.told.2 (k.told.0, refl) (one_more finds i find lt is)

-- all rows of a list
pub in_order_whole : {X : Type 0} {scene : Scene} {a b : List Row} (R : X → Row → Type 0) (xs : List X) (i : ℕ) → Tells scene a b (StandInOrder R (take i xs)) → length xs ≤ i → Tells scene a b (StandInOrder R xs)
in_order_whole {X} {scene} {a} {b} R xs i h le = told_as (StandInOrder R xs) (λ told. subst (λ (ys : List X). StandInOrder R ys b) (take_all i xs le) told) h

-- ---- how many there are

pub rest_none : {scene : Scene} {a b : List Row} (sought kept : Sought) (shown all : ℕ) → (AreTrue scene a → AreTrue scene b) → IsNext a (rows.NoRecord kept) b → kept ≡ sought → all ≡ 0 → Tells scene a b (IsRestTold sought shown all)
rest_none {scene} {a} {b} sought kept shown all are is same z =
    told_next (rows.NoRecord kept) (IsRestTold sought shown all) are is (record {
      more = λ lt. absurd (omega (arith, lt, z));
      none = λ e. subst (λ (s : Sought). Has b (rows.NoRecord s)) same (next_has a b (rows.NoRecord kept) is);
    })

pub rest_more : {scene : Scene} {a b : List Row} (sought kept : Sought) (shown all : ℕ) → (AreTrue scene a → AreTrue scene b) → IsNext a (rows.MoreRecords shown all kept) b → kept ≡ sought → shown < all → Tells scene a b (IsRestTold sought shown all)
rest_more {scene} {a} {b} sought kept shown all are is same lt =
    told_next (rows.MoreRecords shown all kept) (IsRestTold sought shown all) are is (record {
      more = λ l. subst (λ (s : Sought). Has b (rows.MoreRecords shown all s)) same (next_has a b (rows.MoreRecords shown all kept) is);
      none = λ e. absurd (omega (arith, lt, e));
    })

-- the last of them, behind how many there are
pub latest_told : {scene : Scene} {a b c : List Row} (sought : Sought) (most count : ℕ) (shown : List Find) → count ≡ length (all_of sought scene.logs.now) → Tells scene a b (IsRestTold sought most count) → Tells scene b c (StandInOrder (IsRecordRow sought) shown)
    → shown ≡ drop (length (all_of sought scene.logs.now) - most) (all_of sought scene.logs.now) → TellsEach scene a c (Latest sought most ∷ [])
latest_told {scene} {a} {b} {c} sought most count shown n h k last =
    let has : (row : Row) → Has b row → Has c row = λ row is. subst (λ (ts : List Row). Has ts row) (sym k.grown) (has_grown b k.added row is) in
    record {
      added = h.added ++ k.added;
      grown = grown_twice a b c h.added k.added h.grown k.grown;
      are = λ old. k.are (h.are old);
      answers = λ ps seen. (
        record {
          in_order = subst (λ (fs : List Find). StandInOrder (IsRecordRow sought) fs c) last k.told;
          more = λ lt. subst (λ m. Has c (rows.MoreRecords most m sought)) n (has _ (h.told.more (subst (λ m. most < m) (sym n) lt)));
          none = λ z. has _ (h.told.none (n ∙ z));
        },
        tt,
      );
    }

pub all_last : (xs slice first : List Find) (from most n : ℕ) → slice ≡ first → first ≡ take n xs → n ≡ length xs → from ≡ length slice - most → drop from slice ≡ drop (length xs - most) xs
all_last xs slice first from most n e f m h =
    let same : slice ≡ xs = e ∙ (f ∙ take_all n xs (omega (arith, m))) in
    ap (λ k. drop k slice) h ∙ ap (λ (ys : List Find). drop (length ys - most) ys) same

pub each_as : {scene : Scene} {a b : List Row} {qs : List Question} (rs : List Question) → qs ≡ rs → TellsEach scene a b qs → TellsEach scene a b rs
each_as {scene} {a} {b} {qs} rs e h = subst (TellsEach scene a b) e h
