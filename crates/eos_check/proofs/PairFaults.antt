-- No fault of a pair of touches stands in a list of batches exactly where all pairs of touches keep the rules.
use Rattle.std.proofs.Common.{◌≡◌, ◌≤◌, Bool, true, false, Option, Some, None, List, [], ◌∷◌, ◌++◌, length, refl, sym, ap, subst, ◌∙◌, ℤ, append_assoc}
use Rattle.std.specs.Prelude.{if◌then◌else◌, ⊤}
use Rattle.std.specs.Option.{option_or}
use Rattle.std.specs.Ordering.{int_eq}
use Rattle.std.specs.List.{All}
use Rattle.std.proofs.lemmas.Bool.Decides.{Decides-int_eq}
use Rattle.std.proofs.lemmas.List.Elements.{All-nil, All-append}
use Rattle.eos_batch.specs.declared.batch.Batch.{Batch}
use Rattle.eos_touch.specs.declared.touch.Touch.{Touch}
use Rattle.eos_touch.specs.declared.pair.PairFault.{PairFault}
use Rattle.eos_touch.specs.declared.pair.PairFault.TheVariants.{FirstSequence, Sequence, ZombieEpoch, EpochWhileOpen, NoBump, MixedProducer, MarkerKind}
use Rattle.eos_touch.specs.Pair.{stands}
use Rattle.eos_touch.specs.Rules.{Fenced}
use Rattle.eos_touch.specs.Neighbours.{HasRecords, EachAfter, Accepts, IsSequencedIf}
use Rattle.eos_touch.proofs.TableRows.{IsClean, is_clean, is_accepted}
use Rattle.eos_touch.proofs.NeighboursLaw.{law}
use Rattle.eos_touch.specs.Touches.{touch_of}
use Rattle.eos_touch.specs.Touches.{touch_in, touches_of, last_of, last_touch}
use Rattle.eos_touch.proofs.TouchLists.{touch_has_records}
use Rattle.eos_touch.proofs.TouchLists.{last_touch-push_none, last_touch-push, touches_of-append}

-- no touch may not follow the one of its id before it; these batches were before
abbrev pub NoPairAfter : Bool → List Batch → List Batch → Type 0
NoPairAfter sequenced before batches = (inner : List Batch) (b : Batch) (after : List Batch) (producer : ℤ) (next : Touch) (fault : PairFault)
    → batches ≡ inner ++ b ∷ after → touch_of b ≡ Some (producer, next) → stands sequenced (last_touch producer (before ++ inner)) next fault ≡ true → ⊥

abbrev pub EachHasRecords : List Batch → Type 0
EachHasRecords [] = ⊤
EachHasRecords (b ∷ bs) = (1 ≤ length b.records) × EachHasRecords bs

pub touches_have_records : (id : ℤ) (bs : List Batch) → EachHasRecords bs → All HasRecords (touches_of id bs)
touches_have_records id [] h = All-nil HasRecords
touches_have_records id (b ∷ bs) h = All-append HasRecords (touch_in id (touch_of b)) (touches_of id bs) (touch_has_records id b h.0) (touches_have_records id bs h.1)

-- ---- one touch

not_true : (b : Bool) → (b ≡ true → ⊥) → b ≡ false
not_true true h = absurd (h refl)
not_true false h = refl

pub accepted : (s : Bool) (p : Option Touch) (n : Touch) → ((fault : PairFault) → stands s p n fault ≡ true → ⊥) → Accepts s p n
accepted s p n h = is_accepted s p n (record {
  order = record { first = not_true _ (h FirstSequence); next_one = not_true _ (h Sequence); zombie = not_true _ (h ZombieEpoch); bump = not_true _ (h NoBump) };
  never_open = not_true _ (h EpochWhileOpen);
  mixed = not_true _ (h MixedProducer);
  kind = not_true _ (h MarkerKind);
})

not_both : (b : Bool) → b ≡ false → b ≡ true → ⊥
not_both true f t = absurd cc
not_both false f t = absurd cc

pub none_stands : (s : Bool) (p : Option Touch) (n : Touch) → Accepts s p n → (fault : PairFault) → stands s p n fault ≡ true → ⊥
none_stands s p n e = by_kind (is_clean s p n e)
  where
    by_kind : IsClean s p n → (fault : PairFault) → stands s p n fault ≡ true → ⊥
    by_kind c FirstSequence t = not_both _ c.order.first t
    by_kind c Sequence t = not_both _ c.order.next_one t
    by_kind c ZombieEpoch t = not_both _ c.order.zombie t
    by_kind c EpochWhileOpen t = not_both _ c.never_open t
    by_kind c NoBump t = not_both _ c.order.bump t
    by_kind c MixedProducer t = not_both _ c.mixed t
    by_kind c MarkerKind t = not_both _ c.kind t

-- ---- each touch after its neighbour

after_one : (s : Bool) (id : ℤ) (before : List Batch) (b : Batch) (others : List Touch)
    → ((producer : ℤ) (next : Touch) → touch_of b ≡ Some (producer, next) → Accepts s (last_touch producer before) next)
    → EachAfter (Accepts s) (last_touch id (before ++ b ∷ [])) others → EachAfter (Accepts s) (last_touch id before) (touch_in id (touch_of b) ++ others)
after_one s id before b others m h = by_touch (touch_of b) refl
  where
    by_test : (p : ℤ) (t : Touch) → touch_of b ≡ Some (p, t) → (test : Bool) → int_eq p id ≡ test → EachAfter (Accepts s) (last_touch id before) ((if test then t ∷ [] else []) ++ others)
    by_test p t e true q =
        let last : last_touch id (before ++ b ∷ []) ≡ Some t = last_touch-push id before b p t e ∙ ap (λ (x : Bool). if x then Some t else last_touch id before) q in (
          subst (λ (i : ℤ). Accepts s (last_touch i before) t) ((Decides-int_eq p id).0 q) (m p t e),
          subst (λ (l : Option Touch). EachAfter (Accepts s) l others) last h,
        )
    by_test p t e false q =
        let last : last_touch id (before ++ b ∷ []) ≡ last_touch id before = last_touch-push id before b p t e ∙ ap (λ (x : Bool). if x then Some t else last_touch id before) q in
        subst (λ (l : Option Touch). EachAfter (Accepts s) l others) last h

    by_touch : (o : Option (ℤ × Touch)) → touch_of b ≡ o → EachAfter (Accepts s) (last_touch id before) (touch_in id o ++ others)
    by_touch None e = subst (λ (l : Option Touch). EachAfter (Accepts s) l others) (last_touch-push_none id before b e) h
    by_touch (Some x) e = by_test x.0 x.1 e (int_eq x.0 id) refl

no_pair_tail : (s : Bool) (before : List Batch) (b : Batch) (bs : List Batch) → NoPairAfter s before (b ∷ bs) → NoPairAfter s (before ++ b ∷ []) bs
no_pair_tail s before b bs h inner c after producer next fault e t st =
    h (b ∷ inner) c after producer next fault (ap (λ (xs : List Batch). b ∷ xs) e) t
    (subst (λ (l : List Batch). stands s (last_touch producer l) next fault ≡ true) (append_assoc before (b ∷ []) inner) st)

append-nil : {X : Type 0} (xs : List X) → xs ++ [] ≡ xs
append-nil [] = refl
append-nil (x ∷ xs) = ap (λ ys. x ∷ ys) (append-nil xs)

pub each_after : (s : Bool) (id : ℤ) (before bs : List Batch) → NoPairAfter s before bs → EachAfter (Accepts s) (last_touch id before) (touches_of id bs)
each_after s id before [] h = tt
each_after s id before (b ∷ bs) h =
    after_one s id before b (touches_of id bs)
    (λ producer next e. accepted s (last_touch producer before) next (λ fault st.
    h [] b bs producer next fault refl e (subst (λ (l : List Batch). stands s (last_touch producer l) next fault ≡ true) (sym (append-nil before)) st)))
    (each_after s id (before ++ b ∷ []) bs (no_pair_tail s before b bs h))

pub rules_kept : (s : Bool) (bs : List Batch) → EachHasRecords bs → NoPairAfter s [] bs → (id : ℤ) → IsSequencedIf s (touches_of id bs) × Fenced (touches_of id bs)
rules_kept s bs some h id = (law s (touches_of id bs) (touches_have_records id bs some)).0 (each_after s id [] bs h)

-- ---- and back

or_or : (a : Option Touch) (x : Touch) (o : Option Touch) → option_or (option_or a (Some x)) o ≡ option_or a (Some x)
or_or None x o = refl
or_or (Some a) x o = refl

pub at_split : (R : Option Touch → Touch → Type 0) (o : Option Touch) (xs : List Touch) (t : Touch) (ys : List Touch) → EachAfter R o (xs ++ t ∷ ys) → R (option_or (last_of xs) o) t
at_split R o [] t ys h = h.0
at_split R o (x ∷ xs) t ys h = subst (λ (l : Option Touch). R l t) (sym (or_or (last_of xs) x o)) (at_split R (Some x) xs t ys h.1)

-- what comes behind a touch comes after it
pub after_split : (R : Option Touch → Touch → Type 0) (o : Option Touch) (xs : List Touch) (t : Touch) (ys : List Touch) → EachAfter R o (xs ++ t ∷ ys) → EachAfter R (Some t) ys
after_split R o [] t ys h = h.1
after_split R o (x ∷ xs) t ys h = after_split R (Some x) xs t ys h.1

or_some_some : (o : Option Touch) (t x : Touch) → option_or (option_or o (Some t)) (Some x) ≡ option_or o (Some t)
or_some_some None t x = refl
or_some_some (Some u) t x = refl

-- the last touch is behind
pub last_behind : (xs : List Touch) (t : Touch) (ys : List Touch) → last_of (xs ++ t ∷ ys) ≡ last_of (t ∷ ys)
last_behind [] t ys = refl
last_behind (x ∷ xs) t ys = ap (λ (o : Option Touch). option_or o (Some x)) (last_behind xs t ys) ∙ or_some_some (last_of ys) t x

or_none : (a : Option Touch) → option_or a None ≡ a
or_none None = refl
or_none (Some x) = refl

-- the touches of an id, cut at one of them
pub touches_cut : (before : List Batch) (b : Batch) (after : List Batch) (p : ℤ) (t : Touch) → touch_of b ≡ Some (p, t)
    → touches_of p (before ++ b ∷ after) ≡ touches_of p before ++ (t ∷ touches_of p after)
touches_cut before b after p t e =
    touches_of-append p before (b ∷ after) ∙ ap (λ (xs : List Touch). touches_of p before ++ (xs ++ touches_of p after)) (ap (touch_in p) e ∙ own)
  where
    own : touch_in p (Some (p, t)) ≡ t ∷ []
    own = ap (λ (x : Bool). if x then t ∷ [] else []) ((Decides-int_eq p p).1 refl)

pub no_pair : (s : Bool) (bs : List Batch) → EachHasRecords bs → ((id : ℤ) → IsSequencedIf s (touches_of id bs) × Fenced (touches_of id bs)) → NoPairAfter s [] bs
no_pair s bs some h inner b after producer next fault e t st =
    let each : EachAfter (Accepts s) None (touches_of producer bs) = (law s (touches_of producer bs) (touches_have_records producer bs some)).1 (h producer) in
    let cut : touches_of producer bs ≡ touches_of producer inner ++ (next ∷ touches_of producer after) = ap (touches_of producer) e ∙ touches_cut inner b after producer next t in
    let here : Accepts s (option_or (last_touch producer inner) None) next = at_split (Accepts s) None (touches_of producer inner) next (touches_of producer after) (subst (EachAfter (Accepts s) None) cut each) in
    none_stands s (last_touch producer inner) next (subst (λ (l : Option Touch). Accepts s l next) (or_none (last_touch producer inner)) here) fault st
