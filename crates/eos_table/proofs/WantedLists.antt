-- Lists of closes, one for each part, to which wishes are added.
use Rattle.std.proofs.Common.{◌≡◌, ◌≢◌, ◌<◌, ◌+◌, ℕ, zero, suc, ℤ, List, [], ◌∷◌, ◌++◌, length, map, take, get_or, Some, Vec, Global, All, refl, sym, subst, ap, ◌∙◌, inl, inr, ◌⊎◌, arith}
use Rattle.std.specs.Prelude.{slice_get, slice_set}
use Rattle.std.proofs.lemmas.Bool.{cases_lt}
use Rattle.std.proofs.lemmas.Option.{slice_get_within, get_or_from_slice_get}
use Rattle.std.proofs.lemmas.List.{append_assoc, map-append, take_more}
use Rattle.eos_base.specs.declared.partition_name.PartitionName.{PartitionName}
use Rattle.eos_base.specs.Members.{Has}
use Rattle.eos_base.proofs.Membership.{append_cases, append_left, append_right, only}
use Rattle.eos_txnlog.specs.declared.decision.Decision.{Decision}
use Rattle.eos_txnlog.specs.declared.partitions.TopicPartitions.{TopicPartitions}
use Rattle.eos_txnlog.specs.PartitionSets.{name_of, names_in_topic, names_of}
use Rattle.eos_fold.specs.declared.close.Close.{Close}
use Rattle.eos_fold.specs.Parts.{PartLog}
use Rattle.eos_table.specs.steps.Wanted.{Lists, wish, wishes_in, wishes_of, wishes, IsAt, StandsAt, IsPut, Have, Take}
use Rattle.eos_table.proofs.FoldMore.{pushed_more}

-- ---- what stands at a place

set_here : {X : Type 0} (xs : List X) (i : ℕ) (x y : X) → slice_get xs i ≡ Some x → slice_get (slice_set xs i y) i ≡ Some y
set_here [] i x y e = absurd cc
set_here (z ∷ xs) zero x y e = refl
set_here (z ∷ xs) (suc i) x y e = set_here xs i x y e

set_there : {X : Type 0} (xs : List X) (i j : ℕ) (y : X) → j ≢ i → slice_get (slice_set xs i y) j ≡ slice_get xs j
set_there [] i j y n = refl
set_there (z ∷ xs) zero zero y n = absurd (n refl)
set_there (z ∷ xs) zero (suc j) y n = refl
set_there (z ∷ xs) (suc i) zero y n = refl
set_there (z ∷ xs) (suc i) (suc j) y n = set_there xs i j y (λ e. n (ap suc e))

set_len : {X : Type 0} (xs : List X) (i : ℕ) (y : X) → length (slice_set xs i y) ≡ length xs
set_len [] i y = refl
set_len (z ∷ xs) zero y = refl
set_len (z ∷ xs) (suc i) y = ap suc (set_len xs i y)

same_or_not : (i j : ℕ) → (i ≡ j) ⊎ (i ≢ j)
same_or_not i j = elim (cases_lt i j) [
  | inl l ↦ inr (λ e. omega (arith, l, e))
  | inr ge ↦ elim (cases_lt j i) [ inl l ↦ inr (λ e. omega (arith, l, e)) | inr le ↦ inl (omega (arith, ge, le)) ]
]

some_is : {X : Type 0} (x y : X) → Some x ≡ Some y → x ≡ y
some_is x y e = cc

-- ---- no wish

pub none_have : (ps : List PartLog) (lists : Lists) → length lists ≡ length ps → All (λ (v : Vec Close Global). v.items ≡ []) lists → Have ps [] lists
none_have ps lists len empty = record { len = len; sound = λ place c s. absurd (nothing place c s); whole = λ c name h. absurd h }
  where
    nothing : (place : ℕ) (c : Close) → StandsAt lists place c → ⊥
    nothing place c s =
        let first = empty place s.0 (slice_get_within lists place s.0 s.1) in
        let none : s.0.items ≡ [] = subst (λ (v : Vec Close Global). v.items ≡ []) (get_or_from_slice_get lists place s.0 s.0 s.1) first in
        subst (λ (cs : List Close). Has cs c) none s.2

-- ---- one more

module _ (ps : List PartLog) (old new : Lists) (place : ℕ) (c : Close) (name : PartitionName) (at : IsAt ps place name) (put : IsPut old place c new) where
  here : slice_get new place ≡ Some put.1
  here = subst (λ (ls : Lists). slice_get ls place ≡ Some put.1) (sym put.4) (set_here old place put.0 put.1 put.2)

  elsewhere : (j : ℕ) → j ≢ place → slice_get new j ≡ slice_get old j
  elsewhere j n = subst (λ (ls : Lists). slice_get ls j ≡ slice_get old j) (sym put.4) (set_there old place j put.1 n)

  grown : (j : ℕ) (k : Close) → StandsAt old j k → StandsAt new j k
  grown j k s = elim (same_or_not j place) [
    | inr n ↦ (s.0, elsewhere j n ∙ s.1, s.2)
    | inl e ↦
        let is : put.0 ≡ s.0 = some_is put.0 s.0 (sym put.2 ∙ subst (λ i. slice_get old i ≡ Some s.0) e s.1) in
        let there : Has put.0.items k = subst (λ (v : Vec Close Global). Has v.items k) (sym is) s.2 in
        (put.1, subst (λ i. slice_get new i ≡ Some put.1) (sym e) here, subst (λ (cs : List Close). Has cs k) (sym put.3) (append_left put.0.items (c ∷ []) k there))
  ]

  abbrev Told : List (Close × PartitionName) → ℕ → Close → Type 0
  Told ws j k = (n : PartitionName) × IsAt ps j n × Has ws (wish k n)

  known : (before : List (Close × PartitionName)) → Have ps before old → (j : ℕ) (k : Close) → StandsAt old j k → Told (before ++ wish c name ∷ []) j k
  known before have j k s = let r = have.sound j k s in (r.0, r.1, append_left before (wish c name ∷ []) (wish k r.0) r.2)

  told : (before : List (Close × PartitionName)) → Have ps before old → (j : ℕ) (k : Close) → StandsAt new j k → Told (before ++ wish c name ∷ []) j k
  told before have j k s = elim (same_or_not j place) [
    | inr n ↦ known before have j k (s.0, sym (elsewhere j n) ∙ s.1, s.2)
    | inl e ↦
        let is : put.1 ≡ s.0 = some_is put.1 s.0 (sym here ∙ subst (λ i. slice_get new i ≡ Some s.0) e s.1) in
        let there : Has (put.0.items ++ c ∷ []) k = subst (λ (cs : List Close). Has cs k) put.3 (subst (λ (v : Vec Close Global). Has v.items k) (sym is) s.2) in
        elim (append_cases put.0.items (c ∷ []) k there) [
          | inl h ↦ known before have j k (put.0, subst (λ i. slice_get old i ≡ Some put.0) (sym e) put.2, h)
          | inr h ↦ subst (Told (before ++ wish c name ∷ []) j) (only c k h) (name, subst (λ i. IsAt ps i name) (sym e) at, append_right before (wish c name ∷ []) (wish c name) (inl refl))
        ]
  ]

  abbrev Placed : Close → PartitionName → Type 0
  Placed k n = (j : ℕ) × IsAt ps j n × StandsAt new j k

  last : StandsAt new place c
  last = (put.1, here, subst (λ (cs : List Close). Has cs c) (sym put.3) (append_right put.0.items (c ∷ []) c (inl refl)))

  placed : (before : List (Close × PartitionName)) → Have ps before old → (k : Close) (n : PartitionName) → Has (before ++ wish c name ∷ []) (wish k n) → Placed k n
  placed before have k n h = elim (append_cases before (wish c name ∷ []) (wish k n) h) [
    | inl b ↦ let r = have.whole k n b in (r.0, r.1, grown r.0 k r.2)
    | inr l ↦
        let is = only (wish c name) (wish k n) l in
        subst (Placed k) (ap (λ z. z.1) is) (subst (λ (x : Close). Placed x name) (ap (λ z. z.0) is) (place, at, last))
  ]

  pub one_taken : Take ps (wish c name ∷ []) old new
  one_taken = λ before have. record {
    len = subst (λ (ls : Lists). length ls ≡ length ps) (sym put.4) (set_len old place put.1 ∙ have.len);
    sound = told before have;
    whole = placed before have;
  }

-- ---- one after the other

pub both_taken : (ps : List PartLog) (ws more : List (Close × PartitionName)) (old mid new : Lists) → Take ps ws old mid → Take ps more mid new → Take ps (ws ++ more) old new
both_taken ps ws more old mid new f g = λ before have. subst (λ (xs : List (Close × PartitionName)). Have ps xs new) (append_assoc before ws more) (g (before ++ ws) (f before have))

-- ---- one more of a list

pub number_taken : (ps : List PartLog) (c : Close) (topic : List ℕ) (numbers : List ℤ) (i : ℕ) (d : ℤ) (old mid new : Lists) → i < length numbers
    → Take ps (wishes_in c (map (name_of topic) (take i numbers))) old mid → Take ps (wish c (name_of topic (get_or numbers i d)) ∷ []) mid new → Take ps (wishes_in c (map (name_of topic) (take (i + 1) numbers))) old new
number_taken ps c topic numbers i d old mid new lt so_far more =
    let n = get_or numbers i d in
    let all : wishes_in c (map (name_of topic) (take (i + 1) numbers)) ≡ wishes_in c (map (name_of topic) (take i numbers)) ++ wish c (name_of topic n) ∷ [] =
    ap (λ (ns : List ℤ). wishes_in c (map (name_of topic) ns)) (take_more numbers i d lt)
    ∙ (ap (wishes_in c) (map-append (name_of topic) (take i numbers) (n ∷ [])) ∙ map-append (wish c) (map (name_of topic) (take i numbers)) (name_of topic n ∷ [])) in
    subst (λ ws. Take ps ws old new) (sym all) (both_taken ps (wishes_in c (map (name_of topic) (take i numbers))) (wish c (name_of topic n) ∷ []) old mid new so_far more)

pub topic_taken : (ps : List PartLog) (c : Close) (topics : List TopicPartitions) (i : ℕ) (t : TopicPartitions) (old mid new : Lists) → i < length topics → t ≡ get_or topics i t
    → Take ps (wishes_in c (names_of (take i topics))) old mid → Take ps (wishes_in c (names_in_topic t)) mid new → Take ps (wishes_in c (names_of (take (i + 1) topics))) old new
topic_taken ps c topics i t old mid new lt is so_far more =
    let names : names_of (take (i + 1) topics) ≡ names_of (take i topics) ++ names_in_topic t = sym (pushed_more names_in_topic (names_of (take i topics)) (names_of (take i topics) ++ names_in_topic t) topics i t lt is refl refl) in
    let all : wishes_in c (names_of (take (i + 1) topics)) ≡ wishes_in c (names_of (take i topics)) ++ wishes_in c (names_in_topic t) = ap (wishes_in c) names ∙ map-append (wish c) (names_of (take i topics)) (names_in_topic t) in
    subst (λ ws. Take ps ws old new) (sym all) (both_taken ps (wishes_in c (names_of (take i topics))) (wishes_in c (names_in_topic t)) old mid new so_far more)

pub decision_had : (ps : List PartLog) (ds : List Decision) (i : ℕ) (d : Decision) (mid new : Lists) → i < length ds → d ≡ get_or ds i d
    → Have ps (wishes (take i ds)) mid → Take ps (wishes_of d) mid new → Have ps (wishes (take (i + 1) ds)) new
decision_had ps ds i d mid new lt is so_far more =
    subst (λ (ws : List (Close × PartitionName)). Have ps ws new) (pushed_more wishes_of (wishes (take i ds)) (wishes (take i ds) ++ wishes_of d) ds i d lt is refl refl) (more (wishes (take i ds)) so_far)
