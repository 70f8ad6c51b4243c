-- All data of transactions is ended by a marker exactly where no producer id's last touch is data of a transaction.
use Rattle.std.proofs.Common.{◌≡◌, ℕ, Bool, true, false, Option, Some, None, List, [], ◌∷◌, ◌++◌, length, refl, sym, ap, subst, ◌∙◌, ℤ, pos, inl, inr, ◌⊎◌}
use Rattle.std.specs.Prelude.{if◌then◌else◌, int_lt, int_le, is_some, not}
use Rattle.std.specs.Option.{option_or, option_map, option_to_list}
use Rattle.std.specs.Ordering.{int_eq}
use Rattle.std.proofs.lemmas.Bool.{false≢true}
use Rattle.std.proofs.lemmas.Bool.Decides.{Decides-int_eq}
use Rattle.eos_base.specs.Members.{Has}
use Rattle.eos_base.proofs.Membership.{append_cases, append_left, append_right, if_has}
use Rattle.eos_batch.specs.declared.batch.Batch.{Batch}
use Rattle.eos_batch.specs.declared.marker.Marker.{Marker}
use Rattle.eos_batch.specs.declared.marker.Kind.{Kind}
use Rattle.eos_batch.specs.Marker.{marker_of, marker_in, markers_of}
use Rattle.eos_batch.specs.Attributes.{is_control, is_transactional}
use Rattle.eos_batch.specs.Rules.{IsProducerRight, has_right_producer, names_producer}
use Rattle.eos_touch.specs.declared.touch.Touch.{Touch}
use Rattle.eos_touch.specs.declared.touch.Touch.TheVariants.{Data, End}
use Rattle.eos_touch.specs.Pair.{is_open, is_marker, mixed_producer}
use Rattle.eos_touch.specs.Neighbours.{EachAfter, Accepts}
use Rattle.eos_touch.proofs.TableRows.{is_clean}
use Rattle.eos_touch.specs.Touches.{data_touch, end_touch, touch_of, touch_in, touches_of, last_of, last_touch}
use Rattle.eos_fold.specs.Standing.{IsOpen}
use Rattle.eos_check.specs.PartitionRules.{IsTransactional, HasMarker}

-- ---- what a batch says

no_some : {X : Type 0} (x : X) → None ≡ Some x → ⊥
no_some x e = cc

some_is : {X : Type 0} (x y : X) → Some x ≡ Some y → x ≡ y
some_is x y e = cc

-- data of a transaction names its producer
pub data_says : (b : Batch) → IsProducerRight b → IsTransactional b → touch_of b ≡ Some (b.producer, Data b.epoch true b.sequence (length b.records))
data_says b right t = by_test (int_lt b.producer (pos 0)) refl
  where
    by_test : (test : Bool) → int_lt b.producer (pos 0) ≡ test → touch_of b ≡ Some (b.producer, Data b.epoch true b.sequence (length b.records))
    by_test true e =
        let names : names_producer b ≡ true = ap (λ (x : Bool). if x then is_some (marker_of b) else is_transactional b.attributes) t.of_data ∙ t.transactional in
        let wrong : has_right_producer b ≡ false = ap (λ (x : Bool). if x then not (names_producer b) else int_le (pos 0) b.epoch) e ∙ ap not names in
        absurd (false≢true (sym wrong ∙ right))
    by_test false e =
        ap (λ (x : Bool). if x then option_map end_touch (marker_of b) else data_touch b) t.of_data
        ∙ (ap (λ (x : Bool). if x then None else Some (b.producer, Data b.epoch (is_transactional b.attributes) b.sequence (length b.records))) e
        ∙ ap (λ (x : Bool). Some (b.producer, Data b.epoch x b.sequence (length b.records))) t.transactional)

pub record IsEnd (b : Batch) (id : ℤ) (m : Marker) : Type 0 where
  pub marker : marker_of b ≡ Some m
  pub producer : m.producer ≡ id

-- an end marker says that its producer's transaction ends
pub end_says : (b : Batch) (m : Marker) → marker_of b ≡ Some m → touch_of b ≡ Some (end_touch m)
end_says b m e = by_test (is_control b.attributes) refl
  where
    by_test : (test : Bool) → is_control b.attributes ≡ test → touch_of b ≡ Some (end_touch m)
    by_test true c = ap (λ (x : Bool). if x then option_map end_touch (marker_of b) else data_touch b) c ∙ ap (option_map end_touch) e
    by_test false c = absurd (no_some m (sym (ap (λ (x : Bool). if x then marker_in b b.records else None) c) ∙ e))

mapped : (o : Option Marker) (x : ℤ × Touch) → option_map end_touch o ≡ Some x → (m : Marker) × (o ≡ Some m) × (end_touch m ≡ x)
mapped None x e = absurd (no_some x e)
mapped (Some m) x e = (m, refl, some_is (end_touch m) x e)

data_is : (b : Batch) (x : ℤ × Touch) → data_touch b ≡ Some x → (b.producer, Data b.epoch (is_transactional b.attributes) b.sequence (length b.records)) ≡ x
data_is b x e = by_test (int_lt b.producer (pos 0)) e
  where
    by_test : (test : Bool) → (if test then None else Some (b.producer, Data b.epoch (is_transactional b.attributes) b.sequence (length b.records))) ≡ Some x
        → (b.producer, Data b.epoch (is_transactional b.attributes) b.sequence (length b.records)) ≡ x
    by_test true h = absurd (no_some x h)
    by_test false h = some_is _ x h

data_no_end : (b : Batch) (e : ℤ) (k : Kind) → Data b.epoch (is_transactional b.attributes) b.sequence (length b.records) ≡ End e k → ⊥
data_no_end b e k h = false≢true (ap is_marker h)

pub says_end : (b : Batch) (id e : ℤ) (k : Kind) (x : ℤ × Touch) → touch_of b ≡ Some x → x.0 ≡ id → x.1 ≡ End e k → (m : Marker) × IsEnd b id m
says_end b id e k x h p q = by_test (is_control b.attributes) refl
  where
    by_test : (test : Bool) → is_control b.attributes ≡ test → (m : Marker) × IsEnd b id m
    by_test true c =
        let r = mapped (marker_of b) x (sym (ap (λ (y : Bool). if y then option_map end_touch (marker_of b) else data_touch b) c) ∙ h) in
        (r.0, record { marker = r.1; producer = ap (λ (y : ℤ × Touch). y.0) r.2 ∙ p })
    by_test false c =
        let r = data_is b x (sym (ap (λ (y : Bool). if y then option_map end_touch (marker_of b) else data_touch b) c) ∙ h) in
        absurd (data_no_end b e k (ap (λ (y : ℤ × Touch). y.1) r ∙ q))

open_end : (m : Marker) (t : Touch) → (end_touch m).1 ≡ t → is_open t ≡ true → ⊥
open_end m t e h = false≢true (subst (λ (x : Touch). is_open x ≡ true) (sym e) h)

-- a batch whose touch is open is data of a transaction
says_open : (b : Batch) (x : ℤ × Touch) → touch_of b ≡ Some x → is_open x.1 ≡ true → IsTransactional b × (b.producer ≡ x.0)
says_open b x h o = by_test (is_control b.attributes) refl
  where
    by_test : (test : Bool) → is_control b.attributes ≡ test → IsTransactional b × (b.producer ≡ x.0)
    by_test true c =
        let r = mapped (marker_of b) x (sym (ap (λ (y : Bool). if y then option_map end_touch (marker_of b) else data_touch b) c) ∙ h) in
        absurd (open_end r.0 x.1 (ap (λ (y : ℤ × Touch). y.1) r.2) o)
    by_test false c =
        let r = data_is b x (sym (ap (λ (y : Bool). if y then option_map end_touch (marker_of b) else data_touch b) c) ∙ h) in
        (record { of_data = c; transactional = ap (λ (y : ℤ × Touch). is_open y.1) r ∙ o }, ap (λ (y : ℤ × Touch). y.0) r)

-- ---- markers among touches

listed_is : (o : Option Marker) (m : Marker) → Has (option_to_list o) m → o ≡ Some m
listed_is None m h = absurd h
listed_is (Some n) m (inl e) = ap Some e
listed_is (Some n) m (inr h) = absurd h

has_listed : (o : Option Marker) (m : Marker) → o ≡ Some m → Has (option_to_list o) m
has_listed o m e = subst (λ (x : Option Marker). Has (option_to_list x) m) (sym e) (inl refl)

in_touch : (id : ℤ) (x : ℤ × Touch) → x.0 ≡ id → Has (touch_in id (Some x)) x.1
in_touch id x e = subst (λ (test : Bool). Has (if test then x.1 ∷ [] else []) x.1) (sym ((Decides-int_eq x.0 id).1 e)) (inl refl)

pub end_touches : (id : ℤ) (bs : List Batch) (m : Marker) → Has (markers_of bs) m → m.producer ≡ id → Has (touches_of id bs) (End m.epoch m.kind)
end_touches id [] m h p = absurd h
end_touches id (b ∷ bs) m h p = elim (append_cases (option_to_list (marker_of b)) (markers_of bs) m h) [
  | inl a ↦ append_left (touch_in id (touch_of b)) (touches_of id bs) (End m.epoch m.kind)
      (subst (λ (o : Option (ℤ × Touch)). Has (touch_in id o) (End m.epoch m.kind)) (sym (end_says b m (listed_is (marker_of b) m a))) (in_touch id (end_touch m) p))
  | inr a ↦ append_right (touch_in id (touch_of b)) (touches_of id bs) (End m.epoch m.kind) (end_touches id bs m a p)
]

one_is : (x : ℤ × Touch) (t : Touch) → Has (x.1 ∷ []) t → x.1 ≡ t
one_is x t (inl e) = e
one_is x t (inr h) = absurd h

pub marker_among : (id : ℤ) (bs : List Batch) (e : ℤ) (k : Kind) → Has (touches_of id bs) (End e k) → HasMarker id bs
marker_among id [] e k h = absurd h
marker_among id (b ∷ bs) e k h = elim (append_cases (touch_in id (touch_of b)) (touches_of id bs) (End e k) h) [
  | inl a ↦ here (touch_of b) refl a
  | inr a ↦ let r = marker_among id bs e k a in (r.0, append_right (option_to_list (marker_of b)) (markers_of bs) r.0 r.1, r.2)
]
  where
    here : (o : Option (ℤ × Touch)) → touch_of b ≡ o → Has (touch_in id o) (End e k) → HasMarker id (b ∷ bs)
    here None q a = absurd a
    here (Some x) q a =
        let r = if_has (int_eq x.0 id) (x.1 ∷ []) (End e k) a in
        let f = says_end b id e k x q ((Decides-int_eq x.0 id).0 r.0) (one_is x (End e k) r.1) in
        (f.0, append_left (option_to_list (marker_of b)) (markers_of bs) f.0 (has_listed (marker_of b) f.0 f.1.marker), f.1.producer)

-- ---- behind open data comes a marker, or the last touch is open

open_more : (o : Option Touch) (t : Touch) → IsOpen o → IsOpen (option_or o (Some t))
open_more None t h = absurd h
open_more (Some u) t h = h

stays_open : (e : ℤ) (s : ℤ) (c : ℕ) (f : ℤ) (u : Bool) (r : ℤ) (d : ℕ) → mixed_producer (Some (Data e true s c)) (Data f u r d) ≡ false → u ≡ true
stays_open e s c f true r d h = refl
stays_open e s c f false r d h = absurd (false≢true (sym h))

pub marker_or_open : (s : Bool) (t : Touch) (ts : List Touch) → EachAfter (Accepts s) (Some t) ts → is_open t ≡ true
    → ((e : ℤ) × (k : Kind) × Has ts (End e k)) ⊎ IsOpen (last_of (t ∷ ts))
marker_or_open s t [] h o = inr o
marker_or_open s t (End e k ∷ ts) h o = inl (e, k, inl refl)
marker_or_open s (End e k) (Data f u r d ∷ ts) h o = absurd (false≢true o)
marker_or_open s (Data e false q c) (Data f u r d ∷ ts) h o = absurd (false≢true o)
marker_or_open s (Data e true q c) (Data f u r d ∷ ts) h o =
    elim (marker_or_open s (Data f u r d) ts h.1 (stays_open e q c f u r d (is_clean s (Some (Data e true q c)) (Data f u r d) h.0).mixed)) [
      | inl a ↦ inl (a.0, a.1, inr a.2)
      | inr a ↦ inr (open_more (last_of (Data f u r d ∷ ts)) (Data e true q c) a)
    ]

-- ---- the batch of the last touch

or_assoc : {X : Type 0} (a b c : Option X) → option_or (option_or a b) c ≡ option_or a (option_or b c)
or_assoc None b c = refl
or_assoc (Some x) b c = refl

or_nothing : {X : Type 0} (a : Option X) → option_or a None ≡ a
or_nothing None = refl
or_nothing (Some x) = refl

last_of-append : (xs ys : List Touch) → last_of (xs ++ ys) ≡ option_or (last_of ys) (last_of xs)
last_of-append [] ys = sym (or_nothing (last_of ys))
last_of-append (x ∷ xs) ys = ap (λ (o : Option Touch). option_or o (Some x)) (last_of-append xs ys) ∙ or_assoc (last_of ys) (last_of xs) (Some x)

or_some : (o : Option Touch) (t : Touch) → option_or o (Some t) ≡ None → ⊥
or_some None t e = no_some t (sym e)
or_some (Some u) t e = no_some u (sym e)

none_left : (ts : List Touch) → last_of ts ≡ None → ts ≡ []
none_left [] e = refl
none_left (t ∷ ts) e = absurd (or_some (last_of ts) t e)

pub record IsLastOf (id : ℤ) (bs : List Batch) (t : Touch) : Type 0 where
  pub before : List Batch
  pub here : Batch
  pub after : List Batch
  pub parts : bs ≡ before ++ here ∷ after
  pub touch : touch_of here ≡ Some (id, t)
  pub last : touches_of id after ≡ []

later : (id : ℤ) (b : Batch) (bs : List Batch) (t : Touch) → IsLastOf id bs t → IsLastOf id (b ∷ bs) t
later id b bs t r = record { before = b ∷ r.before; here = r.here; after = r.after; parts = ap (λ (xs : List Batch). b ∷ xs) r.parts; touch = r.touch; last = r.last }

pub last_batch : (id : ℤ) (bs : List Batch) (t : Touch) → last_touch id bs ≡ Some t → IsLastOf id bs t
last_batch id [] t e = absurd (no_some t e)
last_batch id (b ∷ bs) t e = by_last (last_touch id bs) refl (λ u q. last_batch id bs u q)
  where
    whole : option_or (last_touch id bs) (last_of (touch_in id (touch_of b))) ≡ Some t
    whole = sym (last_of-append (touch_in id (touch_of b)) (touches_of id bs)) ∙ e

    here : (o : Option (ℤ × Touch)) → touch_of b ≡ o → last_of (touch_in id o) ≡ Some t → touches_of id bs ≡ [] → IsLastOf id (b ∷ bs) t
    here None q h left = absurd (no_some t h)
    here (Some x) q h left = by_test (int_eq x.0 id) refl h
      where
        by_test : (test : Bool) → int_eq x.0 id ≡ test → last_of (if test then x.1 ∷ [] else []) ≡ Some t → IsLastOf id (b ∷ bs) t
        by_test true i l =
            let p : x.0 ≡ id = (Decides-int_eq x.0 id).0 i in
            let w : x.1 ≡ t = some_is x.1 t l in
            let both : x ≡ (id, t) = ap (λ (y : ℤ). (y, x.1)) p ∙ ap (λ (y : Touch). (id, y)) w in
            record { before = []; here = b; after = bs; parts = refl; touch = q ∙ ap Some both; last = left }
        by_test false i l = absurd (no_some t l)

    by_last : (o : Option Touch) → last_touch id bs ≡ o → ((u : Touch) → last_touch id bs ≡ Some u → IsLastOf id bs u) → IsLastOf id (b ∷ bs) t
    by_last None q rec = here (touch_of b) refl (sym (ap (λ (y : Option Touch). option_or y (last_of (touch_in id (touch_of b)))) q) ∙ whole) (none_left (touches_of id bs) q)
    by_last (Some u) q rec =
        let same : u ≡ t = some_is u t (sym (ap (λ (y : Option Touch). option_or y (last_of (touch_in id (touch_of b)))) q) ∙ whole) in
        later id b bs t (rec t (q ∙ ap Some same))

-- an open last touch is data of a transaction that no marker ends
pub open_unended : (id : ℤ) (bs : List Batch) → ((before : List Batch) (b : Batch) (after : List Batch) → bs ≡ before ++ b ∷ after → IsTransactional b → HasMarker b.producer after)
    → IsOpen (last_touch id bs) → ⊥
open_unended id bs ended h = by_last (last_touch id bs) refl h
  where
    by_last : (o : Option Touch) → last_touch id bs ≡ o → IsOpen o → ⊥
    by_last None q o = o
    by_last (Some t) q o =
        let r = last_batch id bs t q in
        let d = says_open r.here (id, t) r.touch o in
        let m = ended r.before r.here r.after r.parts d.0 in
        let has : Has (touches_of id r.after) (End m.0.epoch m.0.kind) = end_touches id r.after m.0 m.1 (m.2 ∙ d.1) in
        absurd (subst (λ (ts : List Touch). Has ts (End m.0.epoch m.0.kind)) r.last has)
