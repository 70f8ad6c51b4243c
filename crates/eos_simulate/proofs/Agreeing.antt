-- The batches of a log say what its items say as batches of their own: of offsets, markers, records and closes the same, and what
-- the machine promises of touches holds of theirs too.
use Rattle.std.proofs.Common.{◌≡◌, ◌↔◌, ℕ, zero, suc, ◌+◌, ◌-◌, ℤ, pos, Bool, true, false, List, [], ◌∷◌, ◌++◌, map, length, take, Option, Some, None, refl, sym, ap, subst, ◌∙◌, arith, inl, inr}
use Rattle.std.specs.Prelude.{int_lt, if◌then◌else◌}
use Rattle.std.specs.Option.{option_or, option_map, option_to_list}
use Rattle.std.specs.Ordering.{int_eq}
use Rattle.std.proofs.lemmas.List.{length-map}
use Rattle.eos_base.specs.Members.{Has}
use Rattle.eos_base.proofs.Membership.{append_cases, append_left, append_right}
use Rattle.eos_batch.specs.declared.batch.Batch.{Batch}
use Rattle.eos_batch.specs.Attributes.{is_transactional, is_control}
use Rattle.eos_batch.specs.Offsets.{offset_of}
use Rattle.eos_batch.specs.Marker.{marker_of, markers_of}
use Rattle.eos_touch.specs.declared.touch.Touch.{Touch}
use Rattle.eos_touch.specs.declared.touch.Touch.TheVariants.{Data}
use Rattle.eos_touch.specs.Pair.{is_open}
use Rattle.eos_touch.specs.Front.{records_in, ContinuesFrom}
use Rattle.eos_touch.specs.Neighbours.{EachAfter, Accepts}
use Rattle.eos_touch.specs.Touches.{touch_of, touch_in, touches_of, last_of}
use Rattle.eos_fold.specs.declared.entry.Ending.{Ending}
use Rattle.eos_fold.specs.declared.entry.Ending.TheVariants.{Plain, Ended, Waiting}
use Rattle.eos_fold.specs.Batches.{DataBatch, data_batch, fate_of}
use Rattle.eos_fold.specs.Items.{item_of, items_from, items_in, items_of}
use Rattle.eos_fold.specs.declared.mark.EndMark.{EndMark}
use Rattle.eos_fold.specs.Ends.{is_data, mark_of, mark_in, mark_for, first_marker}
use Rattle.eos_fold.specs.Settling.{resolved, ending_by, settled, data_after, data_in}
use Rattle.eos_fold.specs.declared.close.Close.{Close}
use Rattle.eos_fold.specs.Closes.{close_by, close_of, closes_of}
use Rattle.eos_machine.specs.declared.config.Config.{Config}
use Rattle.eos_machine.specs.declared.item.Item.{Item}
use Rattle.eos_machine.specs.Grouping.{goes_on, joining}
use Rattle.eos_machine.specs.Batches.{event_of, item_writer, item_record, record_after, batch_of, behind, batches_after, batches_from}
use Rattle.eos_simulate.proofs.Singles.{item_batch, singles_from}
use Rattle.eos_simulate.proofs.Joining.{IsNext, WritesOn, writes_on, said, first_says, others_say, one_for_two}

-- whether the last touch is data of a transaction, if there is one
abbrev pub last_open : List Touch → Option Bool
last_open ts = option_map is_open (last_of ts)

pub record Agrees (bs cs : List Batch) : Type 0 where
  pub records : records_in bs ≡ records_in cs
  pub continues : (o : ℕ) → ContinuesFrom o cs → ContinuesFrom o bs
  pub markers : markers_of bs ≡ markers_of cs
  pub first : (id : ℤ) → first_marker id bs ≡ first_marker id cs
  pub items : items_of (data_in bs) ≡ items_of (data_in cs)
  pub closes : (x : Close) → Has (closes_of bs) x ↔ Has (closes_of cs) x
  pub follows : (q : Bool) (id : ℤ) (before : Option Touch) → EachAfter (Accepts q) before (touches_of id cs) → EachAfter (Accepts q) before (touches_of id bs)
  pub opens : (id : ℤ) → last_open (touches_of id bs) ≡ last_open (touches_of id cs)

pub agrees_nil : Agrees [] []
agrees_nil = record {
  records = refl;
  continues = λ o h. h;
  markers = refl;
  first = λ id. refl;
  items = refl;
  closes = λ x. (λ h. h, λ h. h);
  follows = λ q id before h. h;
  opens = λ id. refl;
}

-- ---- a batch in front of both

same_ending : (m n : ℤ → Option EndMark) (e : Ending) → ((id : ℤ) → m id ≡ n id) → resolved m e ≡ resolved n e
same_ending m n Plain h = refl
same_ending m n (Ended e k) h = refl
same_ending m n (Waiting id) h = ap (ending_by id) (h id)

same_data : (m n : ℤ → Option EndMark) (d : DataBatch) → ((id : ℤ) → m id ≡ n id) → settled m d ≡ settled n d
same_data m n d h = ap (λ e. record { offset = d.offset; writer = d.writer; ending = e; records = d.records }) (same_ending m n d.ending h)

items_after : (t : Bool) (d e : DataBatch) (ds es : List DataBatch) → d ≡ e → items_of ds ≡ items_of es → items_of ((if t then d ∷ [] else []) ++ ds) ≡ items_of ((if t then e ∷ [] else []) ++ es)
items_after true d e ds es h k = ap (λ x. items_in x ++ items_of ds) h ∙ ap (λ l. items_in e ++ l) k
items_after false d e ds es h k = k

same_close : (b : Batch) (bs cs : List Batch) → first_marker b.producer bs ≡ first_marker b.producer cs → close_of b bs ≡ close_of b cs
same_close b bs cs h = ap (λ m. if is_transactional b.attributes then close_by b.producer b.epoch m else []) h

has_both : {X : Type 0} (ps qs xs ys : List X) (x : X) → ps ≡ qs → (Has xs x → Has ys x) → Has (ps ++ xs) x → Has (qs ++ ys) x
has_both ps qs xs ys x e f h = elim (append_cases ps xs x h) [
  | inl l ↦ append_left qs ys x (subst (λ k. Has k x) e l)
  | inr r ↦ append_right qs ys x (f r)
]

each_behind : (R : Option Touch → Touch → Type 0) (ts us vs : List Touch) (before : Option Touch) → ((b : Option Touch) → EachAfter R b us → EachAfter R b vs) → EachAfter R before (ts ++ us) → EachAfter R before (ts ++ vs)
each_behind R [] us vs before f h = f before h
each_behind R (t ∷ ts) us vs before f h = (h.0, each_behind R ts us vs (Some t) f h.1)

open_front : (t : Touch) (o p : Option Touch) → option_map is_open o ≡ option_map is_open p → option_map is_open (option_or o (Some t)) ≡ option_map is_open (option_or p (Some t))
open_front t None None h = refl
open_front t None (Some y) h = absurd cc
open_front t (Some x) None h = absurd cc
open_front t (Some x) (Some y) h = h

open_behind : (ts us vs : List Touch) → last_open us ≡ last_open vs → last_open (ts ++ us) ≡ last_open (ts ++ vs)
open_behind [] us vs h = h
open_behind (t ∷ ts) us vs h = open_front t (last_of (ts ++ us)) (last_of (ts ++ vs)) (open_behind ts us vs h)

pub agrees_after : (b : Batch) (bs cs : List Batch) → Agrees bs cs → Agrees (b ∷ bs) (b ∷ cs)
agrees_after b bs cs a = record {
  records = ap (λ n. length b.records + n) a.records;
  continues = λ o h. (h.0, a.continues (o + length b.records) h.1);
  markers = ap (λ ms. option_to_list (marker_of b) ++ ms) a.markers;
  first = λ id. ap (option_or (mark_for id (mark_of b))) (a.first id);
  items = items_after (is_data b) (data_after b bs) (data_after b cs) (data_in bs) (data_in cs) (same_data (λ id. first_marker id bs) (λ id. first_marker id cs) (data_batch b) a.first) a.items;
  closes = λ x. (
    has_both _ _ (closes_of bs) (closes_of cs) x (own (is_data b)) (a.closes x).0,
    has_both _ _ (closes_of cs) (closes_of bs) x (sym (own (is_data b))) (a.closes x).1,
  );
  follows = λ q id before h. each_behind (Accepts q) (touch_in id (touch_of b)) (touches_of id cs) (touches_of id bs) before (a.follows q id) h;
  opens = λ id. open_behind (touch_in id (touch_of b)) (touches_of id bs) (touches_of id cs) (a.opens id);
}
  where
    own : (t : Bool) → (if t then close_of b bs else []) ≡ (if t then close_of b cs else [])
    own true = same_close b bs cs (a.first b.producer)
    own false = refl

-- ---- one batch for two

-- the record of an item says the same in whatever batch it stands
same_items : (c : Config) (d e : DataBatch) (m n p q : ℕ) (xs : List Item) → d.offset + p ≡ e.offset + q → d.ending ≡ e.ending → d.writer ≡ e.writer → items_from d p (map (record_after c m) xs) ≡ items_from e q (map (record_after c n) xs)
same_items c d e m n p q [] h k w = refl
same_items c d e m n p q (x ∷ xs) h k w =
    let one : item_of d p (record_after c m x) ≡ item_of e q (record_after c n x) = λ i. record { offset = h i; fate = fate_of (k i); writer = w i; key = (item_record c x).key; value = (item_record c x).value; headers = (item_record c x).headers } in
    let more = same_items c d e m n (suc p) (suc q) xs (omega (arith, h)) k w in
    ap (λ l. l ∷ items_from d (suc p) (map (record_after c m) xs)) one ∙ ap (λ l. item_of e q (record_after c n x) ∷ l) more

no_mark : (w : Option (ℤ × Touch)) (t : Bool) (p e s : ℤ) (u : Bool) (n o : ℕ) → w ≡ (if t then None else Some (p, Data e u s n)) → mark_in o w ≡ None
no_mark w true p e s u n o h = ap (mark_in o) h
no_mark w false p e s u n o h = ap (mark_in o) h

marks_none : (c : Config) (o : ℕ) (x : Item) (ys : List Item) (id : ℤ) (bs : List Batch) → is_control (item_writer x).attributes ≡ false → first_marker id (batch_of c o x ys ∷ bs) ≡ first_marker id bs
marks_none c o x ys id bs h =
    let n = no_mark (touch_of (batch_of c o x ys)) (int_lt (item_writer x).producer (pos 0)) _ _ _ _ _ (offset_of (batch_of c o x ys)) (first_says c o x ys h) in
    ap (λ m. option_or (mark_for id m) (first_marker id bs)) n

-- a batch of data, and what it closes
data_first : (c : Config) (o : ℕ) (x : Item) (ys : List Item) (bs : List Batch) → is_control (item_writer x).attributes ≡ false → data_in (batch_of c o x ys ∷ bs) ≡ data_after (batch_of c o x ys) bs ∷ data_in bs
data_first c o x ys bs h = rw h refl

closes_first : (c : Config) (o : ℕ) (x : Item) (ys : List Item) (bs : List Batch) → is_control (item_writer x).attributes ≡ false → closes_of (batch_of c o x ys ∷ bs) ≡ close_of (batch_of c o x ys) bs ++ closes_of bs
closes_first c o x ys bs h = rw h refl

markers_first : (c : Config) (o : ℕ) (x : Item) (ys : List Item) (bs : List Batch) → is_control (item_writer x).attributes ≡ false → markers_of (batch_of c o x ys ∷ bs) ≡ markers_of bs
markers_first c o x ys bs h = rw h refl

twice : {X : Type 0} (ps xs : List X) (x : X) → Has (ps ++ xs) x ↔ Has (ps ++ (ps ++ xs)) x
twice ps xs x = (
  λ h. append_right ps (ps ++ xs) x h,
  λ h. elim (append_cases ps (ps ++ xs) x h) [
    | inl l ↦ append_left ps xs x l
    | inr r ↦ r
  ],
)

two_follow : (t : Bool) (id p e r s : ℤ) (u q : Bool) (m : ℕ) (ts : List Touch) (before : Option Touch) → IsNext r s
    → EachAfter (Accepts q) before (touch_in id (if t then None else Some (p, Data e u r 1)) ++ (touch_in id (if t then None else Some (p, Data e u s m)) ++ ts))
    → EachAfter (Accepts q) before (touch_in id (if t then None else Some (p, Data e u r (suc m))) ++ ts)
two_follow true id p e r s u q m ts before n h = h
two_follow false id p e r s u q m ts before n h =
    elim (int_eq p id) as (λ t. EachAfter (Accepts q) before ((if t then Data e u r 1 ∷ [] else []) ++ ((if t then Data e u s m ∷ [] else []) ++ ts)) → EachAfter (Accepts q) before ((if t then Data e u r (suc m) ∷ [] else []) ++ ts)) [
      | true ↦ λ k. one_for_two q before e u r s m ts n k
      | false ↦ λ k. k
    ] h

two_open : (t : Bool) (id p e r s : ℤ) (u : Bool) (m : ℕ) (ts : List Touch)
    → last_open (touch_in id (if t then None else Some (p, Data e u r (suc m))) ++ ts) ≡ last_open (touch_in id (if t then None else Some (p, Data e u r 1)) ++ (touch_in id (if t then None else Some (p, Data e u s m)) ++ ts))
two_open true id p e r s u m ts = refl
two_open false id p e r s u m ts =
    elim (int_eq p id) as (λ t. last_open ((if t then Data e u r (suc m) ∷ [] else []) ++ ts) ≡ last_open ((if t then Data e u r 1 ∷ [] else []) ++ ((if t then Data e u s m ∷ [] else []) ++ ts))) [
      | true ↦ by (last_of ts)
      | false ↦ refl
    ]
  where
    by : (o : Option Touch) → option_map is_open (option_or o (Some (Data e u r (suc m)))) ≡ option_map is_open (option_or (option_or o (Some (Data e u s m))) (Some (Data e u r 1)))
    by None = refl
    by (Some x) = refl

-- the first of two batches has one record, and the second goes on with it: as one
agrees_joined : (c : Config) (o : ℕ) (x y : Item) (ys : List Item) (bs cs : List Batch) → WritesOn (item_writer x) (item_writer y) → Agrees (batch_of c o x [] ∷ batch_of c (o + 1) y ys ∷ bs) cs → Agrees (batch_of c o x (y ∷ ys) ∷ bs) cs
agrees_joined c o x y ys bs cs w a = record {
  records = counted ∙ a.records;
  continues = λ p h. continues p (a.continues p h);
  markers = markers_first c o x (y ∷ ys) bs w.data_is ∙ (sym (markers_first c o x [] (second ∷ bs) w.data_is ∙ markers_first c (o + 1) y ys bs other) ∙ a.markers);
  first = λ id. marks_none c o x (y ∷ ys) id bs w.data_is ∙ (sym (marks_none c o x [] id (second ∷ bs) w.data_is ∙ marks_none c (o + 1) y ys id bs other) ∙ a.first id);
  items = both_items ∙ a.items;
  closes = λ z. (λ h. (a.closes z).0 (to_two z h), λ h. from_two z ((a.closes z).1 h));
  follows = λ q id before h. follows q id before (a.follows q id before h);
  opens = λ id. opens id ∙ a.opens id;
}
  where
    first_one : Batch
    first_one = batch_of c o x []

    second : Batch
    second = batch_of c (o + 1) y ys

    both : Batch
    both = batch_of c o x (y ∷ ys)

    other : is_control (item_writer y).attributes ≡ false
    other = ap is_control w.attributes ∙ w.data_is

    count : length both.records ≡ suc (length second.records)
    count = ap (λ n. suc (suc n)) (length-map ys (record_after c (event_of x)) ∙ sym (length-map ys (record_after c (event_of y))))

    continues : (p : ℕ) → ContinuesFrom p (first_one ∷ second ∷ bs) → ContinuesFrom p (both ∷ bs)
    continues p h = (h.0, subst (λ n. ContinuesFrom n bs) (let e = count in omega (arith, e)) h.1.1)

    counted : records_in (both ∷ bs) ≡ records_in (first_one ∷ second ∷ bs)
    counted = let e = count in omega (arith, e)

    first_touch : touch_of first_one ≡ said (item_writer x) (item_writer x).sequence 1
    first_touch = first_says c o x [] w.data_is

    second_touch : touch_of second ≡ said (item_writer x) (item_writer y).sequence (length second.records)
    second_touch = others_say c (o + 1) x y ys w

    both_touch : touch_of both ≡ said (item_writer x) (item_writer x).sequence (suc (length second.records))
    both_touch = first_says c o x (y ∷ ys) w.data_is ∙ ap (said (item_writer x) (item_writer x).sequence) count

    follows : (q : Bool) (id : ℤ) (before : Option Touch) → EachAfter (Accepts q) before (touches_of id (first_one ∷ second ∷ bs)) → EachAfter (Accepts q) before (touches_of id (both ∷ bs))
    follows q id before h =
        subst (λ t. EachAfter (Accepts q) before (touch_in id t ++ touches_of id bs)) (sym both_touch)
        (two_follow (int_lt (item_writer x).producer (pos 0)) id (item_writer x).producer (item_writer x).epoch (item_writer x).sequence (item_writer y).sequence (is_transactional (item_writer x).attributes) q (length second.records) (touches_of id bs) before w.sequence
        (subst (λ t. EachAfter (Accepts q) before (touch_in id t ++ (touch_in id (said (item_writer x) (item_writer y).sequence (length second.records)) ++ touches_of id bs))) first_touch
        (subst (λ t. EachAfter (Accepts q) before (touch_in id (touch_of first_one) ++ (touch_in id t ++ touches_of id bs))) second_touch h)))

    opens : (id : ℤ) → last_open (touches_of id (both ∷ bs)) ≡ last_open (touches_of id (first_one ∷ second ∷ bs))
    opens id =
        ap (λ t. last_open (touch_in id t ++ touches_of id bs)) both_touch
        ∙ (two_open (int_lt (item_writer x).producer (pos 0)) id (item_writer x).producer (item_writer x).epoch (item_writer x).sequence (item_writer y).sequence (is_transactional (item_writer x).attributes) (length second.records) (touches_of id bs)
        ∙ sym (ap (λ t. last_open (touch_in id t ++ (touch_in id (touch_of second) ++ touches_of id bs))) first_touch
        ∙ ap (λ t. last_open (touch_in id (said (item_writer x) (item_writer x).sequence 1) ++ (touch_in id t ++ touches_of id bs))) second_touch))

    -- its records

    same_first : (id : ℤ) → first_marker id bs ≡ first_marker id (second ∷ bs)
    same_first id = sym (marks_none c (o + 1) y ys id bs other)

    first_items : items_from (data_after both bs) 0 (map (record_after c (event_of x)) (x ∷ [])) ≡ items_in (data_after first_one (second ∷ bs))
    first_items =
        same_items c (data_after both bs) (data_after first_one (second ∷ bs)) (event_of x) (event_of x) 0 0 (x ∷ []) refl
        (same_ending (λ id. first_marker id bs) (λ id. first_marker id (second ∷ bs)) (data_batch both).ending same_first) refl

    second_items : items_from (data_after both bs) 1 (map (record_after c (event_of x)) (y ∷ ys)) ≡ items_in (data_after second bs)
    second_items =
        same_items c (data_after both bs) (data_after second bs) (event_of x) (event_of y) 1 0 (y ∷ ys) (omega arith)
        (sym (λ i. resolved (λ id. first_marker id bs) (if is_transactional (w.attributes i) then Waiting (w.producer i) else Plain)))
        (sym (λ i. if is_transactional (w.attributes i) then Some (w.producer i, w.epoch i) else None))

    both_items : items_of (data_in (both ∷ bs)) ≡ items_of (data_in (first_one ∷ second ∷ bs))
    both_items =
        ap items_of (data_first c o x (y ∷ ys) bs w.data_is)
        ∙ (ap (λ l. (l ++ items_from (data_after both bs) 1 (map (record_after c (event_of x)) (y ∷ ys))) ++ items_of (data_in bs)) first_items
        ∙ (ap (λ l. items_in (data_after first_one (second ∷ bs)) ++ (l ++ items_of (data_in bs))) second_items
        ∙ sym (ap items_of (data_first c o x [] (second ∷ bs) w.data_is ∙ ap (λ ds. data_after first_one (second ∷ bs) ∷ ds) (data_first c (o + 1) y ys bs other)))))

    -- its closes

    first_close : close_of first_one (second ∷ bs) ≡ close_of both bs
    first_close = ap (λ m. if is_transactional (item_writer x).attributes then close_by (item_writer x).producer (item_writer x).epoch m else []) (sym (same_first (item_writer x).producer))

    second_close : close_of second bs ≡ close_of both bs
    second_close = λ i. if is_transactional (w.attributes i) then close_by (w.producer i) (w.epoch i) (first_marker (w.producer i) bs) else []

    two_closes : closes_of (first_one ∷ second ∷ bs) ≡ close_of both bs ++ (close_of both bs ++ closes_of bs)
    two_closes =
        closes_first c o x [] (second ∷ bs) w.data_is
        ∙ (ap (λ l. close_of first_one (second ∷ bs) ++ l) (closes_first c (o + 1) y ys bs other)
        ∙ (ap (λ l. l ++ (close_of second bs ++ closes_of bs)) first_close ∙ ap (λ l. close_of both bs ++ (l ++ closes_of bs)) second_close))

    to_two : (z : Close) → Has (closes_of (both ∷ bs)) z → Has (closes_of (first_one ∷ second ∷ bs)) z
    to_two z h = subst (λ l. Has l z) (sym two_closes) ((twice (close_of both bs) (closes_of bs) z).0 (subst (λ l. Has l z) (closes_first c o x (y ∷ ys) bs w.data_is) h))

    from_two : (z : Close) → Has (closes_of (first_one ∷ second ∷ bs)) z → Has (closes_of (both ∷ bs)) z
    from_two z h = subst (λ l. Has l z) (sym (closes_first c o x (y ∷ ys) bs w.data_is)) ((twice (close_of both bs) (closes_of bs) z).1 (subst (λ l. Has l z) two_closes h))

-- ---- the batches of items

first_agrees : (c : Config) (k o : ℕ) (x : Item) (xs : List Item) (bs cs : List Batch) → Agrees bs cs
    → Agrees (batch_of c o x (take (joining k x xs) xs) ∷ (batches_after c (joining k x xs) (o + 1) xs ++ bs)) (item_batch c o x ∷ (singles_from c (o + 1) xs ++ cs))
first_agrees c k o x [] bs cs a = agrees_after (item_batch c o x) bs cs a
first_agrees c zero o x (y ∷ ys) bs cs a = agrees_after (item_batch c o x) _ _ (first_agrees c (c.batch_records - 1) (o + 1) y ys bs cs a)
first_agrees c (suc k) o x (y ∷ ys) bs cs a = by (goes_on x y) refl (first_agrees c k (o + 1) y ys bs cs a) (first_agrees c (c.batch_records - 1) (o + 1) y ys bs cs a)
  where
    by : (t : Bool) → goes_on x y ≡ t
        → Agrees (batch_of c (o + 1) y (take (joining k y ys) ys) ∷ (batches_after c (joining k y ys) (o + 1 + 1) ys ++ bs)) (item_batch c (o + 1) y ∷ (singles_from c (o + 1 + 1) ys ++ cs))
        → Agrees (batch_of c (o + 1) y (take (behind c y ys) ys) ∷ (batches_after c (behind c y ys) (o + 1 + 1) ys ++ bs)) (item_batch c (o + 1) y ∷ (singles_from c (o + 1 + 1) ys ++ cs))
        → Agrees (batch_of c o x (take (if t then suc (joining k y ys) else 0) (y ∷ ys)) ∷ (batches_after c (if t then suc (joining k y ys) else 0) (o + 1) (y ∷ ys) ++ bs)) (item_batch c o x ∷ (singles_from c (o + 1) (y ∷ ys) ++ cs))
    by true e h g =
        agrees_joined c o x y (take (joining k y ys) ys) (batches_after c (joining k y ys) (o + 1 + 1) ys ++ bs) (item_batch c o x ∷ (singles_from c (o + 1) (y ∷ ys) ++ cs)) (writes_on x y e)
        (agrees_after (item_batch c o x) (batch_of c (o + 1) y (take (joining k y ys) ys) ∷ (batches_after c (joining k y ys) (o + 1 + 1) ys ++ bs)) (singles_from c (o + 1) (y ∷ ys) ++ cs) h)
    by false e h g = agrees_after (item_batch c o x) (batches_from c (o + 1) (y ∷ ys) ++ bs) (singles_from c (o + 1) (y ∷ ys) ++ cs) g

pub items_agree : (c : Config) (o : ℕ) (xs : List Item) (bs cs : List Batch) → Agrees bs cs → Agrees (batches_from c o xs ++ bs) (singles_from c o xs ++ cs)
items_agree c o [] bs cs a = a
items_agree c o (x ∷ xs) bs cs a = first_agrees c (c.batch_records - 1) o x xs bs cs a
