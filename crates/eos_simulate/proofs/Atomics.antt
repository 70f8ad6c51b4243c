-- Every transaction of a cluster at rest is committed in all its partitions or aborted in all.
use Rattle.std.proofs.Common.{◌≡◌, ℕ, zero, suc, ◌+◌, ◌<◌, ◌≤◌, ◌==◌, pos, Bool, true, false, List, [], ◌∷◌, ◌++◌, length, Option, Some, None, refl, sym, ap, subst, ◌∙◌, arith, inl, inr}
use Rattle.std.specs.Prelude.{slice_index_or, if◌then◌else◌, ⊤}
use Rattle.std.specs.Option.{option_or, option_to_list}
use Rattle.std.specs.List.{Contains, cons_option}
use Rattle.std.proofs.lemmas.Bool.{cases_lt, eqb-true, eq-eqb}
use Rattle.std.proofs.lemmas.List.Elements.{All-contains}
use Rattle.eos_base.specs.Members.{Has}
use Rattle.eos_base.specs.declared.partition_name.PartitionName.{PartitionName}
use Rattle.eos_base.proofs.Membership.{append_cases}
use Rattle.eos_batch.specs.declared.batch.Batch.{Batch}
use Rattle.eos_batch.specs.declared.marker.Kind.{Kind}
use Rattle.eos_batch.specs.declared.marker.Marker.{Marker as EndMarker}
use Rattle.eos_touch.specs.declared.touch.Touch.TheVariants.{End}
use Rattle.eos_txnlog.specs.declared.decision.Decision.{Decision}
use Rattle.eos_fold.specs.declared.mark.EndMark.{EndMark}
use Rattle.eos_batch.specs.Offsets.{offset_of}
use Rattle.eos_fold.specs.Ends.{is_data, mark_in, mark_for, first_marker}
use Rattle.eos_fold.specs.declared.close.Close.{Close}
use Rattle.eos_fold.specs.Closes.{close_by, close_of, closes_of}
use Rattle.eos_batch.specs.Marker.{markers_of}
use Rattle.eos_fold.specs.Parts.{part_name, PartLog}
use Rattle.eos_touch.specs.Touches.{touch_of}
use Rattle.eos_txnlog.specs.PartitionSets.{names_of}
use Rattle.eos_table.specs.Atomic.{IsOf, EndsAs, Ends, Atomic}
use Rattle.eos_table.specs.TransactionLog.{transaction_parts}
use Rattle.eos_table.specs.TransactionLog as table
use Rattle.eos_machine.specs.declared.config.Config.{Config}
use Rattle.eos_machine.specs.declared.item.Item.{Item}
use Rattle.eos_machine.specs.declared.item.Item.TheVariants.{Fed, State, Output, Offset, Marker}
use Rattle.eos_machine.specs.LogIndexes.{log_count}
use Rattle.eos_machine.specs.World.{World, log_at}
use Rattle.eos_machine.specs.Application as app
use Rattle.eos_machine.specs.Application.{Mark, IsOrdered, IsClosed, Fate, Matched, Never, first_end, Decision as Decided}
use Rattle.eos_machine.specs.Logs.{marks_of}
use Rattle.eos_machine.specs.Rest.{producer_id, decisions_of, marks_at, by_topic}
use Rattle.eos_simulate.proofs.Singles.{item_batch, singles_from}
use Rattle.eos_simulate.proofs.LogTouches.{end_marker, item_touch, item_marker, marker_is, touch_is, same_producer}
use Rattle.eos_simulate.proofs.ListedNames.{has_contained, contains_had, name_at, listed_at, at_listed}
use Rattle.eos_simulate.proofs.Settled.{IsSettled, IsLog, AreAt, in_logs, at_logs}
use Rattle.eos_simulate.proofs.TxnRules.{as_decision}
use Rattle.eos_simulate.proofs.Decisions.{decision_of_all, all_decisions, once}

-- ---- marks of an application among the items

-- what an item is to an application
abbrev own_mark : ℕ → ℕ → Mark → Option Mark
own_mark b a m = if b == a then Some m else None

matched_rest : (O : ℕ → Type 0) (ds : List Decided) (p : ℕ) (b a : ℕ) (m : Mark) (ts : List Mark) → Matched O ds p (cons_option (own_mark b a m) ts) → Matched O ds p ts
matched_rest O ds p b a m ts h = elim (b == a) as (λ t. Matched O ds p (cons_option (if t then Some m else None) ts) → Matched O ds p ts) [
  | true ↦ λ k. by m k
  | false ↦ λ k. k
] h
  where
    by : (m : Mark) → Matched O ds p (m ∷ ts) → Matched O ds p ts
    by (app.Batch e q) k = k.1
    by (app.End e j) k = k.1

abbrev pub AllMatched : (ℕ → List Decided) → ℕ → List Item → Type 0
AllMatched ds p xs = (a : ℕ) → Matched Never (ds a) p (marks_of a xs)

all_rest : (ds : ℕ → List Decided) (p : ℕ) (x : Item) (xs : List Item) → AllMatched ds p (x ∷ xs) → AllMatched ds p xs
all_rest ds p (Fed n) xs h = h
all_rest ds p (State b x n) xs h = h
all_rest ds p (Output b e s x v n) xs h = λ a. matched_rest Never (ds a) p b a (app.Batch e (Some s)) (marks_of a xs) (h a)
all_rest ds p (Offset b e q v n) xs h = λ a. matched_rest Never (ds a) p b a (app.Batch e None) (marks_of a xs) (h a)
all_rest ds p (Marker b e k n) xs h = λ a. matched_rest Never (ds a) p b a (app.End e k) (marks_of a xs) (h a)

own_head : (O : ℕ → Type 0) (ds : List Decided) (p b : ℕ) (m : Mark) (ts : List Mark) → Matched O ds p (cons_option (own_mark b b m) ts) → Matched O ds p (m ∷ ts)
own_head O ds p b m ts h = rw (eq-eqb b b refl) at h

-- ---- the first marker behind

abbrev pub AreEnd : Option EndMark → Option (ℕ × Kind) → Type 0
AreEnd None None = ⊤
AreEnd None (Some k) = ⊥
AreEnd (Some m) None = ⊥
AreEnd (Some m) (Some k) = (m.epoch ≡ pos k.0) × (m.kind ≡ k.1)

touch_step : (c : Config) (o : ℕ) (x : Item) → touch_of (item_batch c o x) ≡ item_touch x
touch_step c o x = touch_is c o x

first_step : (c : Config) (a o : ℕ) (x : Item) (xs : List Item) → first_marker (producer_id a) (singles_from c o (x ∷ xs)) ≡ option_or (mark_for (producer_id a) (mark_in (offset_of (item_batch c o x)) (item_touch x))) (first_marker (producer_id a) (singles_from c (o + 1) xs))
first_step c a o x xs = ap (λ t. option_or (mark_for (producer_id a) (mark_in (offset_of (item_batch c o x)) t)) (first_marker (producer_id a) (singles_from c (o + 1) xs))) (touch_step c o x)

skips : (a b : ℕ) (e : ℕ) (q : Option ℕ) (o : Option EndMark) (ts : List Mark) → AreEnd o (first_end ts) → AreEnd o (first_end (cons_option (own_mark b a (app.Batch e q)) ts))
skips a b e q o ts h = elim (b == a) as (λ t. AreEnd o (first_end (cons_option (if t then Some (app.Batch e q) else None) ts))) [ true ↦ h | false ↦ h ]

ends_here : (a b e at : ℕ) (k : Kind) (o : Option EndMark) (ts : List Mark) → AreEnd o (first_end ts)
    → AreEnd (option_or (mark_for (producer_id a) (Some (record { offset = at; producer = producer_id b; epoch = pos e; kind = k }))) o) (first_end (cons_option (own_mark b a (app.End e k)) ts))
ends_here a b e at k o ts h =
    subst (λ t. AreEnd (option_or (if t then Some (record { offset = at; producer = producer_id b; epoch = pos e; kind = k }) else None) o) (first_end (cons_option (own_mark b a (app.End e k)) ts))) (sym (same_producer a b)) (by (b == a))
  where
    by : (t : Bool) → AreEnd (option_or (if t then Some (record { offset = at; producer = producer_id b; epoch = pos e; kind = k }) else None) o) (first_end (cons_option (if t then Some (app.End e k) else None) ts))
    by true = (refl, refl)
    by false = h

first_is : (c : Config) (a o : ℕ) (xs : List Item) → AreEnd (first_marker (producer_id a) (singles_from c o xs)) (first_end (marks_of a xs))
first_is c a o [] = tt
first_is c a o (x ∷ xs) = subst (λ m. AreEnd m (first_end (marks_of a (x ∷ xs)))) (sym (first_step c a o x xs)) (by x (first_is c a (o + 1) xs))
  where
    others : Option EndMark
    others = first_marker (producer_id a) (singles_from c (o + 1) xs)

    by : (x : Item) → AreEnd others (first_end (marks_of a xs)) → AreEnd (option_or (mark_for (producer_id a) (mark_in (offset_of (item_batch c o x)) (item_touch x))) others) (first_end (marks_of a (x ∷ xs)))
    by (Fed n) h = h
    by (State b y n) h = h
    by (Output b e s y v n) h = skips a b e (Some s) others (marks_of a xs) h
    by (Offset b e q v n) h = skips a b e None others (marks_of a xs) h
    by (Marker b e k n) h = ends_here a b e (offset_of (item_batch c o (Marker b e k n))) k others (marks_of a xs) h

-- ---- closes

pub record IsCloseAt (ds : ℕ → List Decided) (p : ℕ) (co : Close) : Type 0 where
  pub app : ℕ
  pub from : ℕ
  pub to : ℕ
  pub kind : Kind
  pub producer : co.producer ≡ producer_id app
  pub epoch : co.epoch ≡ pos from
  pub marker_epoch : co.marker_epoch ≡ pos to
  pub same_kind : co.kind ≡ kind
  pub closed : IsClosed (ds app) p from to kind

closed_by : (ds : ℕ → List Decided) (p a e : ℕ) (m : Option EndMark) (k : Option (ℕ × Kind)) (co : Close) → AreEnd m k → Fate Never (ds a) p e k → Has (close_by (producer_id a) (pos e) m) co → IsCloseAt ds p co
closed_by ds p a e None k co r f h = absurd h
closed_by ds p a e (Some m) None co r f h = absurd r
closed_by ds p a e (Some m) (Some k) co r f (inr h) = absurd h
closed_by ds p a e (Some m) (Some k) co r f (inl h) = record {
  app = a;
  from = e;
  to = k.0;
  kind = k.1;
  producer = ap (λ (x : Close). x.producer) (sym h);
  epoch = ap (λ (x : Close). x.epoch) (sym h);
  marker_epoch = ap (λ (x : Close). x.marker_epoch) (sym h) ∙ r.0;
  same_kind = ap (λ (x : Close). x.kind) (sym h) ∙ r.1;
  closed = f;
}

each_close : (c : Config) (ds : ℕ → List Decided) (p o : ℕ) (xs : List Item) → AllMatched ds p xs → (co : Close) → Has (closes_of (singles_from c o xs)) co → IsCloseAt ds p co
each_close c ds p o [] h co m = absurd m
each_close c ds p o (x ∷ xs) h co m = by x h m (each_close c ds p (o + 1) xs (all_rest ds p x xs h) co)
  where
    by : (x : Item) → AllMatched ds p (x ∷ xs)
        → Has ((if is_data (item_batch c o x) then close_of (item_batch c o x) (singles_from c (o + 1) xs) else []) ++ closes_of (singles_from c (o + 1) xs)) co
        → (Has (closes_of (singles_from c (o + 1) xs)) co → IsCloseAt ds p co) → IsCloseAt ds p co
    by (Fed n) h m later = later m
    by (State b y n) h m later = later m
    by (Marker b e k n) h m later = later m
    by (Output b e s y v n) h m later = elim (append_cases (close_by (producer_id b) (pos e) (first_marker (producer_id b) (singles_from c (o + 1) xs))) (closes_of (singles_from c (o + 1) xs)) co m) [
      | inl z ↦ closed_by ds p b e _ (first_end (marks_of b xs)) co (first_is c b (o + 1) xs) (own_head Never (ds b) p b (app.Batch e (Some s)) (marks_of b xs) (h b)).0 z
      | inr z ↦ later z
    ]
    by (Offset b e q v n) h m later = elim (append_cases (close_by (producer_id b) (pos e) (first_marker (producer_id b) (singles_from c (o + 1) xs))) (closes_of (singles_from c (o + 1) xs)) co m) [
      | inl z ↦ closed_by ds p b e _ (first_end (marks_of b xs)) co (first_is c b (o + 1) xs) (own_head Never (ds b) p b (app.Batch e None) (marks_of b xs) (h b)).0 z
      | inr z ↦ later z
    ]

-- ---- markers

marker_step : (c : Config) (o : ℕ) (x : Item) (xs : List Item) → markers_of (singles_from c o (x ∷ xs)) ≡ option_to_list (item_marker x) ++ markers_of (singles_from c (o + 1) xs)
marker_step c o x xs = ap (λ t. option_to_list t ++ markers_of (singles_from c (o + 1) xs)) (marker_is c o x)

pub record IsMarkerAt (ds : ℕ → List Decided) (p : ℕ) (m : EndMarker) : Type 0 where
  pub app : ℕ
  pub to : ℕ
  pub kind : Kind
  pub is : m ≡ end_marker app to kind
  pub ordered : IsOrdered (ds app) p to kind

each_marker : (c : Config) (ds : ℕ → List Decided) (p o : ℕ) (xs : List Item) → AllMatched ds p xs → (m : EndMarker) → Has (markers_of (singles_from c o xs)) m → IsMarkerAt ds p m
each_marker c ds p o [] h m i = absurd i
each_marker c ds p o (x ∷ xs) h m i = by x h (subst (λ l. Has l m) (marker_step c o x xs) i) (each_marker c ds p (o + 1) xs (all_rest ds p x xs h) m)
  where
    by : (x : Item) → AllMatched ds p (x ∷ xs) → Has (option_to_list (item_marker x) ++ markers_of (singles_from c (o + 1) xs)) m → (Has (markers_of (singles_from c (o + 1) xs)) m → IsMarkerAt ds p m) → IsMarkerAt ds p m
    by (Fed n) h i later = later i
    by (State b y n) h i later = later i
    by (Output b e s y v n) h i later = later i
    by (Offset b e q v n) h i later = later i
    by (Marker b e k n) h (inl q) later = record { app = b; to = e; kind = k; is = sym q; ordered = (own_head Never (ds b) p b (app.End e k) (marks_of b xs) (h b)).0 }
    by (Marker b e k n) h (inr q) later = later q

-- an application's marker is there
has_marker : (c : Config) (a o m : ℕ) (k : Kind) (xs : List Item) → Has (marks_of a xs) (app.End m k) → Has (markers_of (singles_from c o xs)) (end_marker a m k)
has_marker c a o m k [] h = absurd h
has_marker c a o m k (x ∷ xs) h = subst (λ l. Has l (end_marker a m k)) (sym (marker_step c o x xs)) (by x h (has_marker c a (o + 1) m k xs))
  where
    no_batch : (e : ℕ) (q : Option ℕ) → app.Batch e q ≡ app.End m k → ⊥
    no_batch e q r = cc

    end_is : (e : ℕ) (j : Kind) → app.End e j ≡ app.End m k → (e ≡ m) × (j ≡ k)
    end_is e j r = (cc, cc)

    passed : (b e : ℕ) (q : Option ℕ) → Has (cons_option (own_mark b a (app.Batch e q)) (marks_of a xs)) (app.End m k) → Has (marks_of a xs) (app.End m k)
    passed b e q i = elim (b == a) as (λ t. Has (cons_option (if t then Some (app.Batch e q) else None) (marks_of a xs)) (app.End m k) → Has (marks_of a xs) (app.End m k)) [
      | true ↦ λ j. elim j [ inl r ↦ absurd (no_batch e q r) | inr r ↦ r ]
      | false ↦ λ j. j
    ] i

    by : (x : Item) → Has (marks_of a (x ∷ xs)) (app.End m k) → (Has (marks_of a xs) (app.End m k) → Has (markers_of (singles_from c (o + 1) xs)) (end_marker a m k))
        → Has (option_to_list (item_marker x) ++ markers_of (singles_from c (o + 1) xs)) (end_marker a m k)
    by (Fed n) i later = later i
    by (State b y n) i later = later i
    by (Output b e s y v n) i later = later (passed b e (Some s) i)
    by (Offset b e q v n) i later = later (passed b e None i)
    by (Marker b e j n) i later = elim (b == a) as (λ t. (b == a) ≡ t → Has (cons_option (if t then Some (app.End e j) else None) (marks_of a xs)) (app.End m k) → Has (end_marker b e j ∷ markers_of (singles_from c (o + 1) xs)) (end_marker a m k)) [
      | true ↦ λ q z. elim z [
        | inl r ↦ let f = end_is e j r in let d = eqb-true b a q in inl (λ t. end_marker (d t) (f.0 t) (f.1 t))
        | inr r ↦ inr (later r)
      ]
      | false ↦ λ q z. inr (later z)
    ] refl i

-- ---- the rule

name_is : (c : Config) (w : World) (q : ℕ) (l : PartLog) → IsLog c w q l → part_name l ≡ name_at c q
name_is c w q l h = λ i. record { topic = h.topic i; partition = h.number i }

beyond : (ls : List (List Item)) (q : ℕ) → length ls ≤ q → slice_index_or ls q [] ≡ []
beyond [] q h = refl
beyond (l ∷ ls) zero h = absurd (omega (arith, h))
beyond (l ∷ ls) (suc q) h = beyond ls q (omega (arith, h))

-- a place with a mark is a partition
is_there : (c : Config) (w : World) (a q : ℕ) (t : Mark) → IsSettled c w → Has (marks_at w a q) t → q < log_count c
is_there c w a q t s h = elim (cases_lt q (length w.logs)) [
  | inl l ↦ omega (arith, l, s.good.logs)
  | inr l ↦ absurd (subst (λ xs. Has (marks_of a xs) t) (beyond w.logs q l) h)
]

pub is_atomic : (c : Config) (w : World) (ls : List PartLog) → IsSettled c w → AreAt c w 0 (log_count c) ls → Atomic (table.decisions_of (transaction_parts ls)) ls
is_atomic c w ls s at = record { once = once c w ls s at; decided = decided; marked = marked; no_stray = no_stray }
  where
    matched : (p : ℕ) → AllMatched (decisions_of c w) p (log_at w p)
    matched p = λ a. (s.atomic a).matched p

    -- a decision that lists the place
    listing : (q a m : ℕ) (k : Kind) (l : PartLog) → IsLog c w q l → (o : IsOrdered (decisions_of c w a) q m k)
        → Has (table.decisions_of (transaction_parts ls)) (as_decision c a o.decision) × Has (names_of (by_topic c o.decision.partitions)) (part_name l)
    listing q a m k l h o = (
      all_decisions c w ls a o.decision s at (has_contained (decisions_of c w a) o.decision o.member),
      subst (Has (names_of (by_topic c o.decision.partitions))) (sym (name_is c w q l h)) (at_listed c o.decision.partitions q (has_contained o.decision.partitions q o.listed)),
    )

    decided : (l : PartLog) (cl : Close) → Has ls l → Has l.closes cl → (d : Decision) × Has (table.decisions_of (transaction_parts ls)) d × IsOf d cl × EndsAs d cl × Has (names_of d.partitions) (part_name l)
    decided l cl h m =
        let r = in_logs c w 0 (log_count c) ls at l h in
        let i = each_close c (decisions_of c w) r.0 0 (log_at w r.0) (matched r.0) cl ((r.3.closes.members cl).0 m) in
        let o = i.closed.ordered in
        let x = listing r.0 i.app i.to i.kind l r.3 o in (
          as_decision c i.app o.decision,
          x.0,
          record { producer = sym i.producer; epoch = ap pos i.closed.from ∙ sym i.epoch },
          record { epoch = ap pos o.to ∙ sym i.marker_epoch; kind = o.kind ∙ sym i.same_kind },
          x.1,
        )

    marked : (d : Decision) (n : PartitionName) → Has (table.decisions_of (transaction_parts ls)) d → Has (names_of d.partitions) n → (l : PartLog) × Has ls l × (part_name l ≡ n) × (m : EndMarker) × Has l.markers m × Ends d m
    marked d n h k =
        let r = decision_of_all c w ls d s at h in
        let dd = r.1.decision in
        let p = listed_at c dd.partitions n (subst (λ (z : Decision). Has (names_of z.partitions) n) r.1.is k) in
        let there = All-contains (λ e. (q : ℕ) → Contains e.partitions q → Contains (marks_at w r.0 q) (app.End e.to e.kind)) (decisions_of c w r.0) dd (s.atomic r.0).delivered (contains_had (decisions_of c w r.0) dd r.1.member) in
        let mark = has_contained (marks_at w r.0 p.0) (app.End dd.to dd.kind) (there p.0 (contains_had dd.partitions p.0 p.1)) in
        let here = is_there c w r.0 p.0 (app.End dd.to dd.kind) s mark in
        let l = at_logs c w 0 (log_count c) ls at p.0 (omega arith) (omega (arith, here)) in (
          l.0,
          l.1,
          name_is c w p.0 l.0 l.2 ∙ sym p.2,
          end_marker r.0 dd.to dd.kind,
          subst (λ ms. Has ms (end_marker r.0 dd.to dd.kind)) (sym l.2.markers) (has_marker c r.0 0 dd.to dd.kind (log_at w p.0) mark),
          record { producer = ap (λ (z : Decision). z.producer) r.1.is; epoch = ap (λ (z : Decision). z.marker_epoch) r.1.is; kind = ap (λ (z : Decision). z.kind) r.1.is },
        )

    no_stray : (l : PartLog) (m : EndMarker) → Has ls l → Has l.markers m → (d : Decision) × Has (table.decisions_of (transaction_parts ls)) d × Ends d m × Has (names_of d.partitions) (part_name l)
    no_stray l m h k =
        let r = in_logs c w 0 (log_count c) ls at l h in
        let i = each_marker c (decisions_of c w) r.0 0 (log_at w r.0) (matched r.0) m (subst (λ ms. Has ms m) r.3.markers k) in
        let o = i.ordered in
        let x = listing r.0 i.app i.to i.kind l r.3 o in (
          as_decision c i.app o.decision,
          x.0,
          record { producer = ap (λ (z : EndMarker). z.producer) (sym i.is); epoch = ap pos o.to ∙ ap (λ (z : EndMarker). z.epoch) (sym i.is); kind = o.kind ∙ ap (λ (z : EndMarker). z.kind) (sym i.is) },
          x.1,
        )
