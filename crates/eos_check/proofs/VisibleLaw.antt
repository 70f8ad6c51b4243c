-- A record is visible exactly where its batch is of no transaction or its producer's next end marker is a commit.
use Rattle.std.proofs.Common.{◌≡◌, ℕ, suc, ◌+◌, ◌<◌, ◌≤◌, Bool, true, false, not, Option, Some, None, List, [], ◌∷◌, ◌++◌, length, refl, sym, ap, subst, ◌∙◌, ℤ, inl, inr, ◌⊎◌, arith}
use Rattle.std.specs.Prelude.{if◌then◌else◌}
use Rattle.std.proofs.lemmas.Bool.{cases_lt, false≢true}
use Rattle.eos_base.specs.Members.{Has}
use Rattle.eos_base.proofs.Membership.{append_cases, append_left, append_right, flat_has, has_flat, if_has, has_if, only, has_filter, filter_has}
use Rattle.eos_batch.specs.declared.batch.Batch.{Batch}
use Rattle.eos_batch.specs.declared.record.Record.{Record}
use Rattle.eos_batch.specs.declared.marker.Kind.{Kind}
use Rattle.eos_batch.specs.declared.marker.Kind.TheVariants.{Commit, Abort}
use Rattle.eos_batch.specs.Attributes.{is_control, is_transactional}
use Rattle.eos_evidence.specs.declared.partition.Partition.{Partition}
use Rattle.eos_fold.specs.declared.item.Item.{Item}
use Rattle.eos_fold.specs.declared.entry.Ending.{Ending}
use Rattle.eos_fold.specs.declared.entry.Ending.TheVariants.{Plain, Ended, Waiting}
use Rattle.eos_fold.specs.Batches.{DataBatch, fate_of}
use Rattle.eos_fold.specs.Items.{item_of, items_from, items_in}
use Rattle.eos_fold.specs.declared.mark.EndMark.{EndMark}
use Rattle.eos_fold.specs.Ends.{first_marker}
use Rattle.eos_batch.specs.Offsets.{offset_of}
use Rattle.eos_fold.specs.Parts.{PartLog}
use Rattle.eos_fold.specs.Settling.{ending_by, resolved, data_after, data_in}
use Rattle.eos_fold.proofs.SteadyFronts.{IsSteady, front_steady}
use Rattle.eos_commits.specs.Visible.{is_visible}
use Rattle.eos_commits.specs.EvidenceLogs.{IsLogOf}
use Rattle.eos_check.specs.VisibleRecords.{IsMarker, IsNextMarker, IsCommittedAt, IsVisibleAt, VisibleByMarkers}
use Rattle.eos_check.proofs.NextMarkers.{Rising, front_rises, same_batch, rest_rises, stands_behind, behind_greater, first_found, none_found}

-- ---- a data batch stands in the log, and the rest of it behind

abbrev in_log : Batch → List Batch → DataBatch
in_log b after = data_after b after

record IsDataAt (bs : List Batch) (d : DataBatch) : Type 0 where
  before : List Batch
  here : Batch
  after : List Batch
  parts : bs ≡ before ++ here ∷ after
  of_data : is_control here.attributes ≡ false
  same : in_log here after ≡ d

not_not : (b : Bool) → not b ≡ true → b ≡ false
not_not true e = absurd (false≢true e)
not_not false e = refl

data_found : (bs : List Batch) (d : DataBatch) → Has (data_in bs) d → IsDataAt bs d
data_found [] d h = absurd h
data_found (b ∷ bs) d h = elim (append_cases (if not (is_control b.attributes) then in_log b bs ∷ [] else []) (data_in bs) d h) [
  | inl a ↦ let r = if_has (not (is_control b.attributes)) (in_log b bs ∷ []) d a in
      record { before = []; here = b; after = bs; parts = refl; of_data = not_not (is_control b.attributes) r.0; same = only (in_log b bs) d r.1 }
  | inr k ↦ let r = data_found bs d k in
      record { before = b ∷ r.before; here = r.here; after = r.after; parts = ap (λ (xs : List Batch). b ∷ xs) r.parts; of_data = r.of_data; same = r.same }
]

has_data : (before after : List Batch) (b : Batch) → is_control b.attributes ≡ false → Has (data_in (before ++ b ∷ after)) (in_log b after)
has_data [] after b c =
    append_left (if not (is_control b.attributes) then in_log b after ∷ [] else []) (data_in after) (in_log b after)
    (has_if (not (is_control b.attributes)) (in_log b after ∷ []) (in_log b after) (ap not c) (inl refl))
has_data (x ∷ xs) after b c =
    append_right (if not (is_control x.attributes) then in_log x (xs ++ b ∷ after) ∷ [] else []) (data_in (xs ++ b ∷ after)) (in_log b after) (has_data xs after b c)

has_middle : (before after : List Batch) (b : Batch) → Has (before ++ b ∷ after) b
has_middle before after b = append_right before (b ∷ after) b (inl refl)

record IsAmong (bs : List Batch) (b : Batch) : Type 0 where
  before : List Batch
  after : List Batch
  parts : bs ≡ before ++ b ∷ after

among : (bs : List Batch) (b : Batch) → Has bs b → IsAmong bs b
among [] b h = absurd h
among (x ∷ xs) b (inl e) = record { before = []; after = xs; parts = ap (λ (y : Batch). y ∷ xs) e }
among (x ∷ xs) b (inr h) = let r = among xs b h in record { before = x ∷ r.before; after = r.after; parts = ap (λ (ys : List Batch). x ∷ ys) r.parts }

-- ---- the records of a batch

record IsItemOf (d : DataBatch) (low high : ℕ) (x : Item) : Type 0 where
  from : low ≤ x.offset
  before : x.offset < high
  fate : x.fate ≡ fate_of d.ending

in_batch : (d : DataBatch) (place : ℕ) (rs : List Record) (x : Item) → Has (items_from d place rs) x → IsItemOf d (d.offset + place) (d.offset + place + length rs) x
in_batch d place [] x h = absurd h
in_batch d place (r ∷ rs) x (inl e) =
    let o : d.offset + place ≡ x.offset = ap (λ (i : Item). i.offset) e in
    record { from = omega (arith, o); before = omega (arith, o); fate = ap (λ (i : Item). i.fate) (sym e) }
in_batch d place (r ∷ rs) x (inr h) =
    let i = in_batch d (suc place) rs x h in
    let f = i.from in
    let b = i.before in
    record { from = omega (arith, f); before = omega (arith, b); fate = i.fate }

record HasItemAt (d : DataBatch) (xs : List Item) (o : ℕ) : Type 0 where
  item : Item
  has : Has xs item
  offset : item.offset ≡ o
  fate : item.fate ≡ fate_of d.ending

item_at : (d : DataBatch) (place : ℕ) (rs : List Record) (o : ℕ) → d.offset + place ≤ o → o < d.offset + place + length rs → HasItemAt d (items_from d place rs) o
item_at d place [] o l h = absurd (omega (arith, l, h))
item_at d place (r ∷ rs) o l h = elim (cases_lt (d.offset + place) o) [
  | inl less ↦ let i = item_at d (suc place) rs o (omega (arith, less)) (omega (arith, h)) in
      record { item = i.item; has = inr i.has; offset = i.offset; fate = i.fate }
  | inr more ↦ record { item = item_of d place r; has = inl refl; offset = omega (arith, l, more); fate = refl }
]

-- ---- what an ending means

-- of a transaction or not, it ends by the first marker behind
ending_is : (b : Batch) (after : List Batch) (test : Bool) → is_transactional b.attributes ≡ test
    → (in_log b after).ending ≡ resolved (λ id. first_marker id after) (if test then Waiting b.producer else Plain)
ending_is b after test t = ap (λ (x : Bool). resolved (λ id. first_marker id after) (if x then Waiting b.producer else Plain)) t

plain_ending : (b : Batch) (after : List Batch) → is_transactional b.attributes ≡ false → (in_log b after).ending ≡ Plain
plain_ending b after t = ending_is b after false t

open_ending : (b : Batch) (after : List Batch) → is_transactional b.attributes ≡ true → (in_log b after).ending ≡ ending_by b.producer (first_marker b.producer after)
open_ending b after t = ending_is b after true t

commit_seen : (e : ℤ) (k : Kind) → is_visible (fate_of (Ended e k)) ≡ true → k ≡ Commit
commit_seen e Commit v = refl
commit_seen e Abort v = absurd (false≢true v)

seen : (id : ℤ) (o : Option EndMark) → is_visible (fate_of (ending_by id o)) ≡ true → (m : EndMark) × (o ≡ Some m) × (m.kind ≡ Commit)
seen id None v = absurd (false≢true v)
seen id (Some m) v = (m, refl, commit_seen m.epoch m.kind v)

-- ---- both ways, of a batch in its place

abbrev Ends : List Batch → Batch → Type 0
Ends bs b = (is_transactional b.attributes ≡ false) ⊎ ((m : Batch) × IsNextMarker bs b Commit m)

ends_so : (before after : List Batch) (b : Batch) → Rising 0 (before ++ b ∷ after) → is_control b.attributes ≡ false
    → is_visible (fate_of (in_log b after).ending) ≡ true → Ends (before ++ b ∷ after) b
ends_so before after b rises c v = by_test (is_transactional b.attributes) refl
  where
    by_test : (test : Bool) → is_transactional b.attributes ≡ test → Ends (before ++ b ∷ after) b
    by_test false t = inl t
    by_test true t =
        let ending = open_ending b after t in
        let s = seen b.producer (first_marker b.producer after) (subst (λ (x : Ending). is_visible (fate_of x) ≡ true) ending v) in
        let f = first_found (offset_of b + 1) b.producer after s.0 (rest_rises 0 before after b rises) s.1 in
        inr (
          f.0,
          record {
            among = append_right before (b ∷ after) f.0 (inr f.1.among);
            marks = subst (λ (k : Kind). IsMarker b.producer k f.0) s.2 f.1.marks;
            greater = behind_greater 0 before after b f.0 rises f.1.among;
            least = λ n other h k g. f.1.least n other (stands_behind 0 before after b n rises h g) k;
          },
        )

commit_of : (id : ℤ) (m n : Batch) (k l : Kind) → m ≡ n → IsMarker id k m → IsMarker id l n → k ≡ l
commit_of id m n k l e p q =
    let there : IsMarker id k n = subst (IsMarker id k) e p in
    sym there.of_kind ∙ (ap (λ x. x.kind) (some_is there.marker q.marker (sym there.content ∙ q.content)) ∙ q.of_kind)
  where
    some_is : (x y : Rattle.eos_batch.specs.declared.marker.Marker.Marker) → Some x ≡ Some y → x ≡ y
    some_is x y e = cc

is_seen : (before after : List Batch) (b : Batch) → Rising 0 (before ++ b ∷ after) → is_control b.attributes ≡ false
    → Ends (before ++ b ∷ after) b → is_visible (fate_of (in_log b after).ending) ≡ true
is_seen before after b rises c (inl t) = ap (λ (x : Ending). is_visible (fate_of x)) (plain_ending b after t)
is_seen before after b rises c (inr (m, next)) = by_test (is_transactional b.attributes) refl
  where
    behind : Has after m
    behind = stands_behind 0 before after b m rises next.among next.greater

    -- the first marker behind is the next
    same_kind : (e : EndMark) → first_marker b.producer after ≡ Some e → e.kind ≡ Commit
    same_kind e q =
        let f = first_found (offset_of b + 1) b.producer after e (rest_rises 0 before after b rises) q in
        let less = f.1.least m Commit behind next.marks in
        let more = next.least f.0 e.kind (append_right before (b ∷ after) f.0 (inr f.1.among)) f.1.marks (behind_greater 0 before after b f.0 rises f.1.among) in
        let one : f.0 ≡ m = same_batch 0 (before ++ b ∷ after) f.0 m rises (append_right before (b ∷ after) f.0 (inr f.1.among)) next.among (omega (arith, less, more)) in
        commit_of b.producer f.0 m e.kind Commit one f.1.marks next.marks

    by_first : (o : Option EndMark) → first_marker b.producer after ≡ o → is_visible (fate_of (ending_by b.producer o)) ≡ true
    by_first None q = absurd (none_found b.producer after q m Commit behind next.marks)
    by_first (Some e) q = ap (λ (k : Kind). is_visible (fate_of (Ended e.epoch k))) (same_kind e q)

    by_test : (test : Bool) → is_transactional b.attributes ≡ test → is_visible (fate_of (in_log b after).ending) ≡ true
    by_test false t = ap (λ (x : Ending). is_visible (fate_of x)) (plain_ending b after t)
    by_test true t =
        ap (λ (x : Ending). is_visible (fate_of x)) (open_ending b after t)
        ∙ by_first (first_marker b.producer after) refl

-- ---- the law

pub law : (p : Partition) (log : PartLog) (of : IsLogOf p log) → VisibleByMarkers of.batches log
law p log of offset = (forward, backward)
  where
    bs : List Batch
    bs = of.batches

    steady : IsSteady 0 bs
    steady = front_steady 0 p.segments of.batches of.stop of.front

    rises : Rising 0 bs
    rises = front_rises 0 bs steady.continuous steady.counted

    forward : IsVisibleAt log offset → (b : Batch) × IsCommittedAt bs offset b
    forward (x, has, at) =
        let shown = filter_has (λ (y : Item). is_visible y.fate) log.items x has in
        let held = flat_has items_in (data_in bs) x (subst (λ (xs : List Item). Has xs x) of.log.items shown.0) in
        let d = data_found bs held.0 held.1 in
        let i = in_batch held.0 0 held.0.records x held.2 in
        let begins : held.0.offset ≡ offset_of d.here = ap (λ (y : DataBatch). y.offset) (sym d.same) in
        let count : length held.0.records ≡ length d.here.records = ap (λ (y : DataBatch). length y.records) (sym d.same) in
        let low = i.from in
        let high = i.before in
        let v : is_visible (fate_of (in_log d.here d.after).ending) ≡ true =
        ap (λ (y : DataBatch). is_visible (fate_of y.ending)) d.same ∙ (ap is_visible (sym i.fate) ∙ shown.1) in (
          d.here,
          record {
            among = subst (λ (xs : List Batch). Has xs d.here) (sym d.parts) (has_middle d.before d.after d.here);
            of_data = d.of_data;
            from = omega (arith, low, begins, at);
            before = omega (arith, high, begins, count, at);
            committed = subst (λ (xs : List Batch). Ends xs d.here) (sym d.parts) (ends_so d.before d.after d.here (subst (Rising 0) d.parts rises) d.of_data v);
          },
        )

    backward : (b : Batch) × IsCommittedAt bs offset b → IsVisibleAt log offset
    backward (b, h) =
        let at = among bs b h.among in
        let v = is_seen at.before at.after b (subst (Rising 0) at.parts rises) h.of_data (subst (λ (xs : List Batch). Ends xs b) at.parts h.committed) in
        let low = h.from in
        let high = h.before in
        let d = in_log b at.after in
        let i = item_at d 0 d.records offset (omega (arith, low)) (omega (arith, high)) in
        let inside : Has (data_in bs) d = subst (λ (xs : List Batch). Has (data_in xs) d) (sym at.parts) (has_data at.before at.after b h.of_data) in
        let held : Has log.items i.item = subst (λ (xs : List Item). Has xs i.item) (sym of.log.items) (has_flat items_in (data_in bs) d i.item inside i.has) in
        (i.item, has_filter (λ (y : Item). is_visible y.fate) log.items i.item held (ap is_visible i.fate ∙ v), i.offset)
