-- The tables, one claim or one commit further.
use Rattle.std.proofs.Common.{◌≡◌, ℕ, ◌+◌, ◌<◌, ℤ, List, [], ◌∷◌, ◌++◌, length, map, take, get_or, Option, Some, None, option_map, refl, sym, ap, ◌∙◌, true, false, Bool, ◌&&◌, cond, if◌then◌else◌}
use Rattle.std.specs.BTreeMap.{BTreeMap, get}
use Rattle.std.specs.Ordering.{int_cmp, ordering_then, is_eq}
use Rattle.std.specs.declared.cmp.Ordering.{Ordering}
use Rattle.std.specs.declared.cmp.Ordering.TheVariants.{Less, Equal, Greater}
use Rattle.std.proofs.lemmas.List.{map-append, take_more}
use Rattle.std.proofs.lemmas.List.Sums.{fold-append}
use Rattle.eos_base.specs.declared.partition_name.PartitionName.{PartitionName}
use Rattle.eos_base.specs.PartitionNames.{name_cmp}
use Rattle.eos_base.proofs.Exact.{is_tied, int_exact, then_parts}
use Rattle.eos_base.proofs.NamesInOrder.{name_exact}
use Rattle.eos_claims.specs.Outputs.{Writer, Commit}
use Rattle.eos_claims.specs.Candidates.{is_by}
use Rattle.eos_faults.specs.declared.commits.Offset.{Offset}
use Rattle.eos_faults.specs.declared.commits.PassKey.{PassKey}
use Rattle.eos_faults.specs.steps.Plain.{name_at, by_name}
use Rattle.eos_faults.specs.steps.Tables.{writer_of, pass_view, key_by, by_pass, further, is_of, next_reach, reach_of, AreReached}

-- ---- lists

-- what a loop has seen, one item further
pub seen_more : {X Y : Type 0} (v : X → Y) (xs : List X) (i : ℕ) (d : X) → i < length xs → map v (take i xs) ++ v (get_or xs i d) ∷ [] ≡ map v (take (i + 1) xs)
seen_more v xs i d lt = sym (ap (map v) (take_more xs i d lt) ∙ map-append v (take i xs) (get_or xs i d ∷ []))

eq_then : (a b : Ordering) → is_eq (ordering_then a b) ≡ (is_eq a && is_eq b)
eq_then Less b = refl
eq_then Equal b = refl
eq_then Greater b = refl

and_assoc : (a b c : Bool) → (a && (b && c)) ≡ ((a && b) && c)
and_assoc true b c = refl
and_assoc false b c = refl

-- ---- how far each transaction committed

no_key : (w : Option Writer) (n : PartitionName) → key_by w n ≡ None → w ≡ None
no_key None n e = refl
no_key (Some w) n e = absurd cc

a_key : (w : Option Writer) (n : PartitionName) (v : Writer) (m : PartitionName) → Some (v, m) ≡ key_by w n → (w ≡ Some v) × (m ≡ n)
a_key None n v m e = absurd cc
a_key (Some w) n v m e = inside e
  where
    pair : Writer → PartitionName → Writer × PartitionName
    pair w n = (w, n)

    inside : Some (pair v m) ≡ Some (pair w n) → (Some w ≡ Some v) × (m ≡ n)
    inside e = let q : pair v m ≡ pair w n = cc in (ap (λ (k : Writer × PartitionName). Some k.0) (sym q), ap (λ (k : Writer × PartitionName). k.1) q)

pub reach_past : (reached : BTreeMap PassKey Offset) (before : List Commit) (m : Commit) → AreReached reached before → key_by m.writer m.partition ≡ None → AreReached reached (before ++ m ∷ [])
reach_past reached before m are is = λ k. are k ∙ sym (fold-append (next_reach (writer_of k) (name_at k.partition)) none before (m ∷ []) ∙ unmoved k (reach_of before (writer_of k) (name_at k.partition)))
  where
    none : Option ℤ
    none = None

    e : m.writer ≡ None
    e = no_key m.writer m.partition is

    unmoved : (k : PassKey) (r : Option ℤ) → next_reach (writer_of k) (name_at k.partition) r m ≡ r
    unmoved k r = ap (λ w. if is_by w (writer_of k) && is_eq (name_cmp m.partition (name_at k.partition)) then Some (further r m.offset) else r) e

pub reach_more : (reached new : BTreeMap PassKey Offset) (before : List Commit) (m : Commit) (key : PassKey) (known : Option Offset) (reach : Offset) → AreReached reached before
    → Some (pass_view key) ≡ key_by m.writer m.partition → known ≡ get by_pass reached key → reach.offset ≡ further (option_map (λ o. o.offset) known) m.offset
    → ((k : PassKey) → get by_pass new k ≡ cond (is_eq (by_pass key k)) (Some reach) (get by_pass reached k)) → AreReached new (before ++ m ∷ [])
reach_more reached new before m key known reach are key_is is far put =
    λ k. ap (option_map offset_of) (put k) ∙ (go k (is_eq (by_pass key k)) refl ∙ sym (fold-append (next_reach (writer_of k) (name_at k.partition)) none before (m ∷ []) ∙ tested k (reach_of before (writer_of k) (name_at k.partition))))
  where
    none : Option ℤ
    none = None

    writer : m.writer ≡ Some (writer_of key)
    writer = (a_key m.writer m.partition (writer_of key) (name_at key.partition) key_is).0

    name : name_at key.partition ≡ m.partition
    name = (a_key m.writer m.partition (writer_of key) (name_at key.partition) key_is).1

    offset_of : Offset → ℤ
    offset_of o = o.offset

    same_test : (k : PassKey) → is_of (writer_of k) (name_at k.partition) m ≡ is_eq (by_pass key k)
    same_test k =
        ap (λ w. is_by w (writer_of k) && is_eq (name_cmp m.partition (name_at k.partition))) writer
        ∙ (ap (λ n. is_by (Some (writer_of key)) (writer_of k) && is_eq (name_cmp n (name_at k.partition))) (sym name)
        ∙ (sym (and_assoc (is_eq (int_cmp key.producer k.producer)) (is_eq (int_cmp key.epoch k.epoch)) (is_eq (by_name key.partition k.partition)))
        ∙ (ap (λ b. is_eq (int_cmp key.producer k.producer) && b) (sym (eq_then (int_cmp key.epoch k.epoch) (by_name key.partition k.partition)))
        ∙ sym (eq_then (int_cmp key.producer k.producer) (ordering_then (int_cmp key.epoch k.epoch) (by_name key.partition k.partition))))))

    tested : (k : PassKey) (r : Option ℤ) → next_reach (writer_of k) (name_at k.partition) r m ≡ cond (is_eq (by_pass key k)) (Some (further r m.offset)) r
    tested k r = ap (λ b. if b then Some (further r m.offset) else r) (same_test k)

    go : (k : PassKey) (b : Bool) → is_eq (by_pass key k) ≡ b
        → option_map offset_of (cond b (Some reach) (get by_pass reached k)) ≡ cond b (Some (further (reach_of before (writer_of k) (name_at k.partition)) m.offset)) (reach_of before (writer_of k) (name_at k.partition))
    go k true e =
        let parts = then_parts (int_cmp key.producer k.producer) _ (is_tied (by_pass key k) e) in
        let more = then_parts (int_cmp key.epoch k.epoch) _ parts.1 in
        let producer = int_exact key.producer k.producer parts.0 in
        let epoch = int_exact key.epoch k.epoch more.0 in
        let partition = name_exact (name_at key.partition) (name_at k.partition) more.1 in
        let w : reach_of before (writer_of key) (name_at key.partition) ≡ reach_of before (writer_of k) (name_at k.partition) = λ i. reach_of before (producer i, epoch i) (partition i) in
        ap Some (far ∙ ap (λ z. further z m.offset) (ap (option_map offset_of) is ∙ (are key ∙ w)))
    go k false e = are k
