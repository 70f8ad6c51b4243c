-- The pass over the transaction log, one record further.
use Rattle.std.proofs.Common.{◌≡◌, ◌<◌, ◌≤◌, ◌+◌, ℕ, ℤ, List, [], ◌∷◌, ◌++◌, length, drop, get_or, sym, ap, ◌∙◌, append_assoc, Option, Bool, true, false, cond, if◌then◌else◌}
use Rattle.std.specs.List.{flat_map}
use Rattle.std.proofs.lemmas.List.{append-nil, drop_more, drop_all}
use Rattle.std.proofs.lemmas.List.Concat.{flat_map-append}
use Rattle.eos_txnlog.specs.declared.value.TxnValue.{TxnValue}
use Rattle.eos_txnlog.specs.Skips.{is_skipped}
use Rattle.eos_fold.specs.declared.item.Item.{Item}
use Rattle.eos_fold.specs.Parts.{PartLog}
use Rattle.eos_table.specs.declared.content.Content.TheVariants.{Of}
use Rattle.eos_table.specs.TransactionLog.{Id, State, flat, Unskipped, content_of, step_at, steps_after, steps_of, all_steps, next_state, is_transaction_part, transaction_parts}
use Rattle.eos_table.specs.steps.LogCandidates.{step_of}
use Rattle.eos_picture.specs.declared.mark.Column.{Column}
use Rattle.eos_picture.specs.Transactions.{column_at, column_between}

-- a record of an id that isn't skipped
pub unskipped_step : (last : State) (n : ℤ) (o : ℕ) (id : Id) (b v : Option TxnValue) (old new : List Column) → is_skipped (last id) v ≡ false → b ≡ flat (last id)
    → new ≡ old ++ column_between n o id b v
    → new ≡ old ++ flat_map column_at (step_at last n o (Of id v))
unskipped_step last n o id b v old new skip same e =
    let this : Unskipped = step_of n o id (flat (last id)) v in
    let one : flat_map column_at (this ∷ []) ≡ column_at this = append-nil (column_at this) in
    e ∙ (ap (λ z. old ++ column_between n o id z v) same
    ∙ (ap (λ z. old ++ z) (sym one) ∙ ap (λ z. old ++ flat_map column_at (if z then [] else this ∷ [])) (sym skip)))

-- what is left, one record further
pub one_record : (st st2 : State) (n : ℤ) (x : Item) (xs : List Item) (old new all : List Column)
    → new ≡ old ++ flat_map column_at (step_at st n x.offset (content_of x)) → st2 ≡ next_state st (content_of x)
    → old ++ flat_map column_at (steps_after st n (x ∷ xs)) ≡ all
    → new ++ flat_map column_at (steps_after st2 n xs) ≡ all
one_record st st2 n x xs old new all e s h =
    let first : List Column = flat_map column_at (step_at st n x.offset (content_of x)) in
    let rest : State → List Column = λ z. flat_map column_at (steps_after z n xs) in
    ap (λ z. new ++ rest z) s ∙ (ap (λ z. z ++ rest (next_state st (content_of x))) e ∙ (append_assoc old first (rest (next_state st (content_of x)))
    ∙ (ap (λ z. old ++ z) (sym (flat_map-append column_at (step_at st n x.offset (content_of x)) (steps_after (next_state st (content_of x)) n xs))) ∙ h)))

-- ---- the partitions of the log

here : (logs : List PartLog) (i : ℕ) (d p : PartLog) (log : Bool) → i < length logs → p ≡ get_or logs i d → is_transaction_part p ≡ log
    → transaction_parts (drop i logs) ≡ cond log (p ∷ transaction_parts (drop (i + 1) logs)) (transaction_parts (drop (i + 1) logs))
here logs i d p log lt is e =
    let rest = transaction_parts (drop (i + 1) logs) in
    ap transaction_parts (drop_more logs i d lt ∙ ap (λ (x : PartLog). x ∷ drop (i + 1) logs) (sym is)) ∙ ap (λ (b : Bool). cond b (p ∷ rest) rest) e

-- what is left, behind one of the log's, behind another one, and behind all
pub part_read : (logs : List PartLog) (i : ℕ) (d p : PartLog) (old now all : List Column) → i < length logs → p ≡ get_or logs i d → is_transaction_part p ≡ true → now ≡ old ++ flat_map column_at (steps_of p)
    → old ++ flat_map column_at (all_steps (transaction_parts (drop i logs))) ≡ all → now ++ flat_map column_at (all_steps (transaction_parts (drop (i + 1) logs))) ≡ all
part_read logs i d p old now all lt is log more before =
    let rest = transaction_parts (drop (i + 1) logs) in
    let split : flat_map column_at (all_steps (transaction_parts (drop i logs))) ≡ flat_map column_at (steps_of p) ++ flat_map column_at (all_steps rest) =
    ap (λ (ps : List PartLog). flat_map column_at (all_steps ps)) (here logs i d p true lt is log) ∙ flat_map-append column_at (steps_of p) (all_steps rest) in
    ap (λ z. z ++ flat_map column_at (all_steps rest)) more ∙ (append_assoc old (flat_map column_at (steps_of p)) (flat_map column_at (all_steps rest)) ∙ (ap (λ z. old ++ z) (sym split) ∙ before))

pub part_passed : (logs : List PartLog) (i : ℕ) (d p : PartLog) (old all : List Column) → i < length logs → p ≡ get_or logs i d → is_transaction_part p ≡ false
    → old ++ flat_map column_at (all_steps (transaction_parts (drop i logs))) ≡ all → old ++ flat_map column_at (all_steps (transaction_parts (drop (i + 1) logs))) ≡ all
part_passed logs i d p old all lt is other before = ap (λ (ps : List PartLog). old ++ flat_map column_at (all_steps ps)) (sym (here logs i d p false lt is other)) ∙ before

pub parts_end : (logs : List PartLog) (i : ℕ) (old all : List Column) → length logs ≤ i → old ++ flat_map column_at (all_steps (transaction_parts (drop i logs))) ≡ all → old ≡ all
parts_end logs i old all le h = sym (append-nil old) ∙ (ap (λ (ps : List PartLog). old ++ flat_map column_at (all_steps (transaction_parts ps))) (sym (drop_all i logs le)) ∙ h)
