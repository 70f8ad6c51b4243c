-- The transaction log says the same by the offsets and the contents of its records.
use Rattle.std.proofs.Common.{◌≡◌, ◌↔◌, ℕ, ℤ, List, [], ◌∷◌, ◌++◌, map, flat_map, Option, refl, sym, ap, ◌∙◌, subst}
use Rattle.std.specs.Prelude.{unsigned_abs}
use Rattle.eos_base.specs.Members.{Has}
use Rattle.eos_evidence.specs.declared.application.App.{App}
use Rattle.eos_fold.specs.declared.item.Item.{Item}
use Rattle.eos_fold.specs.Parts.{PartLog}
use Rattle.eos_verdict.specs.declared.log_fault.LogFault.{LogFault}
use Rattle.eos_verdict.specs.declared.log_fault.LogFaultKind.{LogFaultKind}
use Rattle.eos_verdict.specs.declared.log_fault.LogFaultKind.TheVariants.{BadRecord, Step, SplitId, SharedProducer, Unfinished}
use Rattle.eos_table.specs.LogFaults.{AtStep, StandsAs, Stands}
use Rattle.eos_table.specs.TransactionLog.{Id, State, Unskipped, nothing, flat, content_at, content_of, next_state, step_at, steps_after, state_after, steps_of, all_steps, last_of, decision_of, decisions_of, is_unfinished, IsTransactionLog, is_transaction_part, transaction_parts}
use Rattle.eos_reading.specs.Wanted.{wanted_item, wanted_log, kept_log, wanted_logs}
use Rattle.eos_reading.specs.declared.wanted.Wanted.TheVariants.{Texts}
use Rattle.eos_reading.proofs.SameThrough.{has_same}
use Rattle.eos_check.specs.KeptVerdicts.{StandAlike}
use Rattle.eos_check.proofs.SeenSame.{map_seen, filter_seen}
use Rattle.eos_check.proofs.KeptRecords.{transactions_kept}

-- the offset, the key and the value
abbrev SeenItem : Type 0
SeenItem = ℕ × Option (List ℕ) × Option (List ℕ)

abbrev seen_item : Item → SeenItem
seen_item x = (x.offset, x.key, x.value)

-- a number, an end and the records
abbrev Seen : Type 0
Seen = ℤ × ℤ × List SeenItem

abbrev seen : PartLog → Seen
seen p = (p.number, p.end, map seen_item p.items)

texts_seen : (p : PartLog) → seen (wanted_log Texts p) ≡ seen p
texts_seen p = ap (λ (items : List SeenItem). (p.number, p.end, items)) (map_seen (wanted_item Texts) seen_item (λ x. refl) p.items)

log_seen : (apps : List App) (ps : List PartLog) → map seen (transaction_parts (wanted_logs apps ps)) ≡ map seen (transaction_parts ps)
log_seen apps ps = filter_seen (kept_log apps) is_transaction_part seen (λ p. refl) (λ p e. ap seen (transactions_kept apps p e) ∙ texts_seen p) ps

-- ---- records of which the same is seen

steps_same : (last : State) (n : ℤ) (xs ys : List Item) → map seen_item xs ≡ map seen_item ys → steps_after last n xs ≡ steps_after last n ys
steps_same last n [] [] e = refl
steps_same last n [] (y ∷ ys) e = absurd cc
steps_same last n (x ∷ xs) [] e = absurd cc
steps_same last n (x ∷ xs) (y ∷ ys) e =
    let head : seen_item x ≡ seen_item y = cc in
    let tail : map seen_item xs ≡ map seen_item ys = cc in
    ap (λ (s : SeenItem). step_at last n s.0 (content_at s.1 s.2) ++ steps_after (next_state last (content_at s.1 s.2)) n xs) head
    ∙ ap (λ (more : List Unskipped). step_at last n y.offset (content_of y) ++ more) (steps_same (next_state last (content_of y)) n xs ys tail)

state_same : (last : State) (xs ys : List Item) → map seen_item xs ≡ map seen_item ys → state_after last xs ≡ state_after last ys
state_same last [] [] e = refl
state_same last [] (y ∷ ys) e = absurd cc
state_same last (x ∷ xs) [] e = absurd cc
state_same last (x ∷ xs) (y ∷ ys) e =
    let head : seen_item x ≡ seen_item y = cc in
    let tail : map seen_item xs ≡ map seen_item ys = cc in
    ap (λ (s : SeenItem). state_after (next_state last (content_at s.1 s.2)) xs) head ∙ state_same (next_state last (content_of y)) xs ys tail

last_same : (xs ys : List Item) → map seen_item xs ≡ map seen_item ys → (id : Id) → last_of xs id ≡ last_of ys id
last_same xs ys e id = ap (λ (s : State). flat (s id)) (state_same nothing xs ys e)

part_same : (p q : PartLog) → seen p ≡ seen q → steps_of p ≡ steps_of q
part_same p q e =
    ap (λ (s : Seen). steps_after nothing s.0 p.items) e ∙ steps_same nothing q.number p.items q.items (ap (λ (s : Seen). s.2) e)

all_same : (ps qs : List PartLog) → map seen ps ≡ map seen qs → all_steps ps ≡ all_steps qs
all_same [] [] e = refl
all_same [] (q ∷ qs) e = absurd cc
all_same (p ∷ ps) [] e = absurd cc
all_same (p ∷ ps) (q ∷ qs) e =
    let head : seen p ≡ seen q = cc in
    let tail : map seen ps ≡ map seen qs = cc in
    ap (λ (steps : List Unskipped). steps ++ flat_map steps_of ps) (part_same p q head) ∙ ap (λ (more : List Unskipped). steps_of q ++ more) (all_same ps qs tail)

-- ---- the like of a partition, and of a record

record Like (qs : List PartLog) (p : PartLog) : Type 0 where
  part : PartLog
  has : Has qs part
  number : part.number ≡ p.number
  end : part.end ≡ p.end
  items : map seen_item part.items ≡ map seen_item p.items

like : (ps qs : List PartLog) → map seen ps ≡ map seen qs → (p : PartLog) → Has ps p → Like qs p
like ps qs same p has =
    let l = has_same seen ps qs same p has in
    record { part = l.0; has = l.1; number = ap (λ (s : Seen). s.0) l.2; end = ap (λ (s : Seen). s.1) l.2; items = ap (λ (s : Seen). s.2) l.2 }

record LikeItem (items : List Item) (x : Item) : Type 0 where
  item : Item
  has : Has items item
  offset : item.offset ≡ x.offset
  content : content_of item ≡ content_of x

like_item : (xs ys : List Item) → map seen_item ys ≡ map seen_item xs → (x : Item) → Has xs x → LikeItem ys x
like_item xs ys same x has =
    let l = has_same seen_item xs ys (sym same) x has in
    record { item = l.0; has = l.1; offset = ap (λ (s : SeenItem). s.0) l.2; content = ap (λ (s : SeenItem). content_at s.1 s.2) l.2 }

-- ---- faults

module _ (ps qs : List PartLog) (same : map seen ps ≡ map seen qs) where
  among : (step : Unskipped) → Has (all_steps ps) step → Has (all_steps qs) step
  among step h = subst (λ (steps : List Unskipped). Has steps step) (all_same ps qs same) h

  abbrev at_step : (f : LogFault) (id : Id) → AtStep ps f id → AtStep qs f id
  at_step f id at = record { step = at.step; has = among at.step at.has; partition = at.partition; offset = at.offset; id = at.id }

  stands_as : (f : LogFault) (k : LogFaultKind) → StandsAs ps f k → StandsAs qs f k
  stands_as f (BadRecord why) s =
      let l = like ps qs same s.0.part s.0.has_part in
      let x = like_item s.0.part.items l.part.items l.items s.0.item s.0.has_item in (
        record { part = l.part; item = x.item; has_part = l.has; has_item = x.has; partition = l.number ∙ s.0.partition; offset = x.offset ∙ s.0.offset },
        x.content ∙ s.1,
      )
  stands_as f (Step id why) s = (at_step f id s.0, s.1)
  stands_as f (SplitId id) s = (at_step f id s.0, s.1, among s.1 s.2, s.3, s.4)
  stands_as f (SharedProducer id) s = (at_step f id s.0, s.1, among s.1 s.2, s.3, s.4, s.5)
  stands_as f (Unfinished id) s =
      let l = like ps qs same s.0.part s.0.has in (
        record { part = l.part; has = l.has; partition = l.number ∙ s.0.partition; offset = ap unsigned_abs l.end ∙ s.0.offset },
        ap is_unfinished (last_same l.part.items s.0.part.items l.items id) ∙ s.1,
      )

  keeps_rule : IsTransactionLog qs → IsTransactionLog ps
  keeps_rule h = record {
    reads = λ part item fault has_part has_item e.
        let l = like ps qs same part has_part in
        let x = like_item part.items l.part.items l.items item has_item in
        h.reads l.part x.item fault l.has x.has (x.content ∙ e);
    follows = λ step has. h.follows step (among step has);
    one_partition = λ step other a b. h.one_partition step other (among step a) (among other b);
    one_id = λ step other a b. h.one_id step other (among step a) (among other b);
    settled = λ part id has.
        let l = like ps qs same part has in
        sym (ap is_unfinished (last_same l.part.items part.items l.items id)) ∙ h.settled l.part id l.has;
  }

-- ---- what is kept

pub decisions_kept : (apps : List App) (ps : List PartLog) → decisions_of (transaction_parts (wanted_logs apps ps)) ≡ decisions_of (transaction_parts ps)
decisions_kept apps ps = ap (flat_map decision_of) (all_same (transaction_parts (wanted_logs apps ps)) (transaction_parts ps) (log_seen apps ps))

pub faults_kept : (apps : List App) (ps : List PartLog) → StandAlike (Stands (transaction_parts (wanted_logs apps ps))) (Stands (transaction_parts ps))
faults_kept apps ps f = (
  stands_as (transaction_parts (wanted_logs apps ps)) (transaction_parts ps) (log_seen apps ps) f f.kind,
  stands_as (transaction_parts ps) (transaction_parts (wanted_logs apps ps)) (sym (log_seen apps ps)) f f.kind,
)

pub rule_kept : (apps : List App) (ps : List PartLog) → IsTransactionLog (transaction_parts (wanted_logs apps ps)) ↔ IsTransactionLog (transaction_parts ps)
rule_kept apps ps = (
  keeps_rule (transaction_parts ps) (transaction_parts (wanted_logs apps ps)) (sym (log_seen apps ps)),
  keeps_rule (transaction_parts (wanted_logs apps ps)) (transaction_parts ps) (log_seen apps ps),
)
