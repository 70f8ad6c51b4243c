-- The pass over the records, one record further.
use Rattle.std.proofs.Common.{◌≡◌, ℕ, ℤ, List, [], ◌∷◌, ◌++◌, length, map, drop, fold, refl, sym, ap, subst, ◌∙◌, append_assoc, unsigned_abs, Option, Some, None, Bool, true, false, not, if◌then◌else◌, cond, suc, ◌+◌, ◌<◌, get_or, drop-cons, add-one}
use Rattle.std.specs.List.{flat_map}
use Rattle.std.specs.Option.{option_map, option_copied, option_flatten}
use Rattle.std.specs.BTreeMap.{BTreeMap, IsEmpty, is_at}
use Rattle.std.specs.Map.{lookup}
use Rattle.std.specs.Ordering.{nat_cmp, is_eq}
use Rattle.std.specs.declared.cmp.Ordering.{Ordering}
use Rattle.std.specs.declared.cmp.Ordering.TheVariants.{Less, Equal, Greater}
use Rattle.std.specs.Cmp.Lexicographic.{slice_cmp}
use Rattle.std.proofs.Common.{Bor}
use Rattle.std.proofs.lemmas.List.{append-nil, map-append}
use Rattle.std.proofs.lemmas.List.Concat.{flat_map-append}
use Rattle.std.proofs.lemmas.List.Sums.{fold-append}
use Rattle.eos_base.proofs.Exact.{bytes_exact}
use Rattle.eos_txnlog.specs.declared.value.TxnValue.{TxnValue}
use Rattle.eos_txnlog.specs.Skips.{is_skipped}
use Rattle.eos_fold.specs.declared.item.Item.{Item}
use Rattle.eos_fold.specs.Parts.{PartLog}
use Rattle.eos_table.specs.declared.content.Content.TheVariants.{Of}
use Rattle.eos_table.specs.declared.mark.Mark.{Mark}
use Rattle.eos_verdict.specs.declared.log_fault.LogFault.{LogFault}
use Rattle.eos_table.specs.TransactionLog.{Id, State, same_id, nothing, flat, Unskipped, content_of, step_at, steps_after, next_state, state_after, update, steps_of, all_steps, decision_of, state_of, transaction_parts, is_transaction_part}
use Rattle.eos_table.specs.declared.held.Held.{Held}
use Rattle.eos_table.specs.declared.held.Holding.{Holding}
use Rattle.eos_table.specs.declared.held.Holding.TheVariants.{Each, Apart, Nothing}
use Rattle.eos_table.specs.steps.LogCandidates.{LogRead, Faults, taken, open_at, after, unread, step_faults, faults_at, faults_after, part_faults, mark_of}
use Rattle.eos_table.specs.steps.Doubled.{doubled_at, doubled_after}
use Rattle.eos_table.specs.steps.Apart.{Fits}
use Rattle.eos_table.specs.steps.Held.{Readout, Tells, Shows, Takes}
use Rattle.eos_table.proofs.ApartSteps.{doubled_last}

-- one after the other is both at once
pub after_after : (r : LogRead) (s t : List Unskipped) (f g : List LogFault) → after (after r s f) t g ≡ after r (s ++ t) (f ++ g)
after_after r s t f g =
    let marks : (r.marks ++ map mark_of s) ++ map mark_of t ≡ r.marks ++ map mark_of (s ++ t) = append_assoc r.marks (map mark_of s) (map mark_of t) ∙ ap (λ z. r.marks ++ z) (sym (map-append mark_of s t)) in
    let decisions : (r.decisions ++ flat_map decision_of s) ++ flat_map decision_of t ≡ r.decisions ++ flat_map decision_of (s ++ t) = append_assoc r.decisions (flat_map decision_of s) (flat_map decision_of t) ∙ ap (λ z. r.decisions ++ z) (sym (flat_map-append decision_of s t)) in
    let faults : fold taken (fold taken r.faults f) g ≡ fold taken r.faults (f ++ g) = sym (fold-append taken r.faults f g) in
    λ i. record { marks = marks i; decisions = decisions i; faults = faults i }

pub after_nothing : (r : LogRead) → after r [] [] ≡ r
after_nothing r =
    let marks = append-nil r.marks in
    let decisions = append-nil r.decisions in
    λ i. record { marks = marks i; decisions = decisions i; faults = r.faults }

-- ---- what is taken up

pub takes_nothing : (q : Readout) → Takes q q [] []
takes_nothing q asked r shows = subst (Shows asked q) (sym (after_nothing r)) shows

takes_both : (a b c : Readout) (s t : List Unskipped) (f g : List LogFault) → Takes a b s f → Takes b c t g → Takes a c (s ++ t) (f ++ g)
takes_both a b c s t f g first second asked r shows = subst (Shows asked c) (after_after r s t f g) (second asked (after r s f) (first asked r shows))

-- the same is held
module _ (old new : Readout) (held : new.held ≡ old.held) where
  still : (asked : Holding) (r next : LogRead) → (old.faults ≡ r.faults → new.faults ≡ next.faults) → next.marks ≡ r.marks → Tells asked old r → Tells asked new next
  still Each r next faults marks t = (faults t.0, ap (λ (h : Held). h.marks.items) held ∙ (t.1 ∙ sym marks))
  still Apart r next faults marks t = (
    faults t.0,
    subst (λ (h : Held). Fits h.owners h.homes next.marks) (sym held) (subst (Fits old.held.owners old.held.homes) (sym marks) t.1),
    ap (doubled_after []) marks ∙ t.2,
  )
  still Nothing r next faults marks t = tt

abbrev pub KeepsEach : Held → Held → Mark → Type 0
KeepsEach old new m = old.holding ≡ Each → (new.holding ≡ Each) × (new.marks.items ≡ old.marks.items ++ m ∷ [])

abbrev pub KeepsApart : Held → Held → Mark → Type 0
KeepsApart old new m = new.holding ≡ Apart → (old.holding ≡ Apart)
    × ((before : List Mark) → Fits old.owners old.homes before → Fits new.owners new.homes (before ++ m ∷ []) × (doubled_at before m ≡ []))

-- an unskipped record
module _ (old new : Readout) (s : Unskipped) (faults : new.faults ≡ fold taken old.faults (step_faults s)) (each : KeepsEach old.held new.held (mark_of s)) (apart : KeepsApart old.held new.held (mark_of s)) where
  told : (asked : Holding) (r : LogRead) → Shows asked old r → new.held.holding ≡ asked → Tells asked new (after r (s ∷ []) (step_faults s))
  told Each r shows h =
      let t = shows.tells (shows.each refl) in
      (faults ∙ ap (λ z. fold taken z (step_faults s)) t.0, (each (shows.each refl)).1 ∙ ap (λ z. z ++ mark_of s ∷ []) t.1)
  told Apart r shows h =
      let a = apart h in
      let t = shows.tells a.0 in
      let here = a.1 r.marks t.1 in (
        faults ∙ ap (λ z. fold taken z (step_faults s)) t.0,
        here.0,
        doubled_last [] r.marks (mark_of s) ∙ (ap (λ (fs : List LogFault). fs ++ doubled_at r.marks (mark_of s)) t.2 ∙ here.1),
      )
  told Nothing r shows h = tt

  pub takes_step : new.decisions ≡ old.decisions ++ decision_of s → Takes old new (s ∷ []) (step_faults s)
  takes_step decisions asked r shows = record {
    decisions = decisions ∙ (ap (λ z. z ++ decision_of s) shows.decisions ∙ ap (λ z. r.decisions ++ z) (sym (append-nil (decision_of s))));
    tells = told asked r shows;
    each = λ is. (each (shows.each is)).0;
  }

-- what is known after a record of an id that is taken, and after one that isn't
pub taken_state : (last : State) (id : Id) (v : Option TxnValue) (b : Option (Option TxnValue)) (x : Option TxnValue) (t : Bool) (new : State)
    → b ≡ last id → x ≡ v → t ≡ not (is_skipped b x) → t ≡ true → new ≡ update last id v → new ≡ next_state last (Of id v)
taken_state last id v b x t new was now test is e =
    let skip = not_skipped (is_skipped b x) (sym is ∙ test) in
    e ∙ sym (ap (λ z. if z then last else update last id v) (ap (λ z. is_skipped z v) (sym was) ∙ (ap (is_skipped b) (sym now) ∙ skip)))
  where
    not_skipped : (s : Bool) → true ≡ not s → s ≡ false
    not_skipped true e = e
    not_skipped false e = refl

pub left_state : (last : State) (id : Id) (v : Option TxnValue) (b : Option (Option TxnValue)) (x : Option TxnValue) (t : Bool) (new : State)
    → b ≡ last id → x ≡ v → t ≡ not (is_skipped b x) → t ≡ false → new ≡ last → new ≡ next_state last (Of id v)
left_state last id v b x t new was now test is e =
    let skip = skipped (is_skipped b x) (sym is ∙ test) in
    e ∙ sym (ap (λ z. if z then last else update last id v) (ap (λ z. is_skipped z v) (sym was) ∙ (ap (is_skipped b) (sym now) ∙ skip)))
  where
    skipped : (s : Bool) → false ≡ not s → s ≡ true
    skipped true e = refl
    skipped false e = e

-- what is known stays where it is written again
pub same_state : (last new : State) (id : Id) (w : Option TxnValue) → last id ≡ Some w → ((q : Id) → new q ≡ cond (same_id id q) (Some w) (last q)) → new ≡ last
same_state last new id w was u = λ i q. (u q ∙ kept q (slice_cmp nat_cmp id q) refl) i
  where
    kept : (q : Id) (o : Ordering) → slice_cmp nat_cmp id q ≡ o → cond (is_eq o) (Some w) (last q) ≡ last q
    kept q Equal e = sym was ∙ ap last (bytes_exact id q e)
    kept q Less e = refl
    kept q Greater e = refl

-- what is left, one record further
pub one_record : (st st2 : State) (n : ℤ) (x : Item) (xs : List Item) (a b c : Readout)
    → Takes a b (step_at st n x.offset (content_of x)) (faults_at st n x.offset (content_of x)) → st2 ≡ next_state st (content_of x)
    → Takes b c (steps_after st2 n xs) (faults_after st2 n xs) → Takes a c (steps_after st n (x ∷ xs)) (faults_after st n (x ∷ xs))
one_record st st2 n x xs a b c here s rest =
    takes_both a b c (step_at st n x.offset (content_of x)) (steps_after (next_state st (content_of x)) n xs) (faults_at st n x.offset (content_of x)) (faults_after (next_state st (content_of x)) n xs)
    here (subst (λ z. Takes b c (steps_after z n xs) (faults_after z n xs)) s rest)

-- what a look-up lends, without the loan
pub lent_flat : (r : Option (Option (Bor TxnValue))) (f : Option (Bor TxnValue)) (w : Option (Option TxnValue)) → f ≡ option_flatten r → option_map option_copied r ≡ w → option_copied f ≡ flat w
lent_flat r f w e h = ap option_copied e ∙ (go r ∙ ap flat h)
  where
    go : (r : Option (Option (Bor TxnValue))) → option_copied (option_flatten r) ≡ flat (option_map option_copied r)
    go None = refl
    go (Some x) = refl

-- the marks of a partition are those after the ones before it
own_marks : {X : Type 0} (xs ys : List X) → drop (length xs) (xs ++ ys) ≡ ys
own_marks [] ys = refl
own_marks (x ∷ xs) ys = own_marks xs ys

from_there : {X : Type 0} (xs ys ms : List X) (n : ℕ) → ms ≡ xs ++ ys → n ≡ length xs → drop n ms ≡ ys
from_there xs ys ms n e first = ap (λ z. drop z ms) first ∙ (ap (drop (length xs)) e ∙ own_marks xs ys)

-- where each is held, those of the partition are looked at; else nothing is left unfinished there
abbrev pub OpensEach : Readout → Readout → List LogFault → Type 0
OpensEach mid new opened = mid.held.holding ≡ Each → (new.held ≡ mid.held) × (new.faults ≡ fold taken mid.faults opened)

abbrev pub OpensApart : Readout → Readout → (Mark → List LogFault) → Type 0
OpensApart mid new opened = new.held.holding ≡ Apart → (new.held ≡ mid.held) × ((marks : List Mark) → new.faults ≡ fold taken mid.faults (flat_map opened marks))

-- it ends there
pub record Ends (p : PartLog) (old : Readout) (last : State) (from o : ℕ) (n : ℤ) : Type 0 where
  pub state : last ≡ state_after nothing p.items
  pub first : from ≡ length old.held.marks.items
  pub number : n ≡ p.number
  pub end : o ≡ unsigned_abs p.end

-- a partition, with what is left unfinished at its end
module _ (p : PartLog) (old mid new : Readout) (last : State) (from o : ℕ) (n : ℤ) (ends : Ends p old last from o n) (each : OpensEach mid new (flat_map (open_at last n o) (drop from mid.held.marks.items))) (apart : OpensApart mid new (open_at last n o)) where
  abbrev F : List LogFault
  F = faults_after nothing p.number p.items

  abbrev own : List Mark
  own = map mark_of (steps_of p)

  opened : open_at last n o ≡ open_at (state_after nothing p.items) p.number (unsigned_abs p.end)
  opened = ap (λ z. open_at z n o) ends.state ∙ (ap (λ z. open_at (state_after nothing p.items) z o) ends.number ∙ ap (open_at (state_after nothing p.items) p.number) ends.end)

  all_faults : (r : LogRead) → mid.faults ≡ fold taken r.faults F → new.faults ≡ fold taken mid.faults (flat_map (open_at last n o) own) → new.faults ≡ fold taken r.faults (part_faults p)
  all_faults r before is =
      is ∙ (ap (λ z. fold taken z (flat_map (open_at last n o) own)) before ∙ (ap (λ z. fold taken (fold taken r.faults F) (flat_map z own)) opened
      ∙ sym (fold-append taken r.faults F (flat_map (open_at (state_after nothing p.items) p.number (unsigned_abs p.end)) own))))

  told_at_end : (asked : Holding) (r : LogRead) → Shows asked old r → Shows asked mid (after r (steps_of p) F) → new.held.holding ≡ asked → Tells asked new (after r (steps_of p) (part_faults p))
  told_at_end Each r shows middle h =
      let is = middle.each refl in
      let m = each is in
      let t = middle.tells is in
      let mine = from_there r.marks own mid.held.marks.items from t.1 (ends.first ∙ ap length (shows.tells (shows.each refl)).1) in
      (all_faults r t.0 (m.1 ∙ ap (λ z. fold taken mid.faults (flat_map (open_at last n o) z)) mine), ap (λ (z : Held). z.marks.items) m.0 ∙ t.1)
  told_at_end Apart r shows middle h =
      let a = apart h in
      let t = middle.tells (sym (ap (λ (z : Held). z.holding) a.0) ∙ h) in
      still mid new a.0 Apart (after r (steps_of p) F) (after r (steps_of p) (part_faults p)) (λ e. all_faults r e (a.1 own)) refl t
  told_at_end Nothing r shows middle h = tt

  pub one_part : (st : State) → st ≡ nothing → Takes old mid (steps_after st p.number p.items) (faults_after st p.number p.items) → new.decisions ≡ mid.decisions
      → Takes old new (steps_of p) (part_faults p)
  one_part st start read decisions asked r shows =
      let middle : Shows asked mid (after r (steps_of p) F) = subst (λ z. Takes old mid (steps_after z p.number p.items) (faults_after z p.number p.items)) start read asked r shows in
      record {
        decisions = decisions ∙ middle.decisions;
        tells = told_at_end asked r shows middle;
        each = λ is. ap (λ (z : Held). z.holding) (each (middle.each is)).0 ∙ middle.each is;
      }

pub empty_state : (last : BTreeMap Id (Option TxnValue)) → IsEmpty last → state_of last ≡ nothing
empty_state last e = λ i id. lookup (is_at (slice_cmp nat_cmp id)) (e i)

-- ---- the log

-- these partitions are left
abbrev pub Leaves : Holding → Readout → List PartLog → LogRead → Type 0
Leaves asked q log all = (r : LogRead) × Shows asked q r × (after r (all_steps log) (flat_map part_faults log) ≡ all)

pub one_part_less : (asked : Holding) (old new : Readout) (p : PartLog) (log : List PartLog) (all : LogRead) → Takes old new (steps_of p) (part_faults p) → Leaves asked old (p ∷ log) all → Leaves asked new log all
one_part_less asked old new p log all takes (r, shows, e) =
    (after r (steps_of p) (part_faults p), takes asked r shows, after_after r (steps_of p) (all_steps log) (part_faults p) (flat_map part_faults log) ∙ e)

left_logs : (logs : List PartLog) (i : ℕ) (p : PartLog) → i < length logs → p ≡ get_or logs i p
    → transaction_parts (drop i logs) ≡ cond (is_transaction_part p) (p ∷ transaction_parts (drop (i + 1) logs)) (transaction_parts (drop (i + 1) logs))
left_logs logs i p lt is = ap transaction_parts (drop-cons logs i p lt ∙ (ap (λ t. t ∷ drop (suc i) logs) (sym is) ∙ ap (λ n. p ∷ drop n logs) (sym (add-one i))))

-- one that is the log's, and one that isn't
pub log_first : (logs : List PartLog) (i : ℕ) (p : PartLog) → i < length logs → p ≡ get_or logs i p → is_transaction_part p ≡ true → transaction_parts (drop i logs) ≡ p ∷ transaction_parts (drop (i + 1) logs)
log_first logs i p lt is test = left_logs logs i p lt is ∙ ap (λ b. cond b (p ∷ transaction_parts (drop (i + 1) logs)) (transaction_parts (drop (i + 1) logs))) test

pub other_first : (logs : List PartLog) (i : ℕ) (p : PartLog) → i < length logs → p ≡ get_or logs i p → is_transaction_part p ≡ false → transaction_parts (drop i logs) ≡ transaction_parts (drop (i + 1) logs)
other_first logs i p lt is test = left_logs logs i p lt is ∙ ap (λ b. cond b (p ∷ transaction_parts (drop (i + 1) logs)) (transaction_parts (drop (i + 1) logs))) test

pub none_left : (asked : Holding) (q : Readout) (all : LogRead) → Leaves asked q [] all → Shows asked q all
none_left asked q all (r, shows, e) = subst (Shows asked q) (sym (after_nothing r) ∙ e) shows

-- nothing is read
pub shows_unread : (asked : Holding) (q : Readout) (faults : Faults) → q.held.holding ≡ asked → q.held.marks.items ≡ [] → Fits q.held.owners q.held.homes [] → q.decisions ≡ [] → q.faults ≡ faults → Shows asked q (unread faults)
shows_unread asked q faults holding marks tables decisions is = record { decisions = decisions; tells = λ h. told_of asked; each = λ e. holding ∙ e }
  where
    told_of : (asked : Holding) → Tells asked q (unread faults)
    told_of Each = (is, marks)
    told_of Apart = (is, tables, refl)
    told_of Nothing = tt
