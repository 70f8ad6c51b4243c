-- What a change of the cluster is to each application.
use Rattle.std.proofs.Common.{Bool, ◌≡◌, ◌≢◌, ℕ, ◌<◌, ◌==◌, true, false, List, [], ◌∷◌, ◌++◌, length, Option, Some, None, refl, sym, ap, subst, ◌∙◌, append-nil}
use Rattle.std.specs.List.{All, filter_map}
use Rattle.std.proofs.lemmas.List.{get_or-set_same, get_or-set_other}
use Rattle.std.proofs.lemmas.List.Elements.{filter_map-append, All-weaker}
use Rattle.std.proofs.lemmas.Bool.{eqb-true, eq-eqb, false_from_ne_true}
use Rattle.eos_batch.specs.declared.marker.Kind.{Kind}
use Rattle.std.proofs.lemmas.List.{length-set}
use Rattle.eos_machine.specs.LogIndexes.{Config, txn_index}
use Rattle.eos_machine.specs.Switching.{none}
use Rattle.eos_machine.specs.World.{Claim, Status, Empty, Ongoing, Prepare, Complete, Entry, Item, Fed, State, Output, Offset, Marker, Coordinator, Message, World, log_at, fresh, coord_at, state_of, with_item, with_coord, written}
use Rattle.eos_machine.specs.declared.state.Message.TheVariants as messages
use Rattle.eos_machine.specs.Application.{Mark, Batch, End, Decision, IsOrdered}
use Rattle.eos_machine.specs.Logs.{entry_in, mark_in, entries_of, marks_of, last_state, with_decision, decisions_from}
use Rattle.eos_machine.specs.Machine.{reread}
use Rattle.eos_machine.proofs.Apps.{App, pushed, push_mark, Invariant}
use Rattle.eos_machine.proofs.AppSteps.{pushed_cases, ordered_more}
use Rattle.eos_machine.proofs.Good.{app_of, Moves, Steps, IsPlace, IsDue, IsRead, IsKept, Good}

-- ---- numbers

pub not_same : (a b : ℕ) → a ≢ b → (a == b) ≡ false
not_same a b n = false_from_ne_true _ (λ t. n (eqb-true a b t))

pub is_same : (a : ℕ) → (a == a) ≡ true
is_same a = eq-eqb a a refl

-- what holds of one number and of all others
pub each : (P : ℕ → Type 0) (a : ℕ) → P a → ((b : ℕ) → b ≢ a → P b) → (b : ℕ) → P b
each P a this others b =
    elim (b == a) as (λ t. (b == a) ≡ t → P b) [
      | true ↦ λ e. subst P (sym (eqb-true b a e)) this
      | false ↦ λ e. others b (λ q. let w : true ≡ false = sym (eq-eqb b a q) ∙ e in absurd cc)
    ] refl

-- ---- equal applications

pub app_is : (s t : App) → s.status ≡ t.status → s.epoch ≡ t.epoch → s.partitions ≡ t.partitions → s.awaited ≡ t.awaited → s.decisions ≡ t.decisions → ((p : ℕ) → s.marks p ≡ t.marks p) → s ≡ t
app_is s t a b c d e f = λ i. record { status = a i; epoch = b i; partitions = c i; awaited = d i; decisions = e i; marks = λ p. f p i }

-- ---- an item more

item_none : {Y : Type 0} (h : Item → Option Y) (log : List Item) (x : Item) → h x ≡ None → filter_map h (log ++ x ∷ []) ≡ filter_map h log
item_none h log x e = filter_map-append h log (x ∷ []) ∙ rw e (append-nil (filter_map h log))

item_some : {Y : Type 0} (h : Item → Option Y) (log : List Item) (x : Item) (y : Y) → h x ≡ Some y → filter_map h (log ++ x ∷ []) ≡ filter_map h log ++ y ∷ []
item_some h log x y e = filter_map-append h log (x ∷ []) ∙ rw e refl

log_itself : (w : World) (p : ℕ) (x : Item) → p < length w.logs → log_at (with_item w p x) p ≡ log_at w p ++ x ∷ []
log_itself w p x l = get_or-set_same w.logs p (log_at w p ++ x ∷ []) [] l

log_other : (w : World) (p : ℕ) (x : Item) (q : ℕ) → q ≢ p → log_at (with_item w p x) q ≡ log_at w q
log_other w p x q n = get_or-set_other w.logs p q (log_at w p ++ x ∷ []) [] n

pub view_none : {Y : Type 0} (h : Item → Option Y) (w : World) (p : ℕ) (x : Item) → h x ≡ None → p < length w.logs → (q : ℕ) → filter_map h (log_at (with_item w p x) q) ≡ filter_map h (log_at w q)
view_none h w p x e l = each (λ q. filter_map h (log_at (with_item w p x) q) ≡ filter_map h (log_at w q)) p
    (ap (filter_map h) (log_itself w p x l) ∙ item_none h (log_at w p) x e)
    (λ q n. ap (filter_map h) (log_other w p x q n))

pub view_some : (h : Item → Option Mark) (w : World) (p : ℕ) (x : Item) (t : Mark) → h x ≡ Some t → p < length w.logs → (q : ℕ) → filter_map h (log_at (with_item w p x) q) ≡ pushed (λ r. filter_map h (log_at w r)) p t q
view_some h w p x t e l = each (λ q. filter_map h (log_at (with_item w p x) q) ≡ pushed (λ r. filter_map h (log_at w r)) p t q) p
    (ap (filter_map h) (log_itself w p x l) ∙ (item_some h (log_at w p) x t e ∙ sym (rw (is_same p) refl)))
    (λ q n. ap (filter_map h) (log_other w p x q n) ∙ sym (rw (not_same q p n) refl))

pub app_same : (c : Config) (w : World) (p : ℕ) (x : Item) (b : ℕ) → mark_in b x ≡ None → entry_in b x ≡ None → p < length w.logs → app_of c (with_item w p x) b ≡ app_of c w b
app_same c w p x b m n l = app_is _ _ refl refl refl refl (ap (decisions_from [] fresh) (view_none (entry_in b) w p x n l (txn_index c b))) (view_none (mark_in b) w p x m l)

pub app_pushed : (c : Config) (w : World) (p : ℕ) (x : Item) (b : ℕ) (t : Mark) → mark_in b x ≡ Some t → entry_in b x ≡ None → p < length w.logs → app_of c (with_item w p x) b ≡ push_mark (app_of c w b) p t
app_pushed c w p x b t m n l = app_is _ _ refl refl refl refl (ap (decisions_from [] fresh) (view_none (entry_in b) w p x n l (txn_index c b))) (view_some (mark_in b) w p x t m l)

-- ---- a state more

pub coord_other : (w : World) (a : ℕ) (s : Coordinator) (b : ℕ) → b ≢ a → coord_at (with_coord w a s) b ≡ coord_at w b
coord_other w a s b n = get_or-set_other w.coordinators a b s fresh n

pub coord_itself : (w : World) (a : ℕ) (s : Coordinator) → a < length w.coordinators → coord_at (with_coord w a s) a ≡ s
coord_itself w a s l = get_or-set_same w.coordinators a s fresh l

-- an application with this state
abbrev pub with_state : App → Coordinator → App
with_state s t = record { status = t.status; epoch = t.epoch; partitions = t.partitions; awaited = t.awaited; decisions = s.decisions; marks = s.marks }

pub app_coord_other : (c : Config) (w : World) (a : ℕ) (s : Coordinator) (b : ℕ) → b ≢ a → app_of c (with_coord w a s) b ≡ app_of c w b
app_coord_other c w a s b n = ap (λ (t : Coordinator). with_state (app_of c w b) t) (coord_other w a s b n)

pub app_coord : (c : Config) (w : World) (a : ℕ) (s : Coordinator) → a < length w.coordinators → app_of c (with_coord w a s) a ≡ with_state (app_of c w a) s
app_coord c w a s l = ap (λ (t : Coordinator). with_state (app_of c w a) t) (coord_itself w a s l)

-- ---- messages

-- where decisions are the same, what was due is due
due_same : (c : Config) (w v : World) → ((a : ℕ) → (app_of c v a).decisions ≡ (app_of c w a).decisions) → (x : Message) → IsDue c w x → IsDue c v x
due_same c w v e (messages.Output a f p s x n) h = h
due_same c w v e (messages.Offset a f g q n) h = h
due_same c w v e (messages.End a f k) h = h
due_same c w v e (messages.Marker a m k p) h = (h.0, h.1, subst (λ (ds : List Decision). IsOrdered ds p m k) (sym (e a)) h.2)

-- ---- good clusters

-- an item of one application
pub record IsOf (a : ℕ) (x : Item) (t : Mark) : Type 0 where
  pub itself : mark_in a x ≡ Some t
  pub others : (b : ℕ) → b ≢ a → mark_in b x ≡ None
  pub no_entry : (b : ℕ) → entry_in b x ≡ None

pub of_output : (a e s : ℕ) (x : Option Claim) (v m : ℕ) → IsOf a (Output a e s x v m) (Batch e (Some s))
of_output a e s x v m = record { itself = rw (is_same a) refl; others = λ b n. rw (not_same a b (λ q. n (sym q))) refl; no_entry = λ b. refl }

pub of_offset : (a e q : ℕ) (v : Option ℕ) (m : ℕ) → IsOf a (Offset a e q v m) (Batch e None)
of_offset a e q v m = record { itself = rw (is_same a) refl; others = λ b n. rw (not_same a b (λ q. n (sym q))) refl; no_entry = λ b. refl }

pub of_marker : (a e : ℕ) (k : Kind) (m : ℕ) → IsOf a (Marker a e k m) (End e k)
of_marker a e k m = record { itself = rw (is_same a) refl; others = λ b n. rw (not_same a b (λ q. n (sym q))) refl; no_entry = λ b. refl }

read_same : (s t u : Coordinator) → u ≡ t → IsRead s t → IsRead s u
read_same s t u e h = subst (λ (v : Coordinator). IsRead s v) (sym e) h

pub good_item : (c : Config) (w : World) (p : ℕ) (x : Item) (a : ℕ) (t : Mark) → Good c w → IsOf a x t → p < length w.logs
    → Invariant (push_mark (app_of c w a) p t) → IsKept c p (marks_of a (log_at w p) ++ t ∷ []) → Good c (with_item w p x)
good_item c w p x a t g is l inv kept = record {
  apps = each (λ b. Invariant (app_of c (with_item w p x) b)) a
      (subst Invariant (sym (app_pushed c w p x a t is.itself (is.no_entry a) l)) inv)
      (λ b n. subst Invariant (sym (app_same c w p x b (is.others b n) (is.no_entry b) l)) (g.apps b));
  brokers = each (λ b. (q : ℕ) → IsKept c q (marks_of b (log_at (with_item w p x) q))) a
      (λ q. subst (IsKept c q) (sym (view_some (mark_in a) w p x t is.itself l q))
      (pushed_cases (λ r ts. IsKept c r ts) (λ r. marks_of a (log_at w r)) p t (λ r n. g.brokers a r) kept q))
      (λ b n q. subst (IsKept c q) (sym (view_none (mark_in b) w p x (is.others b n) l q)) (g.brokers b q));
  due = All-weaker (IsDue c w) (IsDue c (with_item w p x)) (due_same c w (with_item w p x) (λ b. ap (decisions_from [] fresh) (view_none (entry_in b) w p x (is.no_entry b) l (txn_index c b)))) w.messages g.due;
  steps = λ b. subst (Steps fresh) (sym (view_none (entry_in b) w p x (is.no_entry b) l (txn_index c b))) (g.steps b);
  read = λ b. read_same _ _ _ (ap (last_state fresh) (view_none (entry_in b) w p x (is.no_entry b) l (txn_index c b))) (g.read b);
  places = g.places;
  sessions = g.sessions;
  coordinators = g.coordinators;
  logs = length-set w.logs p (log_at w p ++ x ∷ []) ∙ g.logs;
}

pub good_fed : (c : Config) (w : World) (p m : ℕ) → Good c w → p < length w.logs → Good c (with_item w p (Fed m))
good_fed c w p m g l = record {
  apps = λ b. subst Invariant (sym (app_same c w p (Fed m) b refl refl l)) (g.apps b);
  brokers = λ b q. subst (IsKept c q) (sym (view_none (mark_in b) w p (Fed m) refl l q)) (g.brokers b q);
  due = All-weaker (IsDue c w) (IsDue c (with_item w p (Fed m))) (due_same c w (with_item w p (Fed m)) (λ b. ap (decisions_from [] fresh) (view_none (entry_in b) w p (Fed m) refl l (txn_index c b)))) w.messages g.due;
  steps = λ b. subst (Steps fresh) (sym (view_none (entry_in b) w p (Fed m) (refl) l (txn_index c b))) (g.steps b);
  read = λ b. read_same _ _ _ (ap (last_state fresh) (view_none (entry_in b) w p (Fed m) refl l (txn_index c b))) (g.read b);
  places = g.places;
  sessions = g.sessions;
  coordinators = g.coordinators;
  logs = length-set w.logs p (log_at w p ++ Fed m ∷ []) ∙ g.logs;
}

-- a state that the log says
pub good_coord : (c : Config) (w : World) (a : ℕ) (s : Coordinator) → Good c w → a < length w.coordinators → IsRead s (reread c w a) → All (IsPlace c) s.partitions → Invariant (with_state (app_of c w a) s) → Good c (with_coord w a s)
good_coord c w a s g l r ps inv = record {
  apps = each (λ b. Invariant (app_of c (with_coord w a s) b)) a (subst Invariant (sym (app_coord c w a s l)) inv) (λ b n. subst Invariant (sym (app_coord_other c w a s b n)) (g.apps b));
  brokers = g.brokers;
  due = All-weaker (IsDue c w) (IsDue c (with_coord w a s)) (due_same c w (with_coord w a s) (λ b. refl)) w.messages g.due;
  steps = g.steps;
  read = each (λ b. IsRead (coord_at (with_coord w a s) b) (reread c w b)) a
      (subst (λ (v : Coordinator). IsRead v (reread c w a)) (sym (coord_itself w a s l)) r)
      (λ b n. subst (λ (v : Coordinator). IsRead v (reread c w b)) (sym (coord_other w a s b n)) (g.read b));
  places = each (λ b. All (IsPlace c) (coord_at (with_coord w a s) b).partitions) a
      (subst (λ (v : Coordinator). All (IsPlace c) v.partitions) (sym (coord_itself w a s l)) ps)
      (λ b n. subst (λ (v : Coordinator). All (IsPlace c) v.partitions) (sym (coord_other w a s b n)) (g.places b));
  sessions = g.sessions;
  coordinators = length-set w.coordinators a s ∙ g.coordinators;
  logs = g.logs;
}

-- ---- a record of the transaction log

last_snoc : (s : Coordinator) (xs : List Entry) (x : Entry) → last_state s (xs ++ x ∷ []) ≡ state_of x
last_snoc s [] x = refl
last_snoc s (y ∷ ys) x = last_snoc (state_of y) ys x

decisions_snoc : (ds : List Decision) (s : Coordinator) (xs : List Entry) (x : Entry) → decisions_from ds s (xs ++ x ∷ []) ≡ with_decision (decisions_from ds s xs) x.status (last_state s xs).epoch x
decisions_snoc ds s [] x = refl
decisions_snoc ds s (y ∷ ys) x = decisions_snoc (with_decision ds y.status s.epoch y) (state_of y) ys x

entries_more : (c : Config) (w : World) (a : ℕ) (x : Entry) → txn_index c a < length w.logs → entries_of a (log_at (with_item w (txn_index c a) (State a x w.events)) (txn_index c a)) ≡ entries_of a (log_at w (txn_index c a)) ++ x ∷ []
entries_more c w a x l = ap (filter_map (entry_in a)) (log_itself w (txn_index c a) (State a x w.events) l) ∙ item_some (entry_in a) (log_at w (txn_index c a)) (State a x w.events) x (rw (is_same a) refl)

no_entry_of : (a b : ℕ) (x : Entry) (m : ℕ) → b ≢ a → entry_in b (State a x m) ≡ None
no_entry_of a b x m n = rw (not_same a b (λ q. n (sym q))) refl

-- the application after a record
abbrev pub after_entry : Config → World → ℕ → Entry → App
after_entry c w a x = record {
  status = x.status;
  epoch = x.epoch;
  partitions = x.partitions;
  awaited = x.partitions;
  decisions = with_decision (app_of c w a).decisions x.status (coord_at w a).epoch x;
  marks = (app_of c w a).marks;
}

decisions_written : (c : Config) (w : World) (a : ℕ) (x : Entry) → txn_index c a < length w.logs → IsRead (coord_at w a) (reread c w a)
    → (app_of c (written none c w a x) a).decisions ≡ with_decision (app_of c w a).decisions x.status (coord_at w a).epoch x
decisions_written c w a x l r =
    ap (decisions_from [] fresh) (entries_more c w a x l)
    ∙ (decisions_snoc [] fresh (entries_of a (log_at w (txn_index c a))) x
    ∙ ap (λ (e : ℕ). with_decision (app_of c w a).decisions x.status e x) (sym r.epoch))

pub app_written : (c : Config) (w : World) (a : ℕ) (x : Entry) → a < length w.coordinators → txn_index c a < length w.logs → IsRead (coord_at w a) (reread c w a) → app_of c (written none c w a x) a ≡ after_entry c w a x
app_written c w a x la l r =
    let s : coord_at (written none c w a x) a ≡ state_of x = coord_itself (with_item w (txn_index c a) (State a x w.events)) a (state_of x) la in
    app_is _ _ (ap (λ (v : Coordinator). v.status) s) (ap (λ (v : Coordinator). v.epoch) s) (ap (λ (v : Coordinator). v.partitions) s) (ap (λ (v : Coordinator). v.awaited) s)
    (decisions_written c w a x l r) (view_none (mark_in a) w (txn_index c a) (State a x w.events) refl l)

grown : (ds : List Decision) (t : Status) (e : ℕ) (x : Entry) (p m : ℕ) (k : Kind) → IsOrdered ds p m k → IsOrdered (with_decision ds t e x) p m k
grown ds Empty e x p m k h = h
grown ds Ongoing e x p m k h = h
grown ds (Complete l) e x p m k h = h
grown ds (Prepare l) e x p m k h = ordered_more ds _ p m k h

due_grown : (c : Config) (w v : World) → ((a p m : ℕ) (k : Kind) → IsOrdered (app_of c w a).decisions p m k → IsOrdered (app_of c v a).decisions p m k) → (x : Message) → IsDue c w x → IsDue c v x
due_grown c w v e (messages.Output a f p s x n) h = h
due_grown c w v e (messages.Offset a f g q n) h = h
due_grown c w v e (messages.End a f k) h = h
due_grown c w v e (messages.Marker a m k p) h = (h.0, h.1, e a p m k h.2)

steps_snoc : (s : Coordinator) (xs : List Entry) (x : Entry) → Steps s xs → Moves (last_state s xs).started (last_state s xs).status (last_state s xs).epoch x.status x.epoch → Steps s (xs ++ x ∷ [])
steps_snoc s [] x h m = (m, tt)
steps_snoc s (y ∷ ys) x h m = (h.0, steps_snoc (state_of y) ys x h.1 m)

moves_read : (s t : Coordinator) (x : Entry) → IsRead s t → Moves s.started s.status s.epoch x.status x.epoch → Moves t.started t.status t.epoch x.status x.epoch
moves_read s t x r m = subst (λ (b : Bool). Moves b t.status t.epoch x.status x.epoch) r.started (subst (λ (u : Status). Moves s.started u t.epoch x.status x.epoch) r.status (subst (λ (e : ℕ). Moves s.started s.status e x.status x.epoch) r.epoch m))

pub good_written : (c : Config) (w : World) (a : ℕ) (x : Entry) → Good c w → a < length w.coordinators → txn_index c a < length w.logs → All (IsPlace c) x.partitions → Invariant (after_entry c w a x) → Moves (coord_at w a).started (coord_at w a).status (coord_at w a).epoch x.status x.epoch → Good c (written none c w a x)
good_written c w a x g la l ps inv mv =
    let other : (b : ℕ) → b ≢ a → app_of c (written none c w a x) b ≡ app_of c w b =
    λ b n. app_coord_other c (with_item w (txn_index c a) (State a x w.events)) a (state_of x) b n ∙ app_same c w (txn_index c a) (State a x w.events) b refl (no_entry_of a b x w.events n) l in
    record {
      apps = each (λ b. Invariant (app_of c (written none c w a x) b)) a (subst Invariant (sym (app_written c w a x la l (g.read a))) inv) (λ b n. subst Invariant (sym (other b n)) (g.apps b));
      brokers = λ b q. subst (IsKept c q) (sym (view_none (mark_in b) w (txn_index c a) (State a x w.events) refl l q)) (g.brokers b q);
      due = All-weaker (IsDue c w) (IsDue c (written none c w a x)) (due_grown c w (written none c w a x)
          (each (λ b. (p m : ℕ) (k : Kind) → IsOrdered (app_of c w b).decisions p m k → IsOrdered (app_of c (written none c w a x) b).decisions p m k) a
          (λ p m k h. subst (λ (ds : List Decision). IsOrdered ds p m k) (sym (decisions_written c w a x l (g.read a))) (grown (app_of c w a).decisions x.status (coord_at w a).epoch x p m k h))
          (λ b n p m k h. subst (λ (s : App). IsOrdered s.decisions p m k) (sym (other b n)) h))) w.messages g.due;
      steps = each (λ b. Steps fresh (entries_of b (log_at (written none c w a x) (txn_index c b)))) a
          (subst (Steps fresh) (sym (entries_more c w a x l)) (steps_snoc fresh (entries_of a (log_at w (txn_index c a))) x (g.steps a) (moves_read (coord_at w a) (reread c w a) x (g.read a) mv)))
          (λ b n. subst (Steps fresh) (sym (view_none (entry_in b) w (txn_index c a) (State a x w.events) (no_entry_of a b x w.events n) l (txn_index c b))) (g.steps b));
      read = each (λ b. IsRead (coord_at (written none c w a x) b) (reread c (written none c w a x) b)) a
          (let s : coord_at (written none c w a x) a ≡ state_of x = coord_itself (with_item w (txn_index c a) (State a x w.events)) a (state_of x) la in
          let t : reread c (written none c w a x) a ≡ state_of x = ap (last_state fresh) (entries_more c w a x l) ∙ last_snoc fresh (entries_of a (log_at w (txn_index c a))) x in
          let e : coord_at (written none c w a x) a ≡ reread c (written none c w a x) a = s ∙ sym t in
          record { started = ap (λ (v : Coordinator). v.started) e; status = ap (λ (v : Coordinator). v.status) e; epoch = ap (λ (v : Coordinator). v.epoch) e; partitions = ap (λ (v : Coordinator). v.partitions) e })
          (λ b n. subst (λ (v : Coordinator). IsRead v (reread c (written none c w a x) b)) (sym (coord_other (with_item w (txn_index c a) (State a x w.events)) a (state_of x) b n))
          (read_same _ _ _ (ap (last_state fresh) (view_none (entry_in b) w (txn_index c a) (State a x w.events) (no_entry_of a b x w.events n) l (txn_index c b))) (g.read b)));
      places = each (λ b. All (IsPlace c) (coord_at (written none c w a x) b).partitions) a
          (subst (λ (v : Coordinator). All (IsPlace c) v.partitions) (sym (coord_itself (with_item w (txn_index c a) (State a x w.events)) a (state_of x) la)) ps)
          (λ b n. subst (λ (v : Coordinator). All (IsPlace c) v.partitions) (sym (coord_other (with_item w (txn_index c a) (State a x w.events)) a (state_of x) b n)) (g.places b));
      sessions = g.sessions;
      coordinators = length-set w.coordinators a (state_of x) ∙ g.coordinators;
      logs = length-set w.logs (txn_index c a) (log_at w (txn_index c a) ++ State a x w.events ∷ []) ∙ g.logs;
    }
