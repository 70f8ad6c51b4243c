-- Room in the logs.
use Rattle.std.proofs.Common.{◌≡◌, ◌++◌, ◌∷◌, [], ℕ, ◌+◌, ◌-◌, ◌<◌, ◌≤◌, List, slice_set, slice_index_or, take, length, ◌∙◌, sym, ap, subst, arith}
use Rattle.std.specs.List.{All}
use Rattle.std.proofs.lemmas.List.{map-set, get_or-map}
use Rattle.std.proofs.Math.Seq.{map-set_same}
use Rattle.std.proofs.lemmas.List.Elements.{All-set, All-push, All-take, All-weaker}
use Rattle.eos_machine.specs.declared.item.Item.{Item}
use Rattle.eos_machine.specs.World.{World, log_at}
use Rattle.eos_machine.specs.declared.state.Election.{Election}
use Rattle.eos_machine.specs.Elections.{epoch_at, election_of}
use Rattle.eos_broker.specs.Kept.{LogView}
use Rattle.eos_broker.specs.Held.{IsKeptFor, items_of}
use Rattle.eos_broker.specs.Named.{IsFrom}

-- a log with one item more
pub items_put : (logs : List LogView) (p : ℕ) (u v : LogView) (x : Item) → p < length logs → u ≡ slice_index_or logs p u → v.items ≡ u.items ++ x ∷ []
    → items_of (slice_set logs p v) ≡ slice_set (items_of logs) p (slice_index_or (items_of logs) p [] ++ x ∷ [])
items_put logs p u v x i is e =
    let old : slice_index_or (items_of logs) p [] ≡ u.items = get_or-map (λ l. l.items) logs p u [] i ∙ ap (λ l. l.items) (sym is) in
    map-set (λ l. l.items) logs p v ∙ ap (λ ys. slice_set (items_of logs) p ys) (e ∙ ap (λ ys. ys ++ x ∷ []) (sym old))

-- a log of which only the front is kept
pub items_taken : (logs : List LogView) (p k : ℕ) (u v : LogView) → p < length logs → u ≡ slice_index_or logs p u → v.items ≡ take k u.items
    → items_of (slice_set logs p v) ≡ slice_set (items_of logs) p (take k (slice_index_or (items_of logs) p []))
items_taken logs p k u v i is e =
    let old : slice_index_or (items_of logs) p [] ≡ u.items = get_or-map (λ l. l.items) logs p u [] i ∙ ap (λ l. l.items) (sym is) in
    map-set (λ l. l.items) logs p v ∙ ap (λ ys. slice_set (items_of logs) p ys) (e ∙ ap (take k) (sym old))

-- the election that a store adds is the machine's
pub election_pushed : (w : World) (p k e n : ℕ) (es new : List Election) → es ≡ w.elections → e ≡ epoch_at w p → n ≡ length (log_at w p) → new ≡ es ++ record { place = p; leader_epoch = e + 1; start = k; lost = n - k } ∷ []
    → new ≡ w.elections ++ election_of w p k ∷ []
election_pushed w p k e n es new a b m h =
    h ∙ (λ i. a i ++ record { place = p; leader_epoch = b i + 1; start = k; lost = m i - k } ∷ [])

-- a log that only grew its room
pub items_same : (logs : List LogView) (p : ℕ) (u v : LogView) → u ≡ slice_index_or logs p u → v.items ≡ u.items → items_of (slice_set logs p v) ≡ items_of logs
items_same logs p u v is e = map-set_same (λ l. l.items) logs p v u (e ∙ ap (λ l. l.items) is)

pub less_room : (a n m : ℕ) (logs : List LogView) → m ≤ n → All (IsKeptFor a n) logs → All (IsKeptFor a m) logs
less_room a n m logs l h = All-weaker (IsKeptFor a n) (IsKeptFor a m) (λ v k. (k.0, omega (arith, k.1, l), k.2)) logs h

-- what is kept of a log with one item more, and of one with other room
pub kept_put : (a n p : ℕ) (logs : List LogView) (u v : LogView) (x : Item) → p < length logs → u ≡ slice_index_or logs p u → IsFrom a x → v ≡ record { items = u.items ++ x ∷ []; applications = u.applications; room = u.room - 1 }
    → All (IsKeptFor a n) logs → All (IsKeptFor a (n - 1)) (slice_set logs p v)
kept_put a n p logs u v x i is f e h =
    let k : IsKeptFor a n u = subst (IsKeptFor a n) (sym is) (h p u i) in
    All-set (IsKeptFor a (n - 1)) logs p v (subst (IsKeptFor a (n - 1)) (sym e) (k.0, omega (arith, k.1), All-push (IsFrom a) u.items x k.2 f)) (less_room a n (n - 1) logs (omega arith) h)

pub kept_grown : (a n p : ℕ) (logs : List LogView) (u v : LogView) → p < length logs → u ≡ slice_index_or logs p u → v ≡ record { items = u.items; applications = u.applications; room = n }
    → All (IsKeptFor a 0) logs → IsKeptFor a n v
kept_grown a n p logs u v i is e h =
    let k : IsKeptFor a 0 u = subst (IsKeptFor a 0) (sym is) (h p u i) in
    subst (IsKeptFor a n) (sym e) (k.0, omega arith, k.2)

pub no_room : (a n : ℕ) (v : LogView) → IsKeptFor a n v → IsKeptFor a 0 v
no_room a n v k = (k.0, omega arith, k.2)

pub kept_same : (a n p : ℕ) (logs : List LogView) (u v : LogView) → p < length logs → u ≡ slice_index_or logs p u → v ≡ u → All (IsKeptFor a n) logs → All (IsKeptFor a n) (slice_set logs p v)
kept_same a n p logs u v i is e h = All-set (IsKeptFor a n) logs p v (subst (IsKeptFor a n) (sym e) (subst (IsKeptFor a n) (sym is) (h p u i))) h

pub kept_taken : (a n p k : ℕ) (logs : List LogView) (u v : LogView) → p < length logs → u ≡ slice_index_or logs p u → v ≡ record { items = take k u.items; applications = u.applications; room = u.room } → All (IsKeptFor a n) logs
    → All (IsKeptFor a n) (slice_set logs p v)
kept_taken a n p k logs u v i is e h =
    let w : IsKeptFor a n u = subst (IsKeptFor a n) (sym is) (h p u i) in
    All-set (IsKeptFor a n) logs p v (subst (IsKeptFor a n) (sym e) (w.0, w.1, All-take (IsFrom a) k u.items w.2)) h
