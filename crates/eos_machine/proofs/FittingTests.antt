-- The tests of what fits say what they are meant to say.
use Rattle.std.proofs.Common.{◌≡◌, ℕ, ◌^◌, ◌<◌, ◌&&◌, true, ◌-◌, List, [], ◌∷◌, length, refl, ◌+◌}
use Rattle.std.specs.Prelude.{nat_lt, nat_le}
use Rattle.std.specs.List.{All, list_all}
use Rattle.std.proofs.lemmas.List.Elements.{All-nil, All-cons, All-head, All-tail}
use Rattle.std.proofs.lemmas.Bool.{and_parts, and_from, ltb-true, lt-ltb, leb-true, le-leb}
use Rattle.eos_machine.specs.declared.config.Config.{Config}
use Rattle.eos_machine.specs.declared.item.Item.{Item}
use Rattle.eos_machine.specs.declared.item.Item.TheVariants.{Fed, State, Output, Offset, Marker}
use Rattle.eos_machine.specs.LogIndexes.{application_count, log_count}
use Rattle.eos_machine.specs.Sessions.{claimed_topic}
use Rattle.eos_machine.specs.Fitting.{AreAllThere, IsFit}
use Rattle.eos_machine.specs.Batches.{event_of, last_or}
use Rattle.eos_machine.proofs.Grouping.{all_at}
use Rattle.eos_machine.specs.steps.Fits.{are_all_there, is_fit}

below_all : (n : ℕ) (ps : List ℕ) → list_all (λ p. nat_lt p n) ps ≡ true → All (λ p. p < n) ps
below_all n [] h = All-nil (λ p. p < n)
below_all n (p ∷ ps) h = let b = and_parts (nat_lt p n) (list_all (λ q. nat_lt q n) ps) h in All-cons (λ q. q < n) p ps (ltb-true p n b.0) (below_all n ps b.1)

all_below : (n : ℕ) (ps : List ℕ) → All (λ p. p < n) ps → list_all (λ p. nat_lt p n) ps ≡ true
all_below n [] h = refl
all_below n (p ∷ ps) h = and_from (nat_lt p n) (list_all (λ q. nat_lt q n) ps) (lt-ltb p n (All-head (λ q. q < n) p ps h)) (all_below n ps (All-tail (λ q. q < n) p ps h))

there : (c : Config) (ps : List ℕ) → are_all_there c ps ≡ true → AreAllThere c ps
there c ps h = let b = and_parts (list_all (λ p. nat_lt p (log_count c)) ps) (nat_le (length ps) (log_count c)) h in (below_all (log_count c) ps b.0, leb-true (length ps) (log_count c) b.1)

are_there : (c : Config) (ps : List ℕ) → AreAllThere c ps → are_all_there c ps ≡ true
are_there c ps h = and_from _ _ (all_below (log_count c) ps h.0) (le-leb (length ps) (log_count c) h.1)

pub fits : (c : Config) (x : Item) → is_fit c x ≡ true → IsFit c x
fits c (Fed n) h = ltb-true n (2 ^ 63) h
fits c (State a x n) h =
    let d = and_parts (nat_lt a (application_count c) && nat_lt x.epoch (2 ^ 15) && are_all_there c x.partitions) (nat_lt n (2 ^ 63)) h in
    let e = and_parts (nat_lt a (application_count c) && nat_lt x.epoch (2 ^ 15)) (are_all_there c x.partitions) d.0 in
    let f = and_parts (nat_lt a (application_count c)) (nat_lt x.epoch (2 ^ 15)) e.0 in
    (ltb-true a (application_count c) f.0, ltb-true x.epoch (2 ^ 15) f.1, there c x.partitions e.1, ltb-true n (2 ^ 63) d.1)
fits c (Output a e s x v n) h =
    let b = and_parts (nat_lt a (application_count c) && nat_lt e (2 ^ 15) && nat_lt s (2 ^ 31) && nat_le (length (claimed_topic x)) 249 && nat_lt v (2 ^ 63)) (nat_lt n (2 ^ 63)) h in
    let d = and_parts (nat_lt a (application_count c) && nat_lt e (2 ^ 15) && nat_lt s (2 ^ 31) && nat_le (length (claimed_topic x)) 249) (nat_lt v (2 ^ 63)) b.0 in
    let f = and_parts (nat_lt a (application_count c) && nat_lt e (2 ^ 15) && nat_lt s (2 ^ 31)) (nat_le (length (claimed_topic x)) 249) d.0 in
    let g = and_parts (nat_lt a (application_count c) && nat_lt e (2 ^ 15)) (nat_lt s (2 ^ 31)) f.0 in
    let i = and_parts (nat_lt a (application_count c)) (nat_lt e (2 ^ 15)) g.0 in
    (ltb-true a (application_count c) i.0, ltb-true e (2 ^ 15) i.1, ltb-true s (2 ^ 31) g.1, leb-true (length (claimed_topic x)) 249 f.1, ltb-true v (2 ^ 63) d.1, ltb-true n (2 ^ 63) b.1)
fits c (Offset a e q v n) h =
    let d = and_parts (nat_lt a (application_count c) && nat_lt e (2 ^ 15) && nat_lt q (c.inputs + c.outputs)) (nat_lt n (2 ^ 63)) h in
    let f = and_parts (nat_lt a (application_count c) && nat_lt e (2 ^ 15)) (nat_lt q (c.inputs + c.outputs)) d.0 in
    let g = and_parts (nat_lt a (application_count c)) (nat_lt e (2 ^ 15)) f.0 in
    (ltb-true a (application_count c) g.0, ltb-true e (2 ^ 15) g.1, ltb-true q (c.inputs + c.outputs) f.1, ltb-true n (2 ^ 63) d.1)
fits c (Marker a e k n) h =
    let d = and_parts (nat_lt a (application_count c) && nat_lt e (2 ^ 15)) (nat_lt n (2 ^ 63)) h in
    let f = and_parts (nat_lt a (application_count c)) (nat_lt e (2 ^ 15)) d.0 in
    (ltb-true a (application_count c) f.0, ltb-true e (2 ^ 15) f.1, ltb-true n (2 ^ 63) d.1)

fit_is : (c : Config) (x : Item) → IsFit c x → is_fit c x ≡ true
fit_is c (Fed n) h = lt-ltb n (2 ^ 63) h
fit_is c (State a x n) h = rw (lt-ltb a (application_count c) h.0, lt-ltb x.epoch (2 ^ 15) h.1, are_there c x.partitions h.2, lt-ltb n (2 ^ 63) h.3) refl
fit_is c (Output a e s x v n) h = rw (lt-ltb a (application_count c) h.0, lt-ltb e (2 ^ 15) h.1, lt-ltb s (2 ^ 31) h.2, le-leb (length (claimed_topic x)) 249 h.3, lt-ltb v (2 ^ 63) h.4, lt-ltb n (2 ^ 63) h.5) refl
fit_is c (Offset a e q v n) h = rw (lt-ltb a (application_count c) h.0, lt-ltb e (2 ^ 15) h.1, lt-ltb q (c.inputs + c.outputs) h.2, lt-ltb n (2 ^ 63) h.3) refl
fit_is c (Marker a e k n) h = rw (lt-ltb a (application_count c) h.0, lt-ltb e (2 ^ 15) h.1, lt-ltb n (2 ^ 63) h.2) refl

pub all_fit : (c : Config) (xs : List Item) → list_all (is_fit c) xs ≡ true → All (IsFit c) xs
all_fit c [] h = All-nil (IsFit c)
all_fit c (x ∷ xs) h = let b = and_parts (is_fit c x) (list_all (is_fit c) xs) h in All-cons (IsFit c) x xs (fits c x b.0) (all_fit c xs b.1)

pub fit_all : (c : Config) (xs : List Item) → All (IsFit c) xs → list_all (is_fit c) xs ≡ true
fit_all c [] h = refl
fit_all c (x ∷ xs) h = and_from (is_fit c x) (list_all (is_fit c) xs) (fit_is c x (All-head (IsFit c) x xs h)) (fit_all c xs (All-tail (IsFit c) x xs h))

-- the event of what fits
pub fit_event : (c : Config) (x : Item) → IsFit c x → event_of x < 2 ^ 63
fit_event c (Fed n) h = h
fit_event c (State a x n) h = h.3
fit_event c (Output a e s x v n) h = h.5
fit_event c (Offset a e q v n) h = h.3
fit_event c (Marker a e k n) h = h.2

pub fit_last : (c : Config) (x : Item) (ys : List Item) → All (IsFit c) (x ∷ ys) → IsFit c (last_or x ys)
fit_last c x ys h = all_at (IsFit c) ys (length ys - 1) x (All-head (IsFit c) x ys h) (All-tail (IsFit c) x ys h)
