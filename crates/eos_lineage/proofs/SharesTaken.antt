-- Shares, each of whose keys are those of its inputs, put together.
use Rattle.std.proofs.Common.{◌≡◌, ◌<◌, ◌≤◌, ◌+◌, ℕ, zero, suc, List, [], ◌∷◌, ◌++◌, length, map, drop, take, get_or, Option, Some, refl, sym, subst, ap, ◌∙◌, arith}
use Rattle.std.specs.Prelude.{IfSome}
use Rattle.std.specs.List.{flat_map, sum, sum_by}
use Rattle.std.proofs.lemmas.Grind.{flat_map-append}
use Rattle.std.proofs.lemmas.List.{append-nil, append_assoc, map-append}
use Rattle.std.proofs.lemmas.List.Sums.{sum_by-cons, sum_by-append}
use Rattle.eos_base.specs.declared.partition_name.PartitionName.{PartitionName}
use Rattle.eos_claims.specs.declared.place.Place.{Place}
use Rattle.eos_claims.specs.Outputs.{Application}
use Rattle.eos_commits.specs.Applications.{inputs_below}
use Rattle.eos_lineage.specs.declared.books.Books.{Books}
use Rattle.eos_lineage.specs.declared.shares.Share.{Share}
use Rattle.eos_lineage.specs.steps.Keys.{spot, keys_for, Told, AreBooks, HasTaken}
use Rattle.eos_lineage.specs.steps.Shares.{Follow, below_of, untaken, inputs_between, IsCounted, AreCounted, AddUp}
use Rattle.eos_lineage.proofs.Stretches.{nothing_between, both_between}
use Rattle.eos_lineage.proofs.TakenInputs.{taken_none, taken_then, all_inputs}

-- one share more
pub one_more : (from : ℕ) (keys : List ℕ) (ss : List Share) (mid : ℕ) (left : List ℕ) (s : Share) (rest : List ℕ) → Follow from keys ss mid left
    → s.from ≡ mid → mid ≤ s.until → left ≡ s.keys.now ++ rest → Follow from keys (ss ++ s ∷ []) s.until rest
one_more from keys [] mid left s rest f e l k = (e ∙ sym f.0, subst (λ m. m ≤ s.until) (sym f.0) l, rest, f.1 ∙ k, (refl, refl))
one_more from keys (t ∷ ss) mid left s rest f e l k = (f.0, f.1, f.2, f.3, one_more t.until f.2 ss mid left s rest f.4 e l k)

-- the same, by what stands for them
pub then_one : (from : ℕ) (keys : List ℕ) (ss more : List Share) (mid until : ℕ) (left rest : List ℕ) (s : Share) (run : List ℕ) → Follow from keys ss mid left → s.from ≡ mid → mid ≤ s.until
    → left ≡ s.keys.now ++ run → more ≡ ss ++ s ∷ [] → until ≡ s.until → rest ≡ run → Follow from keys more until rest
then_one from keys ss more mid until left rest s run f e l k p q r =
    subst (λ (zs : List Share). Follow from keys zs until rest) (sym p)
    (subst (λ u. Follow from keys (ss ++ s ∷ []) u rest) (sym q)
    (subst (λ (zs : List ℕ). Follow from keys (ss ++ s ∷ []) s.until zs) (sym r) (one_more from keys ss mid left s run f e l k)))

pub then_none : (from : ℕ) (keys : List ℕ) (ss more : List Share) (mid until : ℕ) (left rest : List ℕ) → Follow from keys ss mid left → more ≡ ss → until ≡ mid → rest ≡ left → Follow from keys more until rest
then_none from keys ss more mid until left rest f p q r =
    subst (λ (zs : List Share). Follow from keys zs until rest) (sym p) (subst (λ u. Follow from keys ss u rest) (sym q) (subst (Follow from keys ss mid) (sym r) f))

-- one count more
pub one_counted : (before after : List (Option ℕ)) (total more n : ℕ) → (ns : List ℕ) × (before ≡ map Some ns) × (total ≡ sum ns) → after ≡ before ++ Some n ∷ [] → more ≡ total + n
    → (ns : List ℕ) × (after ≡ map Some ns) × (more ≡ sum ns)
one_counted before after total more n h is e = (h.0 ++ n ∷ [], is ∙ (ap (λ (os : List (Option ℕ)). os ++ Some n ∷ []) h.1 ∙ sym (map-append Some h.0 (n ∷ []))), all)
  where
    one : sum_by (λ x. x) (n ∷ []) ≡ n
    one = let c = sum_by-cons (λ x. x) n [] in let z : sum_by (λ (x : ℕ). x) [] ≡ 0 = refl in omega (arith, c, z)

    all : more ≡ sum_by (λ x. x) (h.0 ++ n ∷ [])
    all = let t : total ≡ sum_by (λ x. x) h.0 = h.2 in let s = sum_by-append (λ x. x) h.0 (n ∷ []) in omega (arith, e, t, s, one)

told_then : (ks ss more rest : List ℕ) → Told ks ss → Told more rest → Told (ks ++ more) (ss ++ rest)
told_then ks [] more rest t u = subst (λ (zs : List ℕ). Told (zs ++ more) rest) (sym t) u
told_then ks (s ∷ ss) more rest t u = (t.0, t.1, t.2 ++ more, ap (λ (zs : List ℕ). zs ++ more) t.3 ∙ append_assoc (keys_for s t.0) t.2 more, told_then t.2 ss more rest t.4 u)

-- the keys of one list of inputs, and then those of another one
keys_then : (ns : List PartitionName) (xs ys : List ℕ) (n m : ℕ) (is js : List Place) → HasTaken ns (record { keys = xs; inputs = 0 }) (record { keys = []; inputs = n }) is
    → HasTaken ns (record { keys = ys; inputs = 0 }) (record { keys = []; inputs = m }) js → HasTaken ns (record { keys = xs ++ ys; inputs = 0 }) (record { keys = []; inputs = n + m }) (is ++ js)
keys_then ns xs ys n m is js h k = taken_then ns (record { keys = xs ++ ys; inputs = 0 }) (record { keys = ys; inputs = n }) (record { keys = []; inputs = n + m }) is js first second
  where
    first : HasTaken ns (record { keys = xs ++ ys; inputs = 0 }) (record { keys = ys; inputs = n }) is
    first = record {
      told = λ rest t. told_then xs (map (spot ns) is) ys rest (subst (Told xs) (append-nil (map (spot ns) is)) (h.told [] refl)) t;
      count = h.count;
      offsets = h.offsets;
    }

    second : HasTaken ns (record { keys = ys; inputs = n }) (record { keys = []; inputs = n + m }) js
    second = record { told = k.told; count = (let p = k.count in omega (arith, p)); offsets = k.offsets }

rises : (from : ℕ) (keys : List ℕ) (ss : List Share) (until : ℕ) (rest : List ℕ) → Follow from keys ss until rest → from ≤ until
rises from keys [] until rest f = let e = f.0 in omega (arith, e)
rises from keys (s ∷ ss) until rest f = let l = f.1 in let r = rises s.until f.2 ss until rest f.4 in omega (arith, l, r)

pub all_counted : (a : Application) (b : Books) (from : ℕ) (keys : List ℕ) (ss : List Share) (until : ℕ) (ns : List ℕ) → Follow from keys ss until [] → length ns ≡ length ss → AreCounted a b ss ns
    → HasTaken b.names.now (record { keys = keys; inputs = 0 }) (record { keys = []; inputs = sum ns }) (inputs_between a b from until)
all_counted a b from keys [] until [] f len each =
    let none : [] ≡ inputs_between a b from until = ap (flat_map (below_of a b.sources.now)) (sym (nothing_between from until b.parts.now (let e = f.0 in omega (arith, e)))) in
    subst (HasTaken b.names.now (record { keys = keys; inputs = 0 }) (record { keys = []; inputs = 0 })) none
    (subst (λ (ks : List ℕ). HasTaken b.names.now (record { keys = ks; inputs = 0 }) (record { keys = []; inputs = 0 }) []) (sym f.1) (taken_none b.names.now (record { keys = []; inputs = 0 })))
all_counted a b from keys [] until (n ∷ ns) f len each = absurd (omega (arith, len))
all_counted a b from keys (s ∷ ss) until [] f len each = absurd (omega (arith, len))
all_counted a b from keys (s ∷ ss) until (n ∷ ns) f len each =
    let names = b.names.now in
    let g = below_of a b.sources.now in
    let here : HasTaken names (untaken s) (record { keys = []; inputs = n }) (inputs_between a b from s.until) = subst (λ k. HasTaken names (untaken s) (record { keys = []; inputs = n }) (inputs_between a b k s.until)) f.0 (each 0 s n (omega arith)) in
    let more = all_counted a b s.until f.2 ss until ns f.4 (omega (arith, len)) (λ i t m lt. each (suc i) t m (omega (arith, lt))) in
    let places : inputs_between a b from s.until ++ inputs_between a b s.until until ≡ inputs_between a b from until
    = sym (flat_map-append g (drop from (take s.until b.parts.now)) (drop s.until (take until b.parts.now))) ∙ ap (flat_map g) (both_between from s.until until b.parts.now f.1 (rises s.until f.2 ss until [] f.4)) in
    let count : n + sum ns ≡ sum (n ∷ ns) = sym (sum_by-cons (λ x. x) n ns) in
    subst (λ (ks : List ℕ). HasTaken names (record { keys = ks; inputs = 0 }) (record { keys = []; inputs = sum (n ∷ ns) }) (inputs_between a b from until)) (sym f.3)
    (subst (λ k. HasTaken names (record { keys = s.keys.now ++ f.2; inputs = 0 }) (record { keys = []; inputs = k }) (inputs_between a b from until)) count
    (subst (HasTaken names (record { keys = s.keys.now ++ f.2; inputs = 0 }) (record { keys = []; inputs = n + sum ns })) places
    (keys_then names s.keys.now f.2 n (sum ns) (inputs_between a b from s.until) (inputs_between a b s.until until) here more)))

-- each count is that of its share, where all are there
pub each_counted : (a : Application) (b : Books) (ss : List Share) (os : List (Option ℕ)) (ns : List ℕ) → os ≡ map Some ns → length os ≡ length ss
    → ((i : ℕ) (o : Option ℕ) (s : Share) → i < length ss → IfSome (get_or os i o) (IsCounted a b (get_or ss i s))) → AreCounted a b ss ns
each_counted a b ss os ns is len each i s n lt =
    let at : get_or os i (Some n) ≡ Some (get_or ns i n) = ap (λ (zs : List (Option ℕ)). get_or zs i (Some n)) is ∙ mapped ns i n in
    subst (λ (o : Option ℕ). IfSome o (IsCounted a b (get_or ss i s))) at (each i (Some n) s lt)
  where
    mapped : (ns : List ℕ) (i n : ℕ) → get_or (map Some ns) i (Some n) ≡ Some (get_or ns i n)
    mapped [] i n = refl
    mapped (m ∷ ns) zero n = refl
    mapped (m ∷ ns) (suc i) n = mapped ns i n

pub whole : (a : Application) (b : Books) → AreBooks a b → (keys : List ℕ) (ss : List Share) → Follow 0 keys ss (length b.parts.now) [] → (n : ℕ) → AddUp a b ss n
    → HasTaken b.names.now (record { keys = keys; inputs = 0 }) (record { keys = []; inputs = n }) (inputs_below a)
whole a b are keys ss f n h =
    subst (λ k. HasTaken b.names.now (record { keys = keys; inputs = 0 }) (record { keys = []; inputs = k }) (inputs_below a)) (sym h.3)
    (subst (HasTaken b.names.now (record { keys = keys; inputs = 0 }) (record { keys = []; inputs = sum h.0 })) (all_inputs a b are) (all_counted a b 0 keys ss (length b.parts.now) h.0 f h.1 h.2))
