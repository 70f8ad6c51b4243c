-- The table of committed offsets, commit by commit.
use Rattle.std.proofs.Common.{◌≡◌, ◌<◌, ◌+◌, ℕ, ℤ, pos, zero, suc, List, [], ◌∷◌, ◌++◌, length, map, take, get_or, Some, refl, sym, subst, ap, ◌∙◌, inl, inr, true, false, Bool, arith, if◌then◌else◌}
use Rattle.std.specs.Prelude.{slice_get, slice_set, filter, cond, replicate}
use Rattle.std.specs.Ordering.{is_eq}
use Rattle.std.specs.declared.cmp.Ordering.TheVariants.{Less, Equal}
use Rattle.std.proofs.lemmas.Cmp.{tied_itself}
use Rattle.std.proofs.lemmas.List.Elements.{filter-append}
use Rattle.std.proofs.lemmas.List.{map-append}
use Rattle.std.proofs.Math.Seq.{take-suc}
use Rattle.eos_base.specs.declared.partition_name.PartitionName.{PartitionName}
use Rattle.eos_base.specs.Members.{Has}
use Rattle.eos_base.specs.PartitionNames.{name_cmp}
use Rattle.eos_base.proofs.NamesInOrder.{name_total, name_exact}
use Rattle.eos_base.proofs.Exact.{is_tied}
use Rattle.eos_claims.specs.Outputs.{Commit, last_offset, committed_offset}
use Rattle.eos_commits.specs.NameTables.{AreAscending}
use Rattle.eos_commits.specs.steps.SetOffsets.{set_named}
use Rattle.eos_commits.proofs.NameSearch.{get_has, pairs_head, pairs_tail}

abbrev is_for : PartitionName → Commit → Bool
is_for n m = is_eq (name_cmp m.partition n)

same_name : (a b : PartitionName) → a ≡ b → is_eq (name_cmp a b) ≡ true
same_name a b e = let t : name_cmp a b ≡ Equal = subst (λ z. name_cmp a z ≡ Equal) e (tied_itself name_total a) in rw t refl

other_name : (a b : PartitionName) → (a ≡ b → ⊥) → is_eq (name_cmp a b) ≡ false
other_name a b nope = go (is_eq (name_cmp a b)) refl
  where
    go : (t : Bool) → is_eq (name_cmp a b) ≡ t → t ≡ false
    go false e = refl
    go true e = absurd (nope (name_exact a b (is_tied (name_cmp a b) e)))

-- one that isn't there changes nothing
pub set_none : (ns : List PartitionName) (m : Commit) (os : List ℤ) → length os ≡ length ns → (Has ns m.partition → ⊥) → os ≡ set_named ns m os
set_none [] m os len nope = refl
set_none (n ∷ ns) m [] len nope = refl
set_none (n ∷ ns) m (o ∷ os) len nope =
    let differs : m.partition ≡ n → ⊥ = λ e. nope (inl (sym e)) in
    let later : Has ns m.partition → ⊥ = λ h. nope (inr h) in
    let t = other_name m.partition n differs in
    let r : os ≡ set_named ns m os = set_none ns m os (omega (arith, len)) later in
    rw t (ap (λ (xs : List ℤ). o ∷ xs) r)

below_not : (n : PartitionName) → name_cmp n n ≡ Less → ⊥
below_not n e = let t = tied_itself name_total n in let q : Less ≡ Equal = sym e ∙ t in cc

-- one that is there sets its place
pub set_at : (ns : List PartitionName) (m : Commit) (os : List ℤ) (k : ℕ) → length os ≡ length ns → AreAscending ns → slice_get ns k ≡ Some m.partition → slice_set os k m.offset ≡ set_named ns m os
set_at [] m os k len up e = absurd cc
set_at (n ∷ ns) m [] k len up e = absurd (omega (arith, len))
set_at (n ∷ ns) m (o ∷ os) zero len up e =
    let same : n ≡ m.partition = inside e in
    let t = same_name m.partition n (sym same) in
    let gone : Has ns m.partition → ⊥ = λ h. below_not n (subst (λ z. name_cmp n z ≡ Less) (sym same) (pairs_head (λ (a b : PartitionName). name_cmp a b ≡ Less) n ns up m.partition h)) in
    let r : os ≡ set_named ns m os = set_none ns m os (omega (arith, len)) gone in
    rw t (ap (λ (xs : List ℤ). m.offset ∷ xs) r)
  where
    inside : Some n ≡ Some m.partition → n ≡ m.partition
    inside q = cc
set_at (n ∷ ns) m (o ∷ os) (suc k) len up e =
    let there = get_has ns k m.partition e in
    let less = pairs_head (λ (a b : PartitionName). name_cmp a b ≡ Less) n ns up m.partition there in
    let differs : m.partition ≡ n → ⊥ = λ q. below_not n (subst (λ z. name_cmp n z ≡ Less) q less) in
    let t = other_name m.partition n differs in
    let r : slice_set os k m.offset ≡ set_named ns m os = set_at ns m os k (omega (arith, len)) (pairs_tail (λ (a b : PartitionName). name_cmp a b ≡ Less) n ns up) e in
    rw t (ap (λ (xs : List ℤ). o ∷ xs) r)

last_append : (o : ℤ) (xs ys : List Commit) → last_offset o (xs ++ ys) ≡ last_offset (last_offset o xs) ys
last_append o [] ys = refl
last_append o (x ∷ xs) ys = last_append x.offset xs ys

last_one : (o : ℤ) (n : PartitionName) (m : Commit) → last_offset o (filter (is_for n) (m ∷ [])) ≡ (if is_for n m then m.offset else o)
last_one o n m = elim (is_for n m) as (λ t. last_offset o (cond t (m ∷ []) []) ≡ (if t then m.offset else o)) [ true ↦ refl | false ↦ refl ]

committed_more : (cs : List Commit) (m : Commit) (n : PartitionName) → committed_offset (cs ++ m ∷ []) n ≡ (if is_for n m then m.offset else committed_offset cs n)
committed_more cs m n =
    ap (last_offset (pos 0)) (filter-append (is_for n) cs (m ∷ []))
    ∙ (last_append (pos 0) (filter (is_for n) cs) (filter (is_for n) (m ∷ [])) ∙ last_one (committed_offset cs n) n m)

-- the next commit sets its partition's offset
pub set_more : (ns : List PartitionName) (cs : List Commit) (m : Commit) → set_named ns m (map (committed_offset cs) ns) ≡ map (committed_offset (cs ++ m ∷ [])) ns
set_more [] cs m = refl
set_more (n ∷ ns) cs m =
    let a = committed_more cs m n in
    let b = set_more ns cs m in
    λ i. sym a i ∷ b i

pub taken : {X Y : Type 0} (f : X → Y) (xs : List X) (i : ℕ) (d : X) → i < length xs → map f (take i xs) ++ f (get_or xs i d) ∷ [] ≡ map f (take (i + 1) xs)
taken f xs i d lt =
    let e : suc i ≡ i + 1 = omega arith in
    subst (λ j. map f (take i xs) ++ f (get_or xs i d) ∷ [] ≡ map f (take j xs)) e
    (sym (map-append f (take i xs) (get_or xs i d ∷ [])) ∙ ap (map f) (sym (take-suc xs i d lt)))

pub length_of_map : {X Y : Type 0} (f : X → Y) (xs : List X) → length (map f xs) ≡ length xs
length_of_map f [] = refl
length_of_map f (x ∷ xs) = let r = length_of_map f xs in omega (arith, r)

-- no commit yet
pub none_committed : (ns : List PartitionName) → replicate (length ns) (pos 0) ≡ map (committed_offset []) ns
none_committed [] = refl
none_committed (n ∷ ns) = ap (λ (os : List ℤ). pos 0 ∷ os) (none_committed ns)
