-- The places of names, and of records by them.
use Rattle.std.proofs.Common.{◌≡◌, ◌<◌, ◌+◌, ◌*◌, ℕ, zero, suc, List, [], ◌∷◌, Some, refl, sym, subst, ap, ◌∙◌, inl, inr, true, false, Bool, arith, if◌then◌else◌}
use Rattle.std.specs.Prelude.{slice_get}
use Rattle.std.specs.Ordering.{is_eq}
use Rattle.std.specs.declared.cmp.Ordering.TheVariants.{Less, Equal}
use Rattle.std.proofs.lemmas.Cmp.{tied_itself}
use Rattle.eos_base.specs.declared.partition_name.PartitionName.{PartitionName}
use Rattle.eos_base.specs.Members.{Has}
use Rattle.eos_base.specs.PartitionNames.{name_cmp}
use Rattle.eos_base.proofs.Decides.{differs}
use Rattle.eos_base.proofs.Exact.{is_tied}
use Rattle.eos_base.proofs.NamesInOrder.{name_total, name_exact}
use Rattle.eos_claims.specs.declared.place.Place.{Place}
use Rattle.eos_claims.proofs.FaultOrder.{place_is}
use Rattle.eos_lineage.specs.steps.Keys.{place_among, spot}
use Rattle.eos_commits.specs.NameTables.{AreAscending}
use Rattle.eos_commits.proofs.NameSearch.{get_has, pairs_head, pairs_tail}

-- where names ascend, each stands at its place
pub place_at : (ns : List PartitionName) (k : ℕ) (n : PartitionName) → AreAscending ns → slice_get ns k ≡ Some n → place_among ns n ≡ k
place_at [] k n up e = absurd cc
place_at (m ∷ ns) zero n up e =
    let same : m ≡ n = inside e in
    let t : name_cmp m n ≡ Equal = subst (λ z. name_cmp m z ≡ Equal) same (tied_itself name_total m) in
    rw t refl
  where
    inside : Some m ≡ Some n → m ≡ n
    inside q = cc
place_at (m ∷ ns) (suc k) n up e =
    let less : name_cmp m n ≡ Less = pairs_head (λ (a b : PartitionName). name_cmp a b ≡ Less) m ns up n (get_has ns k n e) in
    rw less (ap suc (place_at ns k n (pairs_tail (λ (a b : PartitionName). name_cmp a b ≡ Less) m ns up) e))

same_true : (m n : PartitionName) → m ≡ n → is_eq (name_cmp m n) ≡ true
same_true m n e = let t : name_cmp m n ≡ Equal = subst (λ z. name_cmp m z ≡ Equal) e (tied_itself name_total m) in rw t refl

-- names at one place are one
pub one_place : (ns : List PartitionName) (a b : PartitionName) → Has ns a → Has ns b → place_among ns a ≡ place_among ns b → a ≡ b
one_place [] a b h k e = absurd h
one_place (m ∷ ns) a b h k e = go (one_place ns a b) (is_eq (name_cmp m a)) (is_eq (name_cmp m b)) refl refl e
  where
    later : (c : PartitionName) → is_eq (name_cmp m c) ≡ false → Has (m ∷ ns) c → Has ns c
    later c f (inl q) = absurd (differs (is_eq (name_cmp m c)) f (same_true m c q))
    later c f (inr g) = g

    go : (Has ns a → Has ns b → place_among ns a ≡ place_among ns b → a ≡ b) → (t u : Bool) → is_eq (name_cmp m a) ≡ t → is_eq (name_cmp m b) ≡ u
        → (if t then 0 else suc (place_among ns a)) ≡ (if u then 0 else suc (place_among ns b)) → a ≡ b
    go more true true p q s = sym (name_exact m a (is_tied (name_cmp m a) p)) ∙ name_exact m b (is_tied (name_cmp m b) q)
    go more true false p q s = absurd cc
    go more false true p q s = absurd cc
    go more false false p q s = more (later a p h) (later b q k) cc

-- records at one spot are one
pub one_spot : (ns : List PartitionName) (i j : Place) → Has ns i.partition → Has ns j.partition → i.offset < 4294967296 → j.offset < 4294967296 → spot ns i ≡ spot ns j → i ≡ j
one_spot ns i j h k a b e = place_is i j (one_place ns i.partition j.partition h k r.0) r.1
  where
    parts : (p q x y : ℕ) → x < 4294967296 → y < 4294967296 → p * 4294967296 + x ≡ q * 4294967296 + y → (p ≡ q) × (x ≡ y)
    parts p q x y a b e = (omega arith, omega arith)

    r : (place_among ns i.partition ≡ place_among ns j.partition) × (i.offset ≡ j.offset)
    r = parts (place_among ns i.partition) (place_among ns j.partition) i.offset j.offset a b e
