-- The entries of a table in the order of their groups.
use Rattle.std.proofs.Common.{◌≡◌, ◌∙◌, ◌++◌, ◌+◌, ◌<◌, ◌≤◌, ℕ, zero, suc, List, [], ◌∷◌, length, drop, length-drop, map, refl, sym, ap, subst, arith, Bool, true, false, not, ◌&&◌, IsSorted}
use Rattle.std.specs.Prelude.{slice_index_or}
use Rattle.std.specs.List.{filter}
use Rattle.std.specs.List.Sorted.{ties}
use Rattle.std.specs.Ordering.{nat_cmp, is_eq, is_lt, ordering_reverse}
use Rattle.std.specs.Cmp.Lexicographic.{slice_cmp}
use Rattle.std.specs.declared.cmp.Ordering.{Ordering}
use Rattle.std.specs.declared.cmp.Ordering.TheVariants.{Less, Equal, Greater}
use Rattle.std.proofs.lemmas.Cmp.{nat_list_cmp_total, alike_right}
use Rattle.std.proofs.lemmas.List.{get_or-drop}
use Rattle.std.proofs.lemmas.List.MinMax.{ranks_by}
use Rattle.std.proofs.lemmas.List.Sorted.{sorted_far}
use Rattle.eos_commits.specs.declared.table.Entry.{Entry}
use Rattle.eos_commits.specs.Commits.{Group, Topic, is_same}
use Rattle.eos_commits.specs.Tables.{pick, picked}
use Rattle.eos_commits.specs.steps.Entries.{plain_entry, by_group, is_under}
use Rattle.eos_commits.proofs.EntryLists.{same_is}

abbrev is_less : List ℕ → List ℕ → Bool
is_less a b = is_lt (slice_cmp nat_cmp a b)

turned : (a b : List ℕ) → slice_cmp nat_cmp b a ≡ ordering_reverse (slice_cmp nat_cmp a b)
turned a b = nat_list_cmp_total.antisymm b a

-- tied is the same
pub tied_same : (a b : List ℕ) → (not (is_less a b) && not (is_less b a)) ≡ is_same a b
tied_same a b = ap (λ o. not (is_less a b) && not (is_lt o)) (turned a b) ∙ go (slice_cmp nat_cmp a b)
  where
    go : (o : Ordering) → (not (is_lt o) && not (is_lt (ordering_reverse o))) ≡ is_eq o
    go Less = refl
    go Equal = refl
    go Greater = refl

pub less_other : (a b : List ℕ) → is_less a b ≡ true → is_same b a ≡ false
less_other a b e = ap is_eq (turned a b) ∙ go (slice_cmp nat_cmp a b) e
  where
    go : (o : Ordering) → is_lt o ≡ true → is_eq (ordering_reverse o) ≡ false
    go Less t = refl
    go Equal t = absurd cc
    go Greater t = refl

-- not after what is before
less_rises : (a b g : List ℕ) → is_less b a ≡ false → is_less b g ≡ true → is_less a g ≡ true
less_rises a b g up below = go (slice_cmp nat_cmp a g) (slice_cmp nat_cmp b g) refl refl below
  where
    no : slice_cmp nat_cmp b a ≡ Less → ⊥
    no e = let f = subst (λ z. is_lt z ≡ false) e up in cc

    go : (p q : Ordering) → slice_cmp nat_cmp a g ≡ p → slice_cmp nat_cmp b g ≡ q → is_lt q ≡ true → is_lt p ≡ true
    go Less q e f t = refl
    go Equal Less e f t = absurd (no (alike_right nat_list_cmp_total a g b e ∙ f))
    go Greater Less e f t = absurd (no (nat_list_cmp_total.trans b g a f (turned a g ∙ ap ordering_reverse e)))
    go Equal Equal e f t = absurd cc
    go Equal Greater e f t = absurd cc
    go Greater Equal e f t = absurd cc
    go Greater Greater e f t = absurd cc

module _ (es : List Entry) (up : IsSorted by_group es) (g : Group) where
  not_after : (i j : ℕ) (d : Entry) → i ≤ j → j < length es → is_less (slice_index_or es j d).group.now (slice_index_or es i d).group.now ≡ false
  not_after i j d le lt = sorted_far (λ x y. is_lt (by_group x y)) (ranks_by nat_list_cmp_total (λ (x : Entry). x.group.now)) es up i j d le lt

  pub all_before : (i j : ℕ) (d : Entry) → i ≤ j → j < length es → is_less (slice_index_or es j d).group.now g ≡ true → is_less (slice_index_or es i d).group.now g ≡ true
  all_before i j d le lt e = less_rises (slice_index_or es i d).group.now (slice_index_or es j d).group.now g (not_after i j d le lt) e

  pub all_from : (i j : ℕ) (d : Entry) → i ≤ j → j < length es → is_less (slice_index_or es i d).group.now g ≡ false → is_less (slice_index_or es j d).group.now g ≡ false
  all_from i j d le lt e = go (is_less (slice_index_or es j d).group.now g) refl
    where
      go : (b : Bool) → is_less (slice_index_or es j d).group.now g ≡ b → is_less (slice_index_or es j d).group.now g ≡ false
      go false q = q
      go true q = absurd (let h : false ≡ true = sym e ∙ all_before i j d le lt q in cc)

  -- from a place on that is of another group, and not of one before, none is of the group
  pub none_after : (i j : ℕ) (d : Entry) → i ≤ j → j < length es → is_less (slice_index_or es i d).group.now g ≡ false → is_under g (slice_index_or es i d) ≡ false
      → is_under g (slice_index_or es j d) ≡ false
  none_after i j d le lt low other = go (is_under g (slice_index_or es j d)) refl
    where
      a : Group
      a = (slice_index_or es i d).group.now

      go : (b : Bool) → is_under g (slice_index_or es j d) ≡ b → is_under g (slice_index_or es j d) ≡ false
      go false q = q
      go true q =
          let same = same_is g (slice_index_or es j d).group.now q in
          let high : is_less g a ≡ false = subst (λ (x : Group). is_less x a ≡ false) (sym same) (not_after i j d le lt) in
          let tied : true ≡ is_same g a = sym (λ k. not (high k) && not (low k)) ∙ tied_same g a in
          absurd (let h : true ≡ false = tied ∙ other in cc)

-- ---- picking

pub pick_no : (g : Group) (s : List Topic) (e : Entry) → is_under g e ≡ false → pick g s (plain_entry e) ≡ []
pick_no g s e t = rw t refl

pub none_picked : (g : Group) (s : List Topic) (es : List Entry) → ((k : ℕ) (d : Entry) → k < length es → is_under g (slice_index_or es k d) ≡ false) → picked g s (map plain_entry es) ≡ []
none_picked g s [] none = refl
none_picked g s (e ∷ es) none =
    ap (λ xs. xs ++ picked g s (map plain_entry es)) (pick_no g s e (none zero e (omega arith))) ∙ none_picked g s es (λ k d lt. none (suc k) d (omega (arith, lt)))

pub front_not_picked : (g : Group) (s : List Topic) (es : List Entry) (n : ℕ) → ((k : ℕ) (d : Entry) → k < n → is_less (slice_index_or es k d).group.now g ≡ true) → n ≤ length es
    → picked g s (map plain_entry (drop n es)) ≡ picked g s (map plain_entry es)
front_not_picked g s es zero below fits = refl
front_not_picked g s [] (suc n) below fits = refl
front_not_picked g s (e ∷ es) (suc n) below fits =
    front_not_picked g s es n (λ k d lt. below (suc k) d (omega (arith, lt))) (omega (arith, fits))
    ∙ sym (ap (λ xs. xs ++ picked g s (map plain_entry es)) (pick_no g s e (less_other e.group.now g (below zero e (omega arith)))))

pub rest_not_picked : (g : Group) (s : List Topic) (es : List Entry) (i : ℕ) → IsSorted by_group es
    → ((k : ℕ) (d : Entry) → i ≤ k → k < length es → is_less (slice_index_or es k d).group.now g ≡ false)
    → (i < length es → (d : Entry) → is_under g (slice_index_or es i d) ≡ false) → picked g s (map plain_entry (drop i es)) ≡ []
rest_not_picked g s es i up from other = none_picked g s (drop i es) (λ k d lt. none k d (omega (arith, lt, length-drop i es)))
  where
    none : (k : ℕ) (d : Entry) → i + k < length es → is_under g (slice_index_or (drop i es) k d) ≡ false
    none k d lt =
        ap (is_under g) (get_or-drop i es k d)
        ∙ none_after es up g i (i + k) d (omega arith) lt (from i d (omega arith) (omega (arith, lt))) (other (omega (arith, lt)) d)

-- ---- what a stable sort keeps

pub under_tied : (g : Group) (blank : Entry) (es : List Entry) → blank.group.now ≡ g
    → filter (ties (λ (x y : Entry). is_lt (slice_cmp nat_cmp x.group.now y.group.now)) blank) es ≡ filter (is_under g) es
under_tied g blank es e = λ i. filter (λ (y : Entry). (tied_same blank.group.now y.group.now ∙ ap (λ (a : Group). is_same a y.group.now) e) i) es
