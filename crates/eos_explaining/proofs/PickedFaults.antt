-- Items of a list, so many from a place on, as they are passed one after the other.
use Rattle.std.proofs.Common.{◌≡◌, ◌+◌, ◌-◌, ◌<◌, ◌≤◌, ℕ, zero, suc, true, false, List, [], ◌∷◌, ◌++◌, length, take, drop, refl, sym, ap, subst, ◌∙◌, arith, inl, inr, slice_get}
use Rattle.std.specs.Prelude.{◌⊎◌, nat_le, nat_lt}
use Rattle.std.proofs.lemmas.Bool.{cases_lt, and_parts, and_cases, leb-true, leb-false, ltb-true, ltb-false}
use Rattle.std.proofs.lemmas.List.{drop-append-le, length-append, length-drop, take-append-le, take_all}
use Rattle.eos_verdict.specs.declared.verdict.Fault.{Fault}
use Rattle.eos_verdict.specs.declared.verdict.Verdict.{Verdict}
use Rattle.eos_verdict.specs.declared.verdict.Verdict.TheVariants.{No}
use Rattle.eos_explaining.specs.declared.kinds.Pick.{Pick}
use Rattle.eos_explaining.specs.declared.kinds.Picked.{Picked}
use Rattle.eos_explaining.specs.steps.Counting.{AreKinds, is_within, IsPickedMore}

-- ---- others of which none is held

drop_past : {X : Type 0} (k : ℕ) (xs : List X) → length xs ≤ k → drop k xs ≡ []
drop_past zero [] le = refl
drop_past zero (x ∷ xs) le = absurd (omega (arith, le))
drop_past (suc k) [] le = refl
drop_past (suc k) (x ∷ xs) le = drop_past k xs (omega (arith, le))

pub held_apart : (from most : ℕ) (told list : List Verdict) → (length told < from → length told + length list ≤ from) → (from ≤ length told → from + most ≤ length told)
    → take most (drop from told) ≡ take most (drop from (told ++ list))
held_apart from most told list before behind = elim (cases_lt (length told) from) [
  | inl lt ↦
      let whole = length-append told list in
      ap (take most) (drop_past from told (omega (arith, lt)) ∙ sym (drop_past from (told ++ list) (omega (arith, whole, before lt))))
  | inr ge ↦
      let left = length-drop from told in
      sym (ap (take most) (drop-append-le from told list ge) ∙ take-append-le most (drop from told) list (omega (arith, left, behind ge)))
]

pub picked_first : {X : Type 0} (k : ℕ) (xs : List X) → slice_get (take 1 (drop k xs)) 0 ≡ slice_get xs k
picked_first zero [] = refl
picked_first zero (x ∷ xs) = refl
picked_first (suc k) [] = refl
picked_first (suc k) (x ∷ xs) = picked_first k xs

pub picked_one : {X : Type 0} (k : ℕ) (xs : List X) → k < length xs → length (take 1 (drop k xs)) ≡ 1
picked_one zero [] lt = absurd (omega (arith, lt))
picked_one zero (x ∷ xs) lt = refl
picked_one (suc k) [] lt = absurd (omega (arith, lt))
picked_one (suc k) (x ∷ xs) lt = picked_one k xs (omega (arith, lt))

-- ---- one more, which is held or not

one_held : (from most : ℕ) (told : List Verdict) (v : Verdict) → from ≤ length told → length told - from < most → take most (drop from (told ++ v ∷ [])) ≡ take most (drop from told) ++ v ∷ []
one_held from most told v le lt =
    let xs = drop from told in
    let left = length-drop from told in
    let whole = length-append xs (v ∷ []) in
    ap (take most) (drop-append-le from told (v ∷ []) le) ∙ (take_all most (xs ++ v ∷ []) (omega (arith, left, whole, lt)) ∙ ap (λ (vs : List Verdict). vs ++ v ∷ []) (sym (take_all most xs (omega (arith, left, lt)))))

within : (p : Pick) (n : ℕ) → is_within p n ≡ true → (p.from ≤ n) × (n - p.from < p.most)
within p n held_there =
    let both = and_parts (nat_le p.from n) (nat_lt (n - p.from) p.most) held_there in
    (leb-true p.from n both.0, ltb-true (n - p.from) p.most both.1)

past : (p : Pick) (n : ℕ) → is_within p n ≡ false → (n < p.from) ⊎ (p.most ≤ n - p.from)
past p n elsewhere = elim (and_cases (nat_le p.from n) (nat_lt (n - p.from) p.most) elsewhere) [
  | inl before ↦ inl (leb-false p.from n before)
  | inr behind ↦ inr (ltb-false (n - p.from) p.most behind)
]

pub picked_held : (old new : Picked) (fault : Fault) → new.pick ≡ old.pick → is_within old.pick old.counts.all ≡ true → ((told : List Verdict) → AreKinds told old.counts → AreKinds (told ++ No fault ∷ []) new.counts)
    → new.told.items ≡ old.told.items ++ No fault ∷ [] → IsPickedMore old (fault ∷ []) new
picked_held old new fault same held_there counted more = record {
  pick = same;
  picked = λ told h.
      let w = within old.pick old.counts.all held_there in
      let all = h.counts.all in
      let held = one_held old.pick.from old.pick.most told (No fault) (omega (arith, all, w.0)) (omega (arith, all, w.1)) in
      record {
        counts = counted told h.counts;
        held = subst (λ (p : Pick). new.told.items ≡ take p.most (drop p.from (told ++ No fault ∷ []))) (sym same) (more ∙ (ap (λ (vs : List Verdict). vs ++ No fault ∷ []) h.held ∙ sym held));
      };
}

pub picked_past : (old new : Picked) (fault : Fault) → new.pick ≡ old.pick → is_within old.pick old.counts.all ≡ false → ((told : List Verdict) → AreKinds told old.counts → AreKinds (told ++ No fault ∷ []) new.counts)
    → new.told.items ≡ old.told.items → IsPickedMore old (fault ∷ []) new
picked_past old new fault same elsewhere counted more = record {
  pick = same;
  picked = λ told h.
      let w = past old.pick old.counts.all elsewhere in
      let all = h.counts.all in
      let before : length told < old.pick.from → length told + 1 ≤ old.pick.from = λ lt. omega (arith, lt) in
      let behind : old.pick.from ≤ length told → old.pick.from + old.pick.most ≤ length told = λ le. elim w [
        | inl lt ↦ absurd (omega (arith, all, lt, le))
        | inr ge ↦ omega (arith, all, ge, le)
      ] in
      record {
        counts = counted told h.counts;
        held = subst (λ (p : Pick). new.told.items ≡ take p.most (drop p.from (told ++ No fault ∷ []))) (sym same) (more ∙ (h.held ∙ held_apart old.pick.from old.pick.most told (No fault ∷ []) before behind));
      };
}
