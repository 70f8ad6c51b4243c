-- Up to which number each from one on is there, one claim further, and the first that isn't.
use Rattle.std.proofs.Common.{◌≡◌, ◌∙◌, ◌⊎◌, ◌<◌, ◌≤◌, ◌+◌, ℕ, arith, List, [], ◌∷◌, ◌++◌, length, take, get_or, Some, refl, sym, ap, subst, inl, inr}
use Rattle.std.specs.Prelude.{slice_get}
use Rattle.std.proofs.lemmas.Bool.{cases_lt}
use Rattle.std.proofs.lemmas.List.{take_more}
use Rattle.std.proofs.lemmas.Option.{slice_get-get_or}
use Rattle.eos_base.specs.Members.{Has}
use Rattle.eos_base.proofs.Membership.{append_cases, append_left, append_right, only}
use Rattle.eos_faults.specs.declared.lent.VisibleClaim.{VisibleClaim}
use Rattle.eos_faults.specs.steps.SourceClaims.{DoNumbersRise, HasNumber, IsLastThere, IsNextThere}
use Rattle.eos_faults.proofs.BySource.{in_stretch}

pub none_there : IsLastThere [] 0
none_there = record { each = λ n le ge. absurd (omega (arith, le, ge)); next = λ h. h.1 }

module _ (cs : List VisibleClaim) (rise : DoNumbersRise cs) (k : ℕ) (default : VisibleClaim) (inside : k < length cs) where
  abbrev c : VisibleClaim
  c = get_or cs k default

  at : slice_get cs k ≡ Some c
  at = slice_get-get_or cs k default inside

  longer : take (k + 1) cs ≡ take k cs ++ c ∷ []
  longer = take_more cs k default inside

  old_or_new : (n : ℕ) → HasNumber (take (k + 1) cs) n → HasNumber (take k cs) n ⊎ (c.output ≡ n)
  old_or_new n h = elim (append_cases (take k cs) (c ∷ []) h.0 (subst (λ ds. Has ds h.0) longer h.1)) [
    | inl x ↦ inl (h.0, x, h.2)
    | inr x ↦ inr (ap (λ (d : VisibleClaim). d.output) (only c h.0 x) ∙ h.2)
  ]

  stays : (n : ℕ) → HasNumber (take k cs) n → HasNumber (take (k + 1) cs) n
  stays n h = (h.0, subst (λ ds. Has ds h.0) (sym longer) (append_left (take k cs) (c ∷ []) h.0 h.1), h.2)

  comes : HasNumber (take (k + 1) cs) c.output
  comes = (c, subst (λ ds. Has ds c) (sym longer) (append_right (take k cs) (c ∷ []) c (inl refl)), refl)

  not_above : (n : ℕ) → HasNumber (take k cs) n → n ≤ c.output
  not_above n h =
      let r = in_stretch cs 0 k h.0 h.1 in
      let lt = r.2 in
      let up = rise r.0 k h.0 c (omega (arith, lt)) r.3 at in
      let is = h.2 in
      omega (arith, up, is)

  pub there_next : (last now : ℕ) → IsLastThere (take k cs) last → IsNextThere last c.output now → IsLastThere (take (k + 1) cs) now
  there_next last now so_far (inl e) = subst (IsLastThere (take (k + 1) cs)) (sym e.1) (record {
    each = λ n le ge. elim (cases n ge) [ inl l ↦ stays n (so_far.each n le l) | inr q ↦ subst (HasNumber (take (k + 1) cs)) (sym q) comes ];
    next = λ h. elim (old_or_new (c.output + 1) h) [
      | inl o ↦ let le = not_above (c.output + 1) o in omega (arith, le)
      | inr q ↦ omega (arith, q)
    ];
  })
    where
      cases : (n : ℕ) → n ≤ c.output → (n ≤ last) ⊎ (n ≡ c.output)
      cases n ge = let q = e.0 in elim (cases_lt n c.output) [ inl lt ↦ inl (omega (arith, lt, q)) | inr le ↦ inr (omega (arith, ge, le)) ]
  there_next last now so_far (inr e) = subst (IsLastThere (take (k + 1) cs)) (sym e.1) (record {
    each = λ n le ge. stays n (so_far.each n le ge);
    next = λ h. elim (old_or_new (last + 1) h) [ inl o ↦ so_far.next o | inr q ↦ e.0 q ];
  })
