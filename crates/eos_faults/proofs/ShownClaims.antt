-- What the claims of a source show, and what the inputs that stand there lack.
use Rattle.std.proofs.Common.{◌≡◌, ◌∙◌, ◌<◌, ◌+◌, ℕ, List, [], ◌∷◌, ◌++◌, length, map, get_or, Option, Some, refl, sym, ap, subst, inl, inr, true, false, Bool, not, append_assoc, arith}
use Rattle.std.specs.Prelude.{slice_get}
use Rattle.std.specs.List.{flat_map}
use Rattle.std.proofs.lemmas.Option.{slice_get-get_or}
use Rattle.eos_base.specs.Members.{Has}
use Rattle.eos_commits.proofs.NameSearch.{get_has}
use Rattle.eos_claims.specs.declared.place.Place.{Place}
use Rattle.eos_claims.specs.declared.fault.OutputFault.{OutputFault}
use Rattle.eos_claims.specs.Outputs.{Application}
use Rattle.eos_claims.specs.Candidates.{AreApart, counted, is_source, is_input, is_committed, is_out_of_range, is_passed}
use Rattle.eos_claims.proofs.ClaimTests.{input_is, is_input_has}
use Rattle.eos_faults.specs.declared.lent.LentPlace.{LentPlace}
use Rattle.eos_faults.specs.declared.lent.VisibleClaim.{VisibleClaim}
use Rattle.eos_faults.specs.declared.tables.Known.{Known}
use Rattle.eos_faults.specs.steps.OutputFaultsGathered.{place_faults, number_faults, disagrees, is_repeated, first_of, first_at, missing_at, lacking, shown_at}
use Rattle.eos_faults.specs.steps.Plain.{claim_at, place_at}
use Rattle.eos_faults.specs.steps.SourceClaims.{AreClaimsOf, AreInputsAt, IsFirstSoFar, IsNextFirst}
use Rattle.eos_faults.specs.steps.Tables.{IsKnown}
use Rattle.eos_faults.proofs.SortedClaims.{first_next, first_some}

module _ (a : Application) (i : Place) where
  -- by what is known of its source and of the claims in front of it
  pub shown_is : (cs : List VisibleClaim) → AreApart a → AreClaimsOf a i cs → (known : Known) → IsKnown a i known → (passed : Bool) (c first numbered : VisibleClaim) (k : ℕ) → slice_get cs k ≡ Some c → slice_get cs 0 ≡ Some first
      → IsFirstSoFar a i cs (k + 1) numbered × (numbered.output ≡ c.output) → passed ≡ is_passed a (claim_at c)
      → place_faults known.is_source known.is_input known.is_committed passed (counted (claim_at c))
      ++ number_faults (is_out_of_range c.of c.output) (disagrees (Some (claim_at first)) c.of) (is_repeated (Some (claim_at numbered)) (place_at c.at)) (counted (claim_at c))
      ≡ shown_at a (claim_at c)
  shown_is cs apart are known is passed c first numbered k at head so_far told =
      λ j. place_faults (source j) (input j) (committed j) (told j) (counted (claim_at c)) ++ number_faults (is_out_of_range c.of c.output) (disagrees (of_source j) c.of) (is_repeated (of_number j) (place_at c.at)) (counted (claim_at c))
    where
      here : i ≡ place_at c.source
      here = sym (are.sound c (get_has cs k c at)).source

      source : known.is_source ≡ is_source a (place_at c.source)
      source = is.source ∙ ap (is_source a) here

      input : known.is_input ≡ is_input a (place_at c.source)
      input = is.input ∙ ap (is_input a) here

      committed : known.is_committed ≡ is_committed a (place_at c.source)
      committed = is.committed ∙ ap (is_committed a) here

      of_source : Some (claim_at first) ≡ first_of a.claims (place_at c.source)
      of_source = first_some a apart i cs are first head ∙ ap (first_of a.claims) here

      of_number : Some (claim_at numbered) ≡ first_at a.claims (place_at c.source) c.output
      of_number = so_far.0.is_first ∙ (ap (first_at a.claims i) so_far.1 ∙ ap (λ z. first_at a.claims z c.output) here)

  -- one claim further
  pub pushed_claim : (cs : List VisibleClaim) (apart : AreApart a) → AreClaimsOf a i cs → (known : Known) → IsKnown a i known → (passed : Bool) (k : ℕ) (d first before numbered : VisibleClaim) → k < length cs → slice_get cs 0 ≡ Some first
      → IsFirstSoFar a i cs k before → IsNextFirst before (get_or cs k d) numbered → passed ≡ is_passed a (claim_at (get_or cs k d)) → (fs gs hs : List OutputFault)
      → gs ≡ fs ++ place_faults known.is_source known.is_input known.is_committed passed (counted (claim_at (get_or cs k d)))
      → hs ≡ gs ++ number_faults (is_out_of_range (get_or cs k d).of (get_or cs k d).output) (disagrees (Some (claim_at first)) (get_or cs k d).of) (is_repeated (Some (claim_at numbered)) (place_at (get_or cs k d).at)) (counted (claim_at (get_or cs k d)))
      → (hs ≡ fs ++ shown_at a (claim_at (get_or cs k d))) × IsFirstSoFar a i cs (k + 1) numbered
  pushed_claim cs apart are known is passed k d first before numbered lt head so_far next told fs gs hs placed more =
      let c = get_or cs k d in
      let at = slice_get-get_or cs k d lt in
      let now = first_next a apart i cs are k before c numbered so_far at next in
      let by_place = place_faults known.is_source known.is_input known.is_committed passed (counted (claim_at c)) in
      let by_number = number_faults (is_out_of_range c.of c.output) (disagrees (Some (claim_at first)) c.of) (is_repeated (Some (claim_at numbered)) (place_at c.at)) (counted (claim_at c)) in
      let shown = shown_is cs apart are known is passed c first numbered k at head now told in
      (more ∙ (ap (λ xs. xs ++ by_number) placed ∙ (append_assoc fs by_place by_number ∙ ap (λ xs. fs ++ xs) shown)), now.0)

  -- ---- at the inputs

  pub lacking_here : (o : Option ℕ) → missing_at i o ≡ lacking a i → (xs : List LentPlace) → ((x : LentPlace) → Has xs x → place_at x ≡ i) → flat_map (λ x. missing_at x o) (map place_at xs) ≡ flat_map (lacking a) (map place_at xs)
  lacking_here o is [] at = refl
  lacking_here o is (x ∷ xs) at = λ j. one j ++ lacking_here o is xs (λ y h. at y (inr h)) j
    where
      one : missing_at (place_at x) o ≡ lacking a (place_at x)
      one = subst (λ z. missing_at z o ≡ lacking a z) (sym (at x (inl refl))) is

  -- where there is one the place is an input
  pub input_here : (xs : List LentPlace) → AreInputsAt a i xs → (empty : Bool) → (empty ≡ true → length xs ≡ 0) → (empty ≡ false → 0 < length xs) → not empty ≡ is_input a i
  input_here [] are true none some = sym (false_from (is_input a i) (λ e. let r = are.some (input_is a i e) in r.1))
    where
      false_from : (b : Bool) → (b ≡ true → ⊥) → b ≡ false
      false_from false n = refl
      false_from true n = absurd (n refl)
  input_here [] are false none some = let lt = some refl in absurd (omega (arith, lt))
  input_here (x ∷ xs) are true none some = let e = none refl in absurd (omega (arith, e))
  input_here (x ∷ xs) are false none some = sym (is_input_has a i (are.sound x (inl refl)))
