-- Slots, each of which is that of its piece.
use Rattle.std.proofs.Common.{◌≡◌, ℕ, zero, suc, ◌+◌, ◌≤◌, cond, eqb, List, [], ◌∷◌, length, map, set, Option, Some, None, Result, Ok, Err, refl, sym, subst, arith}
use Rattle.std.proofs.lemmas.Bool.{eq-eqb, ne_eqb, cond-true, cond-false}
use Rattle.std.specs.Prelude.{slice_get, All, IfSome}
use Rattle.eos_evidence.specs.declared.application.App.{App}
use Rattle.eos_evidence.specs.declared.segment.Segment.{Segment}
use Rattle.eos_kept.specs.declared.kept_run.KeptRun.{KeptRun}
use Rattle.eos_source.specs.Said.{Said, Log, Known}
use Rattle.eos_source.specs.steps.Runs.{IsSlotOf, IsSlot, AreSlots, AreSlotsOf, IsTaken, asking}
use Rattle.eos_source.specs.steps.Slots.{AreSlotsSoFar}

module _ {F : Type 0} (known : ℕ → Known) (outcomes : ℕ → Option F → Type 0) (topics : List (List ℕ)) (apps : List App) where
  pub none_yet : (piece : ℕ) (names : List Segment) (slots : List (Option (Result KeptRun F))) → length slots ≡ length names → All (λ slot. slot ≡ None) slots
      → AreSlotsSoFar known outcomes topics apps piece names slots
  none_yet piece [] [] e h = tt
  none_yet piece [] (slot ∷ slots) e h = absurd (omega (arith, e))
  none_yet piece (name ∷ names) [] e h = absurd (omega (arith, e))
  none_yet piece (name ∷ names) (slot ∷ slots) e h = (
    subst (λ (s : Option (Result KeptRun F)). IfSome s (IsSlot known outcomes topics apps piece name)) (sym (h 0 slot (omega arith))) tt,
    none_yet (suc piece) names slots (omega (arith, e)) (λ k d lt. h (suc k) d (omega (arith, lt))),
  )

  put_from : (piece : ℕ) (names : List Segment) (slots : List (Option (Result KeptRun F))) (i : ℕ) (slot : Result KeptRun F)
      → ((name : Segment) → slice_get names i ≡ Some name → IsSlot known outcomes topics apps (piece + i) name slot)
      → AreSlotsSoFar known outcomes topics apps piece names slots → AreSlotsSoFar known outcomes topics apps piece names (set slots i (Some slot))
  put_from piece [] [] i slot h r = tt
  put_from piece [] (one ∷ slots) i slot h r = absurd r
  put_from piece (name ∷ names) [] i slot h r = absurd r
  put_from piece (name ∷ names) (one ∷ slots) zero slot h r =
      let z : piece + 0 ≡ piece = omega arith in
      (subst (λ (n : ℕ). IsSlot known outcomes topics apps n name slot) z (h name refl), r.1)
  put_from piece (name ∷ names) (one ∷ slots) (suc i) slot h r =
      let s : piece + suc i ≡ suc piece + i = omega arith in
      (r.0, put_from (suc piece) names slots i slot (λ other at. subst (λ (n : ℕ). IsSlot known outcomes topics apps n other slot) s (h other at)) r.1)

  -- what became of a piece is put into its slot
  pub put : (names : List Segment) (slots : List (Option (Result KeptRun F))) (i : ℕ) (slot : Result KeptRun F)
      → ((name : Segment) → slice_get names i ≡ Some name → IsSlot known outcomes topics apps i name slot)
      → AreSlotsSoFar known outcomes topics apps 0 names slots → AreSlotsSoFar known outcomes topics apps 0 names (set slots i (Some slot))
  put names slots i slot h r =
      let z : i ≡ 0 + i = omega arith in
      put_from 0 names slots i slot (λ name at. subst (λ (n : ℕ). IsSlot known outcomes topics apps n name slot) z (h name at)) r

  -- slots that are all filled
  pub all_read : (piece : ℕ) (names : List Segment) (runs : List (Result KeptRun F)) → AreSlotsSoFar known outcomes topics apps piece names (map Some runs) → AreSlots known outcomes topics apps piece names runs
  all_read piece [] [] h = tt
  all_read piece [] (run ∷ runs) h = absurd h
  all_read piece (name ∷ names) [] h = absurd h
  all_read piece (name ∷ names) (run ∷ runs) h = (h.0, all_read (suc piece) names runs h.1)

  -- ---- what each piece said

  -- from this number on: of a refused one it doesn't matter
  abbrev said_from : (piece : ℕ) (names : List Segment) (slots : List (Result KeptRun F)) → AreSlots known outcomes topics apps piece names slots → ℕ → Said
  said_from piece [] slots h number = Log []
  said_from piece (name ∷ names) [] h number = Log []
  said_from piece (name ∷ names) (Ok run ∷ slots) h number = cond (eqb piece number) h.0.0.0 (said_from (suc piece) names slots h.1 number)
  said_from piece (name ∷ names) (Err fault ∷ slots) h number = said_from (suc piece) names slots h.1 number

  same_slots : (said other : ℕ → Said) (piece : ℕ) (names : List Segment) (slots : List (Result KeptRun F)) → ((number : ℕ) → piece ≤ number → other number ≡ said number)
      → AreSlotsOf known said topics apps piece names slots → AreSlotsOf known other topics apps piece names slots
  same_slots said other piece [] slots e h = tt
  same_slots said other piece (name ∷ names) [] e h = absurd h
  same_slots said other piece (name ∷ names) (slot ∷ slots) e h = (
    subst (λ (s : Said). IsSlotOf (known piece) s topics apps name slot) (sym (e piece (omega arith))) h.0,
    same_slots said other (suc piece) names slots (λ number ge. e number (omega (arith, ge))) h.1,
  )

  slots_of : (piece : ℕ) (names : List Segment) (slots : List (Result KeptRun F)) (h : AreSlots known outcomes topics apps piece names slots) → AreSlotsOf known (said_from piece names slots h) topics apps piece names slots
  slots_of piece [] slots h = tt
  slots_of piece (name ∷ names) [] h = absurd h
  slots_of piece (name ∷ names) (Ok run ∷ slots) h = (
    subst (λ (s : Said). IsTaken (known piece) s (asking topics apps name.topic) name run) (sym (cond-true (eqb piece piece) h.0.0.0 (said_from (suc piece) names slots h.1 piece) (eq-eqb piece piece refl))) h.0.0.1,
    same_slots (said_from (suc piece) names slots h.1) (said_from piece (name ∷ names) (Ok run ∷ slots) h) (suc piece) names slots
        (λ number ge. cond-false (eqb piece number) h.0.0.0 (said_from (suc piece) names slots h.1 number) (ne_eqb piece number (λ e. omega (arith, e, ge)))) (slots_of (suc piece) names slots h.1),
  )
  slots_of piece (name ∷ names) (Err fault ∷ slots) h = (tt, slots_of (suc piece) names slots h.1)

  -- there is what they said
  pub were_said : (names : List Segment) (slots : List (Result KeptRun F)) → AreSlots known outcomes topics apps 0 names slots → (said : ℕ → Said) × AreSlotsOf known said topics apps 0 names slots
  were_said names slots h = (said_from 0 names slots h, slots_of 0 names slots h)
