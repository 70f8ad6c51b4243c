-- Slots of which one is a refusal: the first of them is what is told.
use Rattle.std.proofs.Common.{◌≡◌, ◌⊎◌, ℕ, suc, ◌+◌, ◌<◌, ◌≤◌, List, [], ◌∷◌, ◌++◌, length, map, Option, Some, None, Result, Ok, Err, inl, inr, refl, sym, ap, subst, ◌∙◌, arith}
use Rattle.std.proofs.lemmas.Bool.{cases_lt}
use Rattle.std.proofs.lemmas.List.{length-append, map-append, append_assoc}
use Rattle.eos_evidence.specs.declared.application.App.{App}
use Rattle.eos_evidence.specs.declared.segment.Segment.{Segment}
use Rattle.eos_kept.specs.declared.kept_run.KeptRun.{KeptRun}
use Rattle.eos_source.specs.Refusals.{IsFirstRefusal, AreOpened}
use Rattle.eos_source.specs.Said.{Known}
use Rattle.eos_source.specs.steps.Runs.{AreSlots, IsFirstRefused, ArePassed}

module _ {F : Type 0} where
  -- ---- slots that are passed one after the other

  pub none_passed : (slots : List (Result KeptRun F)) → ArePassed 0 slots slots
  none_passed slots = ([], refl, refl)

  pub both_passed : (m n : ℕ) (before between after : List (Result KeptRun F)) → ArePassed m before between → ArePassed n between after → ArePassed (m + n) before after
  both_passed m n before between after p q = (
    p.0 ++ q.0,
    length-append p.0 q.0 ∙ (ap (λ (k : ℕ). k + length q.0) p.1 ∙ ap (λ (k : ℕ). m + k) q.1),
    p.2 ∙ (ap (λ (xs : List (Result KeptRun F)). map Ok p.0 ++ xs) q.2
        ∙ (sym (append_assoc (map Ok p.0) (map Ok q.0) after) ∙ ap (λ (xs : List (Result KeptRun F)). xs ++ after) (sym (map-append Ok p.0 q.0)))),
  )

  pub one_passed : (count : ℕ) (before slots rest : List (Result KeptRun F)) (run : KeptRun) → slots ≡ Ok run ∷ rest → ArePassed count before slots → ArePassed (count + 1) before rest
  one_passed count before slots rest run e p = both_passed count 1 before slots rest p (run ∷ [], refl, e)

  first_behind : (runs : List KeptRun) (after : List (Result KeptRun F)) (why : F) → IsFirstRefused after why → IsFirstRefused (map Ok runs ++ after) why
  first_behind [] after why r = r
  first_behind (run ∷ runs) after why r = first_behind runs after why r

  pub passed_refused : (count : ℕ) (before after : List (Result KeptRun F)) (why : F) → ArePassed count before after → IsFirstRefused after why → IsFirstRefused before why
  passed_refused count before after why p r = subst (λ (xs : List (Result KeptRun F)). IsFirstRefused xs why) (sym p.2) (first_behind p.0 after why r)

  pub refused_here : (count : ℕ) (before slots rest : List (Result KeptRun F)) (why : F) → slots ≡ Err why ∷ rest → ArePassed count before slots → IsFirstRefused before why
  refused_here count before slots rest why e p = passed_refused count before slots why p (subst (λ (xs : List (Result KeptRun F)). IsFirstRefused xs why) (sym e) refl)

  pub still_refused : (count : ℕ) (before after : List (Result KeptRun F)) (why : F) (Memory : Type 0) → ArePassed count before after → IsFirstRefused after why ⊎ Memory → IsFirstRefused before why ⊎ Memory
  still_refused count before after why Memory p (inl first) = inl (passed_refused count before after why p first)
  still_refused count before after why Memory p (inr memory) = inr memory

module _ {F : Type 0} (known : ℕ → Known) (outcomes : ℕ → Option F → Type 0) (topics : List (List ℕ)) (apps : List App) where
  -- ---- the piece that was refused

  -- so many were opened, and the next one was refused
  record RefusedFrom (piece : ℕ) (names : List Segment) (why : F) : Type 0 where
    count : ℕ
    there : count < length names
    before : (n : ℕ) → piece ≤ n → n < piece + count → outcomes n None
    refused : outcomes (piece + count) (Some why)

  refused_from : (piece : ℕ) (names : List Segment) (slots : List (Result KeptRun F)) (why : F) → AreSlots known outcomes topics apps piece names slots → IsFirstRefused slots why → RefusedFrom piece names why
  refused_from piece names [] why h r = absurd r
  refused_from piece [] (slot ∷ slots) why h r = absurd h
  refused_from piece (name ∷ names) (Ok run ∷ slots) why h r =
      let b = refused_from (suc piece) names slots why h.1 r in
      let z : suc piece + b.count ≡ piece + suc b.count = omega arith in
      record {
        count = suc b.count;
        there = omega (arith, b.there);
        before = λ n ge lt. elim (cases_lt piece n) [
          | inl above ↦ b.before n above (omega (arith, lt))
          | inr below ↦ let e : piece ≡ n = omega (arith, ge, below) in subst (λ (m : ℕ). outcomes m None) e h.0.1
        ];
        refused = subst (λ (m : ℕ). outcomes m (Some why)) z b.refused;
      }
  refused_from piece (name ∷ names) (Err fault ∷ slots) why h r =
      let z : piece ≡ piece + 0 = omega arith in
      record {
        count = 0;
        there = omega arith;
        before = λ n ge lt. absurd (omega (arith, ge, lt));
        refused = subst (λ (m : ℕ). outcomes m (Some why)) z (subst (λ (f : F). outcomes piece (Some f)) (sym r) h.0.2);
      }

  pub first_refused : (names : List Segment) (slots : List (Result KeptRun F)) (why : F) → AreSlots known outcomes topics apps 0 names slots → IsFirstRefused slots why
      → IsFirstRefusal outcomes (length names) why
  first_refused names slots why h r =
      let b = refused_from 0 names slots why h r in
      let z : 0 + b.count ≡ b.count = omega arith in
      record {
        piece = b.count;
        there = b.there;
        before = λ n lt. b.before n (omega arith) (omega (arith, lt));
        refused = subst (λ (m : ℕ). outcomes m (Some why)) z b.refused;
      }

  -- ---- none was refused

  opened_from : (piece : ℕ) (names : List Segment) (runs : List KeptRun) (rest : List (Result KeptRun F)) → AreSlots known outcomes topics apps piece names (map Ok runs ++ rest)
      → length runs ≡ length names → (n : ℕ) → piece ≤ n → n < piece + length names → outcomes n None
  opened_from piece [] runs rest h e = λ n ge lt. absurd (omega (arith, ge, lt))
  opened_from piece (name ∷ names) [] rest h e = absurd (omega (arith, e))
  opened_from piece (name ∷ names) (run ∷ runs) rest h e = λ n ge lt.
      elim (cases_lt piece n) [
        | inl above ↦ opened_from (suc piece) names runs rest h.1 (omega (arith, e)) n above (omega (arith, lt))
        | inr below ↦ let z : piece ≡ n = omega (arith, ge, below) in subst (λ (m : ℕ). outcomes m None) z h.0.1
      ]

  pub all_opened : (names : List Segment) (slots rest : List (Result KeptRun F)) → AreSlots known outcomes topics apps 0 names slots → ArePassed (length names) slots rest
      → AreOpened outcomes (length names)
  all_opened names slots rest h p = λ piece lt.
      opened_from 0 names p.0 rest (subst (λ (xs : List (Result KeptRun F)). AreSlots known outcomes topics apps 0 names xs) p.2 h) p.1 piece (omega arith) (omega (arith, lt))
