-- Names in order, of which those that are tied are equal.
use Rattle.std.proofs.Common.{◌≡◌, ℕ, true, List, sym, subst}
use Rattle.std.specs.List.Sorted.{IsStrictlySortedBy}
use Rattle.std.specs.Ordering.{nat_cmp, is_eq}
use Rattle.std.specs.Cmp.Lexicographic.{slice_cmp}
use Rattle.eos_base.specs.Members.{Has}
use Rattle.eos_base.proofs.Exact.{bytes_exact, is_tied}
use Rattle.eos_base.specs.AllOf.{IsAllOf}

pub each_once : (all once : List (List ℕ)) → IsStrictlySortedBy (slice_cmp nat_cmp) once → ((x : List ℕ) → Has once x → Has all x)
    → ((x : List ℕ) → Has all x → (y : List ℕ) × Has once y × (is_eq (slice_cmp nat_cmp x y) ≡ true)) → IsAllOf (slice_cmp nat_cmp) (Has all) once
each_once all once rises each whole = record {
  rises = rises;
  members = λ x. (each x, λ h. let tied = whole x h in subst (λ y. Has once y) (sym (bytes_exact x tied.0 (is_tied (slice_cmp nat_cmp x tied.0) tied.2))) tied.1);
}
