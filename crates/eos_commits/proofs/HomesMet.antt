-- The table of the groups that were met, one group further.
use Rattle.std.proofs.Common.{◌≡◌, ℤ, Bool, true, false, Option, Some, None, refl, sym, ap, ◌∙◌, cond}
use Rattle.eos_base.proofs.Exact.{bytes_exact, is_tied}
use Rattle.eos_commits.specs.Commits.{Group, is_same}
use Rattle.eos_commits.specs.steps.Gathered.{Homes, first_home, met}

pub same : (g h : Group) → is_same g h ≡ true → g ≡ h
same g h e = bytes_exact g h (is_tied _ e)

-- a group that has a home keeps it
pub met_before : (homes : Homes) (g : Group) (n m : ℤ) → homes g ≡ Some m → homes ≡ met homes g n
met_before homes g n m e = λ i other. go other (homes other) refl (is_same g other) refl i
  where
    go : (other : Group) (o : Option ℤ) → homes other ≡ o → (b : Bool) → is_same g other ≡ b → o ≡ first_home o b n
    go other (Some y) q b s = refl
    go other None q false s = refl
    go other None q true s = let bad : None ≡ Some m = sym q ∙ (ap homes (sym (same g other s)) ∙ e) in absurd cc

pub met_new : (homes new : Homes) (g : Group) (n : ℤ) → homes g ≡ None → ((other : Group) → new other ≡ cond (is_same g other) (Some n) (homes other)) → new ≡ met homes g n
met_new homes new g n e put = λ i other. (put other ∙ go other (homes other) refl (is_same g other) refl) i
  where
    go : (other : Group) (o : Option ℤ) → homes other ≡ o → (b : Bool) → is_same g other ≡ b → cond b (Some n) o ≡ first_home o b n
    go other (Some y) q false s = refl
    go other None q false s = refl
    go other None q true s = refl
    go other (Some y) q true s = let bad : Some y ≡ None = sym q ∙ (ap homes (sym (same g other s)) ∙ e) in absurd cc
