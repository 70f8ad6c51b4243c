use Rattle.std.proofs.Common.{◌≡◌, ℤ, w32, refl, ap₂}
use Rattle.std.proofs.lemmas.Int.{to_z-of_z}
use Rattle.eos_evidence.specs.declared.segment.Segment.{Segment}
use Rattle.eos_simulate.proofs.Brought.{two_more}
use Rattle.eos_simulate.proofs.copied.push_twice.Goals as goal

numbered : (a b : Segment) (m n : ℤ) → a ≡ b → m ≡ n → record a { partition = m } ≡ record b { partition = n }
numbered a b m n p q = ap₂ (λ (s : Segment) (k : ℤ). record s { partition = k }) p q

pub returns : goal.returns
returns c =
    two_more _ _ _ _ _ _ _ c.in_ok-push.ensures.ok c.in_ok-push_copy.ensures refl (numbered _ _ _ _ c.in_ok-other.ensures (to_z-of_z w32 c.args.number c.ranges.number))
