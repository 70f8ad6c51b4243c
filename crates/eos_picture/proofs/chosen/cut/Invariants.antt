use Rattle.std.proofs.Common.{◌≡◌, ℕ, take, map}
use Rattle.eos_picture.proofs.chosen.cut.Given as goal

abbrev pub invariant-loop-stand : goal.invariant-loop-stand
invariant-loop-stand l = l.places.items ≡ map (λ (s : ℕ × ℕ). s.1) (take l.stand-index l.shown)
