-- What holds beside something that is true.
use Rattle.std.proofs.Common.{◌≡◌, Bool, true, ◌&&◌, ap, sym, ◌∙◌}

pub both : (a b r : Bool) → a ≡ true → r ≡ b → r ≡ (a && b)
both a b r p q = q ∙ ap (λ (x : Bool). x && b) (sym p)
