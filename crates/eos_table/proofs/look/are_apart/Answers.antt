use Rattle.std.proofs.Common.{◌≡◌, ◌+◌, ◌-◌, ◌∙◌, ℤ, refl, sym, ap, subst, true, false, ◌&&◌, inl, inr, arith}
use Rattle.std.specs.Ordering.{int_eq}
use Rattle.std.proofs.lemmas.Bool.{cases_lt}
use Rattle.std.proofs.lemmas.Bool.Decides.{Decides-int_eq}
use Rattle.eos_table.specs.steps.Neighbours.{pair_at}
use Rattle.eos_table.proofs.look.are_apart.Goals as goal

apart : (x y : ℤ × ℤ) → (int_eq x.0 y.0 && int_eq x.1 y.1) ≡ false → x ≡ y → ⊥
apart x y f e =
    let g : (int_eq x.0 x.0 && int_eq x.1 x.1) ≡ false = subst (λ (z : ℤ × ℤ). (int_eq x.0 z.0 && int_eq x.1 z.1) ≡ false) (sym e) f in
    let a : int_eq x.0 x.0 ≡ true = (Decides-int_eq x.0 x.0).1 refl in
    let b : int_eq x.1 x.1 ≡ true = (Decides-int_eq x.1 x.1).1 refl in
    let h : true ≡ false = rw (a, b) at g in
    cc

pub loop-i-preserved : goal.loop-i-preserved
loop-i-preserved c = λ j h e. elim (cases_lt (j + 1) c.loop-i.i) [
  | inl l ↦ c.loop-i.invariant j l e
  | inr ge ↦
      let here : c.loop-i.i - 1 ≡ j = omega arith in
      let next : j + 1 ≡ c.loop-i.i = omega arith in
      apart (pair_at c.args.keys.now (c.loop-i.i - 1)) (pair_at c.args.keys.now c.loop-i.i) (sym c.eq.ensures ∙ c.if-eq.false) (ap (pair_at c.args.keys.now) here ∙ (e ∙ ap (pair_at c.args.keys.now) next))
]
