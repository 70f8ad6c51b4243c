-- A cluster that has taken no event is as it was made.
use Rattle.std.proofs.Common.{◌≡◌, ◌∷◌, [], ℕ, ◌≤◌, ◌^◌, ◌==◌, false, true, Bool, List, ◌∙◌, ap, arith, refl}
use Rattle.std.proofs.lemmas.Bool.{ne_eqb}
use Rattle.eos_machine.specs.declared.config.Config.{Config}
use Rattle.eos_machine.specs.declared.event.Event.{Event}
use Rattle.eos_machine.specs.World.{World, opening}
use Rattle.eos_machine.specs.Answers.{Answer, when}
use Rattle.eos_machine.specs.Machine.{counted, step, world_after}
use Rattle.eos_machine.specs.steps.Machine.{happens}
use Rattle.eos_cluster.specs.Courses.{IsReached}

chosen : (b : Bool) (x y : Answer) (n : ℕ) → n ≤ x.0.events → n ≤ y.0.events → n ≤ (when b x y).0.events
unfolding when
chosen true x y n p q = p
chosen false x y n p q = q

second : (b : Bool) (x y : Answer) → b ≡ false → (when b x y) ≡ y
unfolding when
second true x y e = absurd cc
second false x y e = refl

step_rises : (c : Config) (w : World) (e : Event) → w.events ≤ (step c w e).0.events
step_rises c w e = chosen (w.events == 2 ^ 31) _ (counted w.events (happens c w e)) w.events (omega arith) (omega arith)

run_rises : (c : Config) (w : World) (es : List Event) → w.events ≤ (world_after c w es).events
run_rises c w [] = omega arith
run_rises c w (e ∷ es) = let s = step_rises c w e in let r = run_rises c (step c w e).0 es in omega (arith, s, r)

first_step : (c : Config) (w : World) (e : Event) → w.events ≡ 0 → (step c w e).0.events ≡ 1
first_step c w e z =
    ap (λ (y : Answer). y.0.events) (second (w.events == 2 ^ 31) _ (counted w.events (happens c w e)) (ne_eqb w.events (2 ^ 31) (λ m. omega (arith, m, z)))) ∙ omega (arith, z)

pub opening_only : (c : Config) (w : World) → IsReached c w → w.events ≡ 0 → w ≡ opening c
opening_only c w h z = at h.taken h.world_after
  where
    at : (es : List Event) → w ≡ world_after c (opening c) es → w ≡ opening c
    at [] r = r
    at (e ∷ es) r =
        let f = first_step c (opening c) e refl in
        let m = run_rises c (step c (opening c) e).0 es in
        let n : w.events ≡ (world_after c (step c (opening c) e).0 es).events = ap (λ (v : World). v.events) r in
        absurd (omega (arith, f, m, n, z))
