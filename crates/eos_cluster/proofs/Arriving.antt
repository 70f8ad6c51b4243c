-- Data that arrive, as the machine says it and as the code tells it apart.
use Rattle.std.proofs.Common.{◌≡◌, ℕ, Bool, true, false, not, length, if◌then◌else◌, Result, Ok, Err, refl, sym, ap, subst, ◌∙◌}
use Rattle.eos_machine.specs.declared.config.Config.{Config}
use Rattle.eos_machine.specs.declared.event.Reply.{Reply}
use Rattle.eos_machine.specs.declared.event.Reply.TheVariants.{Done, Fenced, Busy}
use Rattle.eos_machine.specs.declared.item.Item.{Item}
use Rattle.eos_machine.specs.declared.switches.Switches.{Switches}
use Rattle.eos_machine.specs.Answers.{Answer, when}
use Rattle.eos_machine.specs.Deliveries.{appended, accept, fenced}
use Rattle.eos_machine.specs.Tests.{is_current, is_prepare}
use Rattle.eos_machine.specs.World.{World, coord_at, log_at}
use Rattle.eos_cluster.specs.declared.accept.Request.{Request}
use Rattle.eos_cluster.specs.steps.Taken.{admitted, fence, judged}

-- the answer after three tests that don't hold
pub passed : (r s t : Bool) (x y z rest : Answer) → r ≡ false → s ≡ false → t ≡ false → when r x (when s y (when t z rest)) ≡ rest
unfolding when
passed r s t x y z rest h k l = ap (λ (b : Bool). when b x (when s y (when t z rest))) h ∙ (ap (λ (b : Bool). when b y (when t z rest)) k ∙ ap (λ (b : Bool). when b z rest) l)

-- data of an old epoch
old_data : (t : Bool) (u : Switches) (c : Config) (w : World) (h : Request) (x : Item)
    → (if t then (appended w h.number h.place x, Done (length (log_at w h.place))) else (w, Fenced)) ≡ judged u c w h x (if t then Ok false else Err Fenced)
old_data true u c w h x = refl
old_data false u c w h x = refl

tested : (current prepared : Bool) (u : Switches) (c : Config) (w : World) (h : Request) (x : Item)
    → when (not current) (fenced u w h.number h.place x) (when prepared (w, Busy) (accept u c w h.number h.application h.place x, Done (length (log_at w h.place))))
    ≡ judged u c w h x (if current then (if prepared then Err Busy else Ok true) else fence u)
unfolding when
tested true true u c w h x = refl
tested true false u c w h x = refl
tested false p u c w h x = old_data u.no_fence u c w h x

-- the machine's last tests of data for a place
pub by_admitted : (u : Switches) (c : Config) (w : World) (h : Request) (p : ℕ) (x : Item) (r : Result Bool Reply) → h.place ≡ p → r ≡ admitted u (coord_at w h.application) h.epoch
    → when (not (is_current (coord_at w h.application) h.epoch)) (fenced u w h.number p x) (
    when (is_prepare (coord_at w h.application).status) (w, Busy) (accept u c w h.number h.application p x, Done (length (log_at w p))))
    ≡ judged u c w h x r
by_admitted u c w h p x r e f =
    let prepared = is_prepare (coord_at w h.application).status in
    subst
    (λ (q : ℕ). when (not (is_current (coord_at w h.application) h.epoch)) (fenced u w h.number q x) (when prepared (w, Busy) (accept u c w h.number h.application q x, Done (length (log_at w q)))) ≡ judged u c w h x r)
    e (tested (is_current (coord_at w h.application) h.epoch) prepared u c w h x ∙ ap (λ (q : Result Bool Reply). judged u c w h x q) (sym f))
