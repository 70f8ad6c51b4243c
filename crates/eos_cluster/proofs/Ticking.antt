-- The last end marker of a transaction is ticked off, and the transaction is complete.
use Rattle.std.proofs.Common.{◌≡◌, ◌<◌, ◌==◌, ℕ, List, [], ◌∷◌, length, Bool, true, false, if◌then◌else◌, refl, sym, ap, subst, ◌∙◌, arith}
use Rattle.std.proofs.lemmas.Bool.{ne_eqb}
use Rattle.std.proofs.lemmas.List.{get_or-set_same}
use Rattle.eos_batch.specs.declared.marker.Kind.{Kind}
use Rattle.eos_machine.specs.declared.config.Config.{Config}
use Rattle.eos_machine.specs.declared.item.Entry.{Entry}
use Rattle.eos_machine.specs.declared.item.Status.TheVariants.{Complete}
use Rattle.eos_machine.specs.declared.state.Coordinator.{Coordinator}
use Rattle.eos_machine.specs.declared.switches.Switches.{Switches}
use Rattle.eos_machine.specs.Deliveries.{marked, ticked, ticked_off, without}
use Rattle.eos_machine.specs.Rules.{marker_of}
use Rattle.eos_machine.specs.Tests.{is_nil}
use Rattle.eos_machine.specs.World.{World, coord_at, finished, fresh, recorded, said_entry, state_of, with_item, written}
use Rattle.eos_cluster.specs.steps.Taken.{settled}

-- an end marker changes no coordinator
same_coordinators : (u : Switches) (c : Config) (w : World) (a m : ℕ) (k : Kind) (p : ℕ) → (marked u c w a m k p).coordinators ≡ w.coordinators
same_coordinators u c w a m k p = elim u.lose_marker as (λ t. (if◌then◌else◌ {A = World} t w (with_item w p (marker_of u c a m k p w.events))).coordinators ≡ w.coordinators) [ true ↦ refl | false ↦ refl ]

same_epoch : (u : Switches) (c : Config) (w : World) (a m : ℕ) (k : Kind) (p : ℕ) → a < length w.coordinators → (coord_at (ticked u c w a m k p) a).epoch ≡ (coord_at w a).epoch
same_epoch u c w a m k p l =
    ap (λ (s : Coordinator). s.epoch) (get_or-set_same (marked u c w a m k p).coordinators a (ticked_off (coord_at w a) p) fresh (subst (λ (ss : List Coordinator). a < length ss) (sym (same_coordinators u c w a m k p)) l))

abbrev completes : Kind → ℕ → List ℕ → Entry
completes k e ps = record { status = Complete k; epoch = e; partitions = ps }

-- after the last one
pub is_settled : (u : Switches) (c : Config) (w : World) (a m : ℕ) (k : Kind) (p e : ℕ) (ps : List ℕ) (x : Entry) (s : Coordinator) → a < length w.coordinators → e ≡ (coord_at w a).epoch → ps ≡ []
    → x ≡ said_entry u c (completes k e ps) → s ≡ state_of (completes k e ps) → is_nil (without p (coord_at w a).awaited) ≡ true → recorded c (ticked u c w a m k p) a x s ≡ settled u c w a m k p
is_settled u c w a m k p e ps x s l now none entry state last =
    let t : World = ticked u c w a m k p in
    ap (λ (y : Entry). recorded c t a y s) entry
    ∙ (ap (λ (z : Coordinator). recorded c t a (said_entry u c (completes k e ps)) z) state
    ∙ (ap (λ (n : ℕ). written u c t a (completes k n ps)) (now ∙ sym (same_epoch u c w a m k p l))
    ∙ (ap (λ (qs : List ℕ). written u c t a (completes k (coord_at t a).epoch qs)) none
    ∙ ap (λ (b : Bool). if b then finished u c t a k else t) (sym last))))

-- before it
pub is_ticked : (u : Switches) (c : Config) (w : World) (a m : ℕ) (k : Kind) (p : ℕ) → is_nil (without p (coord_at w a).awaited) ≡ false → ticked u c w a m k p ≡ settled u c w a m k p
is_ticked u c w a m k p more =
    let t : World = ticked u c w a m k p in
    ap (λ (b : Bool). if b then finished u c t a k else t) (sym more)

-- a list without items is empty
pub nil_by_length : (xs : List ℕ) → is_nil xs ≡ (length xs == 0)
nil_by_length [] = refl
nil_by_length (x ∷ xs) = sym (ne_eqb (length (x ∷ xs)) 0 (λ m. omega (arith, m)))
