-- A caller's calls against a history, one entry after the other.
use Rattle.std.proofs.Common.{◌≡◌, ◌↔◌, ◌++◌, ◌∷◌, [], ℕ, zero, suc, ◌+◌, ◌≤◌, ◌<◌, false, true, Bool, List, length, drop, get_or, Some, ◌∙◌, ap, subst, arith, refl, if◌then◌else◌}
use Rattle.std.specs.Prelude.{slice_get}
use Rattle.std.proofs.lemmas.Bool.{ne_eqb, eq-eqb}
use Rattle.std.proofs.lemmas.List.{drop_more}
use Rattle.eos_drive.specs.declared.finished.Entry.{Entry}
use Rattle.eos_drive.specs.declared.finished.Call.{Call}
use Rattle.eos_drive.specs.Replay.{call_at, calls_from, calls_of}

-- what is left of the calls is what is left of the entries, exactly where all are all
abbrev pub Left : List Entry → ℕ → List Call → ℕ → ℕ → Type 0
Left es n cs k j = (drop j cs ≡ calls_from n k (drop k es)) ↔ (cs ≡ calls_of n es)

from_here : (es : List Entry) (k : ℕ) (x : Entry) → k < length es → get_or es k x ≡ x → drop k es ≡ x ∷ drop (k + 1) es
from_here es k x l is = drop_more es k x l ∙ ap (λ (y : Entry). y ∷ drop (k + 1) es) is

-- an entry of another number
pub skipped : (es : List Entry) (n : ℕ) (cs : List Call) (k j : ℕ) (x : Entry) → k < length es → get_or es k x ≡ x → (x.pass ≡ n → ⊥) → Left es n cs k j → Left es n cs (k + 1) j
skipped es n cs k j x l is other h =
    let rest : calls_from n k (drop k es) ≡ calls_from n (k + 1) (drop (k + 1) es) = ap (calls_from n k) (from_here es k x l is) ∙ ap (λ (b : Bool). (if b then call_at k x ∷ [] else []) ++ calls_from n (k + 1) (drop (k + 1) es)) (ne_eqb x.pass n other) in
    subst (λ (z : List Call). (drop j cs ≡ z) ↔ (cs ≡ calls_of n es)) rest h

-- an entry of this number is the next call
abbrev Next : List Entry → ℕ → List Call → ℕ → ℕ → Entry → Type 0
Next es n cs k j x = (drop j cs ≡ call_at k x ∷ calls_from n (k + 1) (drop (k + 1) es)) ↔ (cs ≡ calls_of n es)

next_of : (es : List Entry) (n : ℕ) (cs : List Call) (k j : ℕ) (x : Entry) → k < length es → get_or es k x ≡ x → x.pass ≡ n → Left es n cs k j → Next es n cs k j x
next_of es n cs k j x l is mine h =
    let rest : calls_from n k (drop k es) ≡ call_at k x ∷ calls_from n (k + 1) (drop (k + 1) es) = ap (calls_from n k) (from_here es k x l is) ∙ ap (λ (b : Bool). (if b then call_at k x ∷ [] else []) ++ calls_from n (k + 1) (drop (k + 1) es)) (eq-eqb x.pass n mine) in
    subst (λ (z : List Call). (drop j cs ≡ z) ↔ (cs ≡ calls_of n es)) rest h

-- the call at a place, and those after it
got_front : (cs : List Call) (j : ℕ) (y : Call) → slice_get cs j ≡ Some y → drop j cs ≡ y ∷ drop (suc j) cs
got_front [] j y e = absurd cc
got_front (c ∷ cs) zero y e = ap (λ (z : Call). z ∷ cs) (let i : Some c ≡ Some y = e in cc)
got_front (c ∷ cs) (suc j) y e = got_front cs j y e

got : (cs : List Call) (j : ℕ) (y : Call) → slice_get cs j ≡ Some y → drop j cs ≡ y ∷ drop (j + 1) cs
got cs j y e =
    let next : suc j ≡ j + 1 = omega arith in
    got_front cs j y e ∙ ap (λ (m : ℕ). y ∷ drop m cs) next

lost : (cs : List Call) (j : ℕ) (y : Call) (ys : List Call) → drop j cs ≡ y ∷ ys → slice_get cs j ≡ Some y
lost [] zero y ys e = absurd cc
lost [] (suc j) y ys e = absurd cc
lost (c ∷ cs) zero y ys e = let i : c ∷ cs ≡ y ∷ ys = e in let m : c ≡ y = cc in ap (λ (z : Call). Some z) m
lost (c ∷ cs) (suc j) y ys e = lost cs j y ys e

pub noticed : (es : List Entry) (n : ℕ) (cs : List Call) (k j : ℕ) (x : Entry) → k < length es → get_or es k x ≡ x → x.pass ≡ n → slice_get cs j ≡ Some (call_at k x) → Left es n cs k j → Left es n cs (k + 1) (j + 1)
noticed es n cs k j x l is mine here h =
    let rest = calls_from n (k + 1) (drop (k + 1) es) in
    let m : (call_at k x ∷ drop (j + 1) cs ≡ call_at k x ∷ rest) ↔ (cs ≡ calls_of n es) = subst (λ (z : List Call). (z ≡ call_at k x ∷ rest) ↔ (cs ≡ calls_of n es)) (got cs j (call_at k x) here) (next_of es n cs k j x l is mine h) in
    (λ e. m.0 (ap (λ (z : List Call). call_at k x ∷ z) e), λ q. ap (drop 1) (m.1 q))

-- it isn't
pub differs : (es : List Entry) (n : ℕ) (cs : List Call) (k j : ℕ) (x : Entry) → k < length es → get_or es k x ≡ x → x.pass ≡ n → (slice_get cs j ≡ Some (call_at k x) → ⊥) → Left es n cs k j → (false ≡ true) ↔ (cs ≡ calls_of n es)
differs es n cs k j x l is mine not h =
    let m = next_of es n cs k j x l is mine h in
    (λ e. absurd cc, λ q. absurd (not (lost cs j (call_at k x) _ (m.1 q))))

-- no entry is left
nothing_left : (cs : List Call) (j : ℕ) → j ≤ length cs → (drop j cs ≡ []) ↔ (j ≡ length cs)
nothing_left [] zero l = (λ e. refl, λ e. refl)
nothing_left [] (suc j) l = absurd (omega (arith, l))
nothing_left (c ∷ cs) zero l = (λ e. absurd cc, λ e. absurd (omega (arith, e)))
nothing_left (c ∷ cs) (suc j) l =
    let m = nothing_left cs j (omega (arith, l)) in
    (λ e. let i = m.0 e in omega (arith, i), λ e. m.1 (omega (arith, e)))

all_dropped : (es : List Entry) (k : ℕ) → k ≡ length es → drop k es ≡ []
all_dropped [] zero e = refl
all_dropped [] (suc k) e = absurd (omega (arith, e))
all_dropped (x ∷ es) zero e = absurd (omega (arith, e))
all_dropped (x ∷ es) (suc k) e = all_dropped es k (omega (arith, e))

pub settled : (es : List Entry) (n : ℕ) (cs : List Call) (k j : ℕ) → k ≡ length es → j ≤ length cs → Left es n cs k j → (j ≡ length cs) ↔ (cs ≡ calls_of n es)
settled es n cs k j e l h =
    let m : (drop j cs ≡ []) ↔ (cs ≡ calls_of n es) = subst (λ (z : List Entry). (drop j cs ≡ calls_from n k z) ↔ (cs ≡ calls_of n es)) (all_dropped es k e) h in
    let t = nothing_left cs j l in
    (λ q. m.0 (t.1 q), λ q. t.0 (m.1 q))

-- ---- for the steps of the code

pub clash : (b : Bool) → b ≡ true → b ≡ false → ⊥
clash true t f = cc
clash false t f = cc

pub within : (cs : List Call) (j : ℕ) (y : Call) → slice_get cs j ≡ Some y → j + 1 ≤ length cs
within [] j y e = absurd cc
within (c ∷ cs) zero y e = omega arith
within (c ∷ cs) (suc j) y e = let l = within cs j y e in omega (arith, l)

pub is_told : (y : Call) (k : ℕ) (x : Entry) → (y.place ≡ k) × (y.reply ≡ x.reply) × (y.event ≡ x.event) → y ≡ call_at k x
is_told y k x h = λ i. record { place = h.0 i; event = h.2 i; reply = h.1 i }

pub told_parts : (y : Call) (k : ℕ) (x : Entry) → y ≡ call_at k x → (y.place ≡ k) × (y.reply ≡ x.reply) × (y.event ≡ x.event)
told_parts y k x e = (ap (λ (z : Call). z.place) e, ap (λ (z : Call). z.reply) e, ap (λ (z : Call). z.event) e)
