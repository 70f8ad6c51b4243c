-- What the walk over the claims in order shows, neighbours by neighbours.
use Rattle.std.proofs.Common.{◌≡◌, List, [], ◌∷◌, refl, inl, inr, ◌⊎◌}
use Rattle.eos_base.specs.Members.{Has}
use Rattle.eos_base.proofs.Membership.{append_cases, append_left, append_right}
use Rattle.eos_claims.specs.declared.fault.OutputFault.{OutputFault}
use Rattle.eos_claims.specs.Candidates.{Counted, at_start, at_end, between, runs_after, runs}
use Rattle.eos_claims.proofs.NeighbourLists.{Adjacent, IsHead, IsLast}

abbrev pub Shown : List Counted → OutputFault → Type 0
Shown cs f = ((y : Counted) × IsHead cs y × Has (at_start y) f)
    ⊎ (((y : Counted) × (z : Counted) × Adjacent cs y z × Has (between y z) f)
    ⊎ ((y : Counted) × IsLast cs y × Has (at_end y) f))

after_cases : (p : Counted) (cs : List Counted) (f : OutputFault) → Has (runs_after p cs) f
    → ((y : Counted) × (z : Counted) × Adjacent (p ∷ cs) y z × Has (between y z) f) ⊎ ((y : Counted) × IsLast (p ∷ cs) y × Has (at_end y) f)
after_cases p [] f h = inr (p, refl, h)
after_cases p (c ∷ cs) f h = elim (append_cases (between p c) (runs_after c cs) f h) [
  | inl b ↦ inl (p, c, inl (refl, refl), b)
  | inr r ↦ elim (after_cases c cs f r) [ inl n ↦ inl (n.0, n.1, inr n.2, n.3) | inr l ↦ inr l ]
]

pub runs_has : (cs : List Counted) (f : OutputFault) → Has (runs cs) f → Shown cs f
runs_has [] f h = absurd h
runs_has (c ∷ cs) f h = elim (append_cases (at_start c) (runs_after c cs) f h) [
  | inl s ↦ inl (c, refl, s)
  | inr r ↦ inr (after_cases c cs f r)
]

after_between : (p : Counted) (cs : List Counted) (y z : Counted) (f : OutputFault) → Adjacent (p ∷ cs) y z → Has (between y z) f → Has (runs_after p cs) f
after_between p [] y z f h b = absurd h
after_between p (c ∷ cs) y z f (inl e) b = append_left (between p c) (runs_after c cs) f (here p c e.0 e.1 b)
  where
    here : (p c : Counted) → p ≡ y → c ≡ z → Has (between y z) f → Has (between p c) f
    here p c e q b = rw (e, q) b
after_between p (c ∷ cs) y z f (inr h) b = append_right (between p c) (runs_after c cs) f (after_between c cs y z f h b)

after_end : (p : Counted) (cs : List Counted) (y : Counted) (f : OutputFault) → IsLast (p ∷ cs) y → Has (at_end y) f → Has (runs_after p cs) f
after_end p [] y f h b = here p h b
  where
    here : (p : Counted) → p ≡ y → Has (at_end y) f → Has (at_end p) f
    here p e b = rw (e) b
after_end p (c ∷ cs) y f h b = append_right (between p c) (runs_after c cs) f (after_end c cs y f h b)

pub has_start : (cs : List Counted) (y : Counted) (f : OutputFault) → IsHead cs y → Has (at_start y) f → Has (runs cs) f
has_start [] y f h b = absurd h
has_start (c ∷ cs) y f h b = append_left (at_start c) (runs_after c cs) f (here c h b)
  where
    here : (c : Counted) → c ≡ y → Has (at_start y) f → Has (at_start c) f
    here c e b = rw (e) b

pub has_between : (cs : List Counted) (y z : Counted) (f : OutputFault) → Adjacent cs y z → Has (between y z) f → Has (runs cs) f
has_between [] y z f h b = absurd h
has_between (c ∷ cs) y z f h b = append_right (at_start c) (runs_after c cs) f (after_between c cs y z f h b)

pub has_end : (cs : List Counted) (y : Counted) (f : OutputFault) → IsLast cs y → Has (at_end y) f → Has (runs cs) f
has_end [] y f h b = absurd h
has_end (c ∷ cs) y f h b = append_right (at_start c) (runs_after c cs) f (after_end c cs y f h b)
