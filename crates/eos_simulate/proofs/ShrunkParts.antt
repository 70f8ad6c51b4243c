-- Parts of what was done, and what is left of a history that was made smaller.
use Rattle.std.proofs.Common.{◌≡◌, ◌≤◌, ◌<◌, ◌+◌, ℕ, List, [], ◌∷◌, ◌++◌, Option, None, Some, IfSome, map, length, take, get_or, inl, inr, refl, sym, ap, ap₂, subst, ◌∙◌}
use Rattle.std.proofs.lemmas.List.{take_all, take_more, map-append}
use Rattle.eos_check.specs.Verdicts.{IsVerdict}
use Rattle.eos_evidence.specs.Evidence.{EvidenceParts}
use Rattle.eos_verdict.specs.declared.verdict.Verdict.{Verdict}
use Rattle.eos_verdict.specs.declared.verdict.Verdict.TheVariants.{Yes, No}
use Rattle.eos_machine.specs.declared.config.Config.{Config}
use Rattle.eos_drive.specs.declared.deed.Deed.{Deed}
use Rattle.eos_history_lines.specs.declared.line.Deed.{Deed as SaidDeed}
use Rattle.eos_history_lines.specs.declared.line.Deed.TheVariants as said
use Rattle.eos_history_lines.specs.declared.line.Line.{Line}
use Rattle.eos_simulate.specs.Every.{IsJudged}
use Rattle.eos_simulate.specs.Histories.{act_of, act_said, acts_of, acts_said}
use Rattle.eos_simulate.specs.Parts.{IsPartOf, unnamed_deed, unnamed_deeds, unnamed_lines}
use Rattle.eos_simulate.specs.Shrinking.{GivesFault, IsShrunk}
use Rattle.eos_simulate.specs.steps.AddedLines.{AddsLine}
use Rattle.eos_simulate.specs.steps.Judging.{IsFaultOf}

-- ---- parts

pub part_all : (xs : List SaidDeed) → IsPartOf xs xs
part_all [] = tt
part_all (x ∷ xs) = inl (refl, part_all xs)

part_trans : (xs ys zs : List SaidDeed) → IsPartOf xs ys → IsPartOf ys zs → IsPartOf xs zs
part_trans [] ys zs h k = tt
part_trans (x ∷ xs) [] zs h k = absurd h
part_trans (x ∷ xs) (y ∷ ys) [] h k = absurd k
part_trans (x ∷ xs) (y ∷ ys) (z ∷ zs) (inl h) (inl k) = inl (h.0 ∙ k.0, part_trans xs ys zs h.1 k.1)
part_trans (x ∷ xs) (y ∷ ys) (z ∷ zs) (inr h) (inl k) = inr (part_trans (x ∷ xs) ys zs h k.1)
part_trans (x ∷ xs) (y ∷ ys) (z ∷ zs) h (inr k) = inr (part_trans (x ∷ xs) (y ∷ ys) zs h k)

-- one more behind both
part_both : (xs ys : List SaidDeed) (x y : SaidDeed) → x ≡ y → IsPartOf xs ys → IsPartOf (xs ++ x ∷ []) (ys ++ y ∷ [])
part_both [] [] x y e h = inl (e, tt)
part_both [] (z ∷ ys) x y e h = inr (part_both [] ys x y e tt)
part_both (w ∷ xs) [] x y e h = absurd h
part_both (w ∷ xs) (z ∷ ys) x y e (inl h) = inl (h.0, part_both xs ys x y e h.1)
part_both (w ∷ xs) (z ∷ ys) x y e (inr h) = inr (part_both (w ∷ xs) ys x y e h)

-- one more behind the whole
part_more : (xs ys : List SaidDeed) (y : SaidDeed) → IsPartOf xs ys → IsPartOf xs (ys ++ y ∷ [])
part_more [] ys y h = tt
part_more (x ∷ xs) [] y h = absurd h
part_more (x ∷ xs) (z ∷ ys) y (inl h) = inl (h.0, part_more xs ys y h.1)
part_more (x ∷ xs) (z ∷ ys) y (inr h) = inr (part_more (x ∷ xs) ys y h)

-- ---- lines that are left of what was done

deeds_further : (ds : List Deed) (i : ℕ) (d : Deed) → i < length ds → d ≡ get_or ds i d → unnamed_deeds (take (i + 1) ds) ≡ unnamed_deeds (take i ds) ++ unnamed_deed (act_of d) ∷ []
deeds_further ds i d lt is =
    ap unnamed_deeds (take_more ds i d lt ∙ ap (λ (x : Deed). take i ds ++ x ∷ []) (sym is)) ∙ map-append (λ (x : Deed). unnamed_deed (act_of x)) (take i ds) (d ∷ [])

line_left : (ls : List Line) (ds : List Deed) (i : ℕ) (l : Line) (d : Deed) → i < length ds → d ≡ get_or ds i d → unnamed_deed l.deed ≡ unnamed_deed (act_of d)
    → IsPartOf (unnamed_lines ls) (unnamed_deeds (take i ds)) → IsPartOf (unnamed_lines (ls ++ l ∷ [])) (unnamed_deeds (take (i + 1) ds))
line_left ls ds i l d lt is same h =
    subst (λ (x : List SaidDeed). IsPartOf (unnamed_lines (ls ++ l ∷ [])) x) (sym (deeds_further ds i d lt is))
    (subst (λ (x : List SaidDeed). IsPartOf x (unnamed_deeds (take i ds) ++ unnamed_deed (act_of d) ∷ [])) (sym (map-append (λ (x : Line). unnamed_deed x.deed) ls (l ∷ [])))
    (part_both (unnamed_lines ls) (unnamed_deeds (take i ds)) (unnamed_deed l.deed) (unnamed_deed (act_of d)) same h))

line_gone : (ls : List Line) (ds : List Deed) (i : ℕ) (d : Deed) → i < length ds → d ≡ get_or ds i d
    → IsPartOf (unnamed_lines ls) (unnamed_deeds (take i ds)) → IsPartOf (unnamed_lines ls) (unnamed_deeds (take (i + 1) ds))
line_gone ls ds i d lt is h =
    subst (λ (x : List SaidDeed). IsPartOf (unnamed_lines ls) x) (sym (deeds_further ds i d lt is))
    (part_more (unnamed_lines ls) (unnamed_deeds (take i ds)) (unnamed_deed (act_of d)) h)

-- of the next line what is left is added, if anything is
pub line_passed : (ls new : List Line) (ds : List Deed) (i number : ℕ) (left : Option SaidDeed) (d : Deed) → i < length ds → d ≡ get_or ds i d → IfSome left (λ x. unnamed_deed x ≡ unnamed_deed (act_of d))
    → AddsLine number left ls new → IsPartOf (unnamed_lines ls) (unnamed_deeds (take i ds)) → IsPartOf (unnamed_lines new) (unnamed_deeds (take (i + 1) ds))
line_passed ls new ds i number None d lt is same adds h = subst (λ (x : List Line). IsPartOf (unnamed_lines x) (unnamed_deeds (take (i + 1) ds))) (sym adds) (line_gone ls ds i d lt is h)
line_passed ls new ds i number (Some x) d lt is same adds h =
    subst (λ (x : List Line). IsPartOf (unnamed_lines x) (unnamed_deeds (take (i + 1) ds))) (sym adds) (line_left ls ds i (record { number = number; deed = x }) d lt is same h)

pub all_left : (ls : List Line) (ds : List Deed) (i : ℕ) → length ds ≤ i → IsPartOf (unnamed_lines ls) (unnamed_deeds (take i ds)) → IsPartOf (unnamed_lines ls) (unnamed_deeds ds)
all_left ls ds i end h = subst (λ (x : List Deed). IsPartOf (unnamed_lines ls) (unnamed_deeds x)) (take_all i ds end) h

-- ---- what is done of lines

said_alike : (d : SaidDeed) → unnamed_deed (act_said d) ≡ unnamed_deed d
said_alike (said.Asked event reply) = refl
said_alike (said.Set switches) = refl
said_alike (said.Noted note) = refl

of_acts : (ds : List Deed) → map unnamed_deed (acts_of ds) ≡ unnamed_deeds ds
of_acts [] = refl
of_acts (d ∷ ds) = ap (λ (x : List SaidDeed). unnamed_deed (act_of d) ∷ x) (of_acts ds)

of_said : (ls : List Line) → map unnamed_deed (acts_said ls) ≡ unnamed_lines ls
of_said [] = refl
of_said (l ∷ ls) = ap₂ (λ (x : SaidDeed) (xs : List SaidDeed). x ∷ xs) (said_alike l.deed) (of_said ls)

alike : (ds : List Deed) (ls : List Line) → acts_of ds ≡ acts_said ls → unnamed_deeds ds ≡ unnamed_lines ls
alike ds ls e = sym (of_acts ds) ∙ (ap (map unnamed_deed) e ∙ of_said ls)

-- ---- what is left gives the fault

gives_fault : (code : List ℕ) (e : EvidenceParts) (v : Verdict) → IsVerdict e v → IsFaultOf code v → GivesFault code e
gives_fault code e (Yes counts) is fault = absurd fault
gives_fault code e (No f) is fault = record { fault = f; verdict = is; coded = fault }

-- of lines that are a part
pub shrunk_by : (c : Config) (code : List ℕ) (whole : List SaidDeed) (before deeds : List Deed) (ls : List Line) (v : Verdict) → (before ≡ [] → IsJudged c deeds v) → (before ≡ [] → acts_of deeds ≡ acts_said ls)
    → IsFaultOf code v → before ≡ [] → IsPartOf (unnamed_lines ls) whole → IsShrunk c code whole deeds
shrunk_by c code whole before deeds ls v judged done fault none part = record {
  evidence = (judged none).evidence;
  left = (judged none).left;
  gives = gives_fault code (judged none).evidence v (judged none).judged fault;
  part = subst (λ (x : List SaidDeed). IsPartOf x whole) (sym (alike deeds ls (done none))) part;
}

-- of a part a part
pub shrunk_on : (c : Config) (code : List ℕ) (whole : List SaidDeed) (deeds smaller : List Deed) → IsShrunk c code whole deeds → IsShrunk c code (unnamed_deeds deeds) smaller → IsShrunk c code whole smaller
shrunk_on c code whole deeds smaller h k = record {
  evidence = k.evidence;
  left = k.left;
  gives = k.gives;
  part = part_trans (unnamed_deeds smaller) (unnamed_deeds deeds) whole k.part h.part;
}
