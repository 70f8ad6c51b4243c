-- How many ends of a topic a front of a list has, with one end more.
use Rattle.std.proofs.Common.{◌≡◌, ℕ, ◌+◌, ◌<◌, List, [], ◌∷◌, ◌++◌, length, length-append, take, get_or, ap, sym, ◌∙◌, Bool, true, false, cond, refl, arith}
use Rattle.std.specs.List.{filter}
use Rattle.std.proofs.lemmas.List.{take_more}
use Rattle.std.proofs.lemmas.List.Elements.{filter-append}
use Rattle.eos_evidence.specs.declared.ends.End.{End}
use Rattle.eos_manifest.specs.Coordinators.{is_of, count_of}

one : (b : Bool) (e : End) → length (cond b (e ∷ []) []) ≡ cond b 1 0
one true e = refl
one false e = refl

count_more : (topic : List ℕ) (ends : List End) (i : ℕ) (e : End) → i < length ends → e ≡ get_or ends i e
    → count_of (take (i + 1) ends) topic ≡ count_of (take i ends) topic + cond (is_of topic e) 1 0
count_more topic ends i e lt is =
    let taken : take (i + 1) ends ≡ take i ends ++ e ∷ [] = take_more ends i e lt ∙ ap (λ (x : End). take i ends ++ x ∷ []) (sym is) in
    ap (λ (es : List End). length (filter (is_of topic) es)) taken ∙ ap length (filter-append (is_of topic) (take i ends) (e ∷ []))
    ∙ length-append (filter (is_of topic) (take i ends)) (filter (is_of topic) (e ∷ [])) ∙ ap (λ n. count_of (take i ends) topic + n) (one (is_of topic e) e)

pub counted : (topic : List ℕ) (ends : List End) (i : ℕ) (e : End) (before after : ℕ) → i < length ends → e ≡ get_or ends i e → is_of topic e ≡ true
    → before ≡ count_of (take i ends) topic → after ≡ before + 1 → after ≡ count_of (take (i + 1) ends) topic
counted topic ends i e before after lt is holds so_far next =
    next ∙ ap (λ n. n + 1) so_far ∙ ap (λ b. count_of (take i ends) topic + cond b 1 0) (sym holds) ∙ sym (count_more topic ends i e lt is)

pub passed_by : (topic : List ℕ) (ends : List End) (i : ℕ) (e : End) (before after : ℕ) → i < length ends → e ≡ get_or ends i e → is_of topic e ≡ false
    → before ≡ count_of (take i ends) topic → after ≡ before → after ≡ count_of (take (i + 1) ends) topic
passed_by topic ends i e before after lt is other so_far same =
    let none : count_of (take i ends) topic ≡ count_of (take i ends) topic + 0 = omega arith in
    same ∙ so_far ∙ none ∙ ap (λ b. count_of (take i ends) topic + cond b 1 0) (sym other) ∙ sym (count_more topic ends i e lt is)
