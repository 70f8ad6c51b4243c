-- How a text is divided at its marks.
use Rattle.std.proofs.Common.{◌≡◌, ℕ, suc, ◌+◌, ◌-◌, ◌<◌, ◌≤◌, List, [], ◌∷◌, ◌++◌, Bool, true, false, ◌||◌, ◌==◌, Option, None, Some, Result, Ok, Err, length, length-append, append_assoc, append-nil, subst, get_or, take, drop, refl, ap, sym, ◌∙◌, arith, drop-cons, take-append-drop, length-drop}
use Rattle.std.proofs.lemmas.List.{take_all}
use Rattle.eos_evidence.specs.declared.ends.End.{End}
use Rattle.eos_manifest.specs.Divided.{divided, last_split, lines_of, items_of}
use Rattle.eos_manifest.specs.Lines.{with_end, end_in_line, ends_from, ends_with, ends_said_by}
use Rattle.eos_manifest.specs.steps.Pieces.{has_mark, IsFirstPiece, or_nothing}

no_first : (a b : Bool) → (a || b) ≡ false → a ≡ false
no_first true b h = h
no_first false b h = refl

no_second : (a b : Bool) → (a || b) ≡ false → b ≡ false
no_second true b h = absurd (cc h)
no_second false b h = h

same : (mark : ℕ) → (mark == mark) ≡ true
same mark = grind (arith)

pub split_none : (mark : ℕ) (bytes : List ℕ) → has_mark mark bytes ≡ false → last_split mark bytes ≡ None
unfolding last_split
split_none mark [] h = refl
split_none mark (b ∷ bs) h = rw (split_none mark bs (no_second (b == mark) (has_mark mark bs) h), no_first (b == mark) (has_mark mark bs) h) refl

-- the last mark divides
pub split_there : (mark : ℕ) (before after : List ℕ) → has_mark mark after ≡ false → last_split mark (before ++ mark ∷ after) ≡ Some (before, after)
unfolding last_split
split_there mark [] after h = rw (split_none mark after h, same mark) refl
split_there mark (b ∷ bs) after h = rw (split_there mark bs after h) refl

pub split_at : (mark : ℕ) (name : List ℕ) (at : ℕ) → 0 < at → at ≤ length name → get_or name (at - 1) 0 ≡ mark → has_mark mark (drop at name) ≡ false
    → Some (take (at - 1) name, take (length name - at) (drop at name)) ≡ last_split mark name
split_at mark name at above within there none =
    let k : ℕ = at - 1 in
    let next : suc k ≡ at = omega arith in
    let rest : drop k name ≡ mark ∷ drop at name = drop-cons name k 0 (omega arith) ∙ ap (λ b. b ∷ drop (suc k) name) there ∙ ap (λ n. mark ∷ drop n name) next in
    let whole : name ≡ take k name ++ mark ∷ drop at name = sym (take-append-drop k name) ∙ ap (λ l. take k name ++ l) rest in
    let all : take (length name - at) (drop at name) ≡ drop at name = take_all _ _ (omega (arith, length-drop at name)) in
    ap (λ l. Some (take k name, l)) all ∙ sym (ap (last_split mark) whole ∙ split_there mark (take k name) (drop at name) none)

-- ---- the first piece

-- the first mark divides
pub divided_there : (last : List (List ℕ)) (mark : ℕ) (before after : List ℕ) → has_mark mark before ≡ false → divided last mark (before ++ mark ∷ after) ≡ before ∷ divided last mark after
unfolding divided
divided_there last mark [] after h = rw (same mark) refl
divided_there last mark (b ∷ bs) after h =
    rw (no_first (b == mark) (has_mark mark bs) h, divided_there last mark bs after (no_second (b == mark) (has_mark mark bs) h)) refl

-- an item alone
pub divided_item : (mark : ℕ) (text : List ℕ) → has_mark mark text ≡ false → divided ([] ∷ []) mark text ≡ text ∷ []
unfolding divided
divided_item mark [] h = refl
divided_item mark (b ∷ bs) h =
    rw (no_first (b == mark) (has_mark mark bs) h, divided_item mark bs (no_second (b == mark) (has_mark mark bs) h)) refl

-- a line alone
pub divided_line : (mark byte : ℕ) (text : List ℕ) → has_mark mark (byte ∷ text) ≡ false → divided [] mark (byte ∷ text) ≡ (byte ∷ text) ∷ []
unfolding divided
divided_line mark byte [] h = rw (no_first (byte == mark) false h) refl
divided_line mark byte (b ∷ bs) h =
    rw (no_first (byte == mark) (has_mark mark (b ∷ bs)) h, divided_line mark b bs (no_second (byte == mark) (has_mark mark (b ∷ bs)) h)) refl

-- the items that are left, and how long the rest is
abbrev pub items_left : Option (List ℕ) → List (List ℕ)
items_left None = []
items_left (Some rest) = items_of rest

abbrev pub left : Option (List ℕ) → ℕ
left None = 0
left (Some rest) = suc (length rest)

pub item_and_rest : (text piece : List ℕ) (rest : Option (List ℕ)) → IsFirstPiece 44 text piece rest → items_of text ≡ piece ∷ items_left rest
item_and_rest text piece None h = ap items_of (sym h.0) ∙ divided_item 44 piece h.1
item_and_rest text piece (Some rest) h = ap items_of h.0 ∙ divided_there ([] ∷ []) 44 piece rest h.1

pub less_left : (text piece : List ℕ) (rest : Option (List ℕ)) → IsFirstPiece 44 text piece rest → left rest < left (Some text)
less_left text piece None h = omega arith
less_left text piece (Some rest) h = omega (arith, ap length h.0, length-append piece (44 ∷ rest))

-- ---- the lines of ends

abbrev pub with_ends : List End → Result (List End) ℕ → Result (List End) ℕ
with_ends es (Ok fs) = Ok (es ++ fs)
with_ends es (Err number) = Err number

pub line_and_rest : (text piece : List ℕ) (rest : Option (List ℕ)) → 0 < length text → IsFirstPiece 10 text piece rest → lines_of text ≡ piece ∷ lines_of (or_nothing rest)
unfolding divided
line_and_rest [] piece None some h = absurd (omega arith)
line_and_rest (b ∷ bs) piece None some h = rw (h.0) (divided_line 10 b bs (subst (λ (t : List ℕ). has_mark 10 t ≡ false) h.0 h.1))
line_and_rest text piece (Some rest) some h = ap lines_of h.0 ∙ divided_there [] 10 piece rest h.1

pub with_one_more : (es : List End) (e : End) (said : Result (List End) ℕ) → with_ends es (with_end e said) ≡ with_ends (es ++ e ∷ []) said
with_one_more es e (Ok fs) = ap Ok (sym (append_assoc es (e ∷ []) fs))
with_one_more es e (Err number) = refl

pub shorter : (text piece : List ℕ) (rest : Option (List ℕ)) → 0 < length text → IsFirstPiece 10 text piece rest → length (or_nothing rest) < length text
shorter text piece None some h = some
shorter text piece (Some rest) some h = omega (arith, ap length h.0, length-append piece (10 ∷ rest))

-- a line that says no end
pub line_bad : (text rest piece : List ℕ) (ends : List End) (number : ℕ) (lines : List (List ℕ)) → ends_from 1 (lines_of text) ≡ with_ends ends (ends_from number (lines_of rest))
    → lines_of rest ≡ piece ∷ lines → None ≡ end_in_line piece → ends_said_by text ≡ Err number
line_bad text rest piece ends number lines said split none =
    said ∙ ap (λ ls. with_ends ends (ends_from number ls)) split ∙ ap (λ o. with_ends ends (ends_with number o (ends_from (number + 1) lines))) (sym none)

-- a line that says one
pub line_good : (text rest piece : List ℕ) (ends : List End) (e : End) (number : ℕ) (lines : List (List ℕ)) → ends_from 1 (lines_of text) ≡ with_ends ends (ends_from number (lines_of rest))
    → lines_of rest ≡ piece ∷ lines → Some e ≡ end_in_line piece → ends_from 1 (lines_of text) ≡ with_ends (ends ++ e ∷ []) (ends_from (number + 1) lines)
line_good text rest piece ends e number lines said split is =
    said ∙ ap (λ ls. with_ends ends (ends_from number ls)) split ∙ ap (λ o. with_ends ends (ends_with number o (ends_from (number + 1) lines))) (sym is)
    ∙ with_one_more ends e (ends_from (number + 1) lines)

-- no line is left
pub no_line : (text rest : List ℕ) (ends : List End) (number : ℕ) → ends_from 1 (lines_of text) ≡ with_ends ends (ends_from number (lines_of rest)) → length rest ≡ 0 → ends_said_by text ≡ Ok ends
unfolding divided
no_line text [] ends number said none = said ∙ ap Ok (append-nil ends)
no_line text (b ∷ bs) ends number said none = absurd (omega (arith, none))
