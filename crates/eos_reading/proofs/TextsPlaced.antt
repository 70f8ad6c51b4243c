-- Records that lie one behind the other: one more, fewer, and others behind them.
use Rattle.std.proofs.Common.{◌≡◌, ℕ, zero, suc, ◌+◌, ◌-◌, ◌≤◌, ◌<◌, List, [], ◌∷◌, ◌++◌, map, length, take, drop, get_or, slice_get, slice_range, Option, Some, None, is_some, if◌then◌else◌, All, refl, sym, ap, subst, ◌∙◌, arith}
use Rattle.std.proofs.lemmas.List.{drop-append-le, take-append-le, take-append-drop, length-append, length-drop, length-take-le, take_at, drop_at, take_all}
use Rattle.std.proofs.lemmas.Option.{slice_get_read}
use Rattle.std.proofs.Math.Seq.{drop-append-add}
use Rattle.eos_batch.specs.declared.record.Record.{Record}
use Rattle.eos_reading.specs.Records.{record_of}
use Rattle.eos_reading.specs.steps.Bytes.{bytes_in}
use Rattle.eos_reading.specs.steps.TextEnds.{EndView, behind, moved, text_of, texts_from, Reaches, end_of}

pub texts_length : (begin : ℕ) (ps : List EndView) (bytes : List ℕ) → length (texts_from begin ps bytes) ≡ length ps
texts_length begin [] bytes = refl
texts_length begin (p ∷ ps) bytes = ap suc (texts_length p.end ps bytes)

begins_within : (begin : ℕ) (ps : List EndView) (end : ℕ) → Reaches begin ps end → begin ≤ end
begins_within begin [] end h = omega (arith, h)
begins_within begin (p ∷ ps) end h = omega (arith, h.0, begins_within p.end ps end h.1)

reaches_append : (begin : ℕ) (ps qs : List EndView) (mid end : ℕ) → Reaches begin ps mid → Reaches mid qs end → Reaches begin (ps ++ qs) end
reaches_append begin [] qs mid end h k = subst (λ (n : ℕ). Reaches n qs end) (sym h) k
reaches_append begin (p ∷ ps) qs mid end h k = (h.0, reaches_append p.end ps qs mid end h.1 k)

reaches_moved : (by begin : ℕ) (ps : List EndView) (end : ℕ) → Reaches begin ps end → Reaches (by + begin) (map (moved by) ps) (by + end)
reaches_moved by begin [] end h = ap (λ (n : ℕ). by + n) h
reaches_moved by begin (p ∷ ps) end h = (omega (arith, h.0), reaches_moved by p.end ps end h.1)

reaches_take : (begin : ℕ) (ps : List EndView) (end count : ℕ) → Reaches begin ps end → count ≤ length ps → Reaches begin (take count ps) (end_of begin ps count)
reaches_take begin ps end zero h le = refl
reaches_take begin [] end (suc count) h le = absurd (omega arith)
reaches_take begin (p ∷ ps) end (suc count) h le = (h.0, reaches_take p.end ps end count h.1 (omega arith))

pub ends_within : (begin : ℕ) (ps : List EndView) (end count : ℕ) → Reaches begin ps end → end_of begin ps count ≤ end
ends_within begin ps end zero h = begins_within begin ps end h
ends_within begin [] end (suc count) h = omega (arith, h)
ends_within begin (p ∷ ps) end (suc count) h = ends_within p.end ps end count h.1

end_next : (begin : ℕ) (ps : List EndView) (i : ℕ) (p : EndView) → slice_get ps i ≡ Some p → end_of begin ps (suc i) ≡ p.end
end_next begin [] i p e = cc
end_next begin (q ∷ ps) zero p e = cc
end_next begin (q ∷ ps) (suc i) p e = end_next q.end ps i p e

pub text_within : (begin : ℕ) (ps : List EndView) (end i : ℕ) (p : EndView) → Reaches begin ps end → slice_get ps i ≡ Some p → (end_of begin ps i + p.key ≤ p.end) × (p.end ≤ end)
text_within begin [] end i p h e = cc
text_within begin (q ∷ ps) end zero p h e =
    let same : q ≡ p = cc in
    subst (λ (r : EndView). (begin + r.key ≤ r.end) × (r.end ≤ end)) same (h.0, begins_within q.end ps end h.1)
text_within begin (q ∷ ps) end (suc i) p h e = text_within q.end ps end i p h.1 e

pub text_at : (begin : ℕ) (ps : List EndView) (bytes : List ℕ) (i : ℕ) (p : EndView) → slice_get ps i ≡ Some p → slice_get (texts_from begin ps bytes) i ≡ Some (text_of p (slice_range bytes (end_of begin ps i) p.end))
text_at begin [] bytes i p e = cc
text_at begin (q ∷ ps) bytes zero p e =
    let same : q ≡ p = cc in
    ap (λ (r : EndView). Some (text_of r (slice_range bytes begin r.end))) same
text_at begin (q ∷ ps) bytes (suc i) p e = text_at q.end ps bytes i p e

texts_append : (begin : ℕ) (ps qs : List EndView) (mid : ℕ) (bytes : List ℕ) → Reaches begin ps mid → texts_from begin (ps ++ qs) bytes ≡ texts_from begin ps bytes ++ texts_from mid qs bytes
texts_append begin [] qs mid bytes h = ap (λ (n : ℕ). texts_from n qs bytes) h
texts_append begin (p ∷ ps) qs mid bytes h = ap (λ (rs : List Record). text_of p (slice_range bytes begin p.end) ∷ rs) (texts_append p.end ps qs mid bytes h.1)

range_front : (xs ys : List ℕ) (from to : ℕ) → from ≤ to → to ≤ length xs → slice_range (xs ++ ys) from to ≡ slice_range xs from to
range_front xs ys from to le within =
    ap (take (to - from)) (drop-append-le from xs ys (omega arith)) ∙ take-append-le (to - from) (drop from xs) ys (omega (arith, length-drop from xs))

-- what stands behind their bytes is none of theirs
texts_front : (begin : ℕ) (ps : List EndView) (end : ℕ) (bytes more : List ℕ) → Reaches begin ps end → end ≤ length bytes → texts_from begin ps (bytes ++ more) ≡ texts_from begin ps bytes
texts_front begin [] end bytes more h le = refl
texts_front begin (p ∷ ps) end bytes more h le =
    let last = begins_within p.end ps end h.1 in
    let one : slice_range (bytes ++ more) begin p.end ≡ slice_range bytes begin p.end = range_front bytes more begin p.end (omega (arith, h.0)) (omega (arith, last, le)) in
    ap (λ (xs : List ℕ). text_of p xs ∷ texts_from p.end ps (bytes ++ more)) one ∙ ap (λ (rs : List Record). text_of p (slice_range bytes begin p.end) ∷ rs) (texts_front p.end ps end bytes more h.1 le)

texts_moved : (begin : ℕ) (ps : List EndView) (before bytes : List ℕ) → texts_from (length before + begin) (map (moved (length before)) ps) (before ++ bytes) ≡ texts_from begin ps bytes
texts_moved begin [] before bytes = refl
texts_moved begin (p ∷ ps) before bytes =
    let size : (length before + p.end) - (length before + begin) ≡ p.end - begin = omega arith in
    let one : slice_range (before ++ bytes) (length before + begin) (length before + p.end) ≡ slice_range bytes begin p.end =
    ap (λ (n : ℕ). take n (drop (length before + begin) (before ++ bytes))) size ∙ ap (take (p.end - begin)) (drop-append-add before bytes begin) in
    ap (λ (xs : List ℕ). text_of p xs ∷ texts_from (length before + p.end) (map (moved (length before)) ps) (before ++ bytes)) one
    ∙ ap (λ (rs : List Record). text_of p (slice_range bytes begin p.end) ∷ rs) (texts_moved p.end ps before bytes)

texts_take : (begin : ℕ) (ps : List EndView) (bytes : List ℕ) (count : ℕ) → texts_from begin (take count ps) bytes ≡ take count (texts_from begin ps bytes)
texts_take begin ps bytes zero = refl
texts_take begin [] bytes (suc count) = refl
texts_take begin (p ∷ ps) bytes (suc count) = ap (λ (rs : List Record). text_of p (slice_range bytes begin p.end) ∷ rs) (texts_take p.end ps bytes count)

-- the first so many of them, and their bytes
pub cut_reaches : (ps : List EndView) (bytes : List ℕ) (count : ℕ) → Reaches 0 ps (length bytes) → count ≤ length ps → Reaches 0 (take count ps) (length (take (end_of 0 ps count) bytes))
cut_reaches ps bytes count h le =
    let long : length (take (end_of 0 ps count) bytes) ≡ end_of 0 ps count = length-take-le (end_of 0 ps count) bytes (ends_within 0 ps (length bytes) count h) in
    subst (Reaches 0 (take count ps)) (sym long) (reaches_take 0 ps (length bytes) count h le)

pub cut_texts : (ps : List EndView) (bytes : List ℕ) (count : ℕ) → Reaches 0 ps (length bytes) → count ≤ length ps → texts_from 0 (take count ps) (take (end_of 0 ps count) bytes) ≡ take count (texts_from 0 ps bytes)
cut_texts ps bytes count h le =
    let end = end_of 0 ps count in
    let long : length (take end bytes) ≡ end = length-take-le end bytes (ends_within 0 ps (length bytes) count h) in
    sym (texts_front 0 (take count ps) end (take end bytes) (drop end bytes) (reaches_take 0 ps (length bytes) count h le) (omega (arith, long)))
    ∙ (ap (texts_from 0 (take count ps)) (take-append-drop end bytes) ∙ texts_take 0 ps bytes count)

-- others behind them
pub joined_reaches : (ps qs : List EndView) (bytes more : List ℕ) → Reaches 0 ps (length bytes) → Reaches 0 qs (length more) → Reaches 0 (ps ++ map (moved (length bytes)) qs) (length (bytes ++ more))
joined_reaches ps qs bytes more h k =
    let zero_more : length bytes + 0 ≡ length bytes = omega arith in
    let back : Reaches (length bytes) (map (moved (length bytes)) qs) (length bytes + length more) =
    subst (λ (n : ℕ). Reaches n (map (moved (length bytes)) qs) (length bytes + length more)) zero_more (reaches_moved (length bytes) 0 qs (length more) k) in
    subst (Reaches 0 (ps ++ map (moved (length bytes)) qs)) (sym (length-append bytes more)) (reaches_append 0 ps (map (moved (length bytes)) qs) (length bytes) (length bytes + length more) h back)

pub joined_texts : (ps qs : List EndView) (bytes more : List ℕ) → Reaches 0 ps (length bytes) → texts_from 0 (ps ++ map (moved (length bytes)) qs) (bytes ++ more) ≡ texts_from 0 ps bytes ++ texts_from 0 qs more
joined_texts ps qs bytes more h =
    let zero_more : length bytes + 0 ≡ length bytes = omega arith in
    let back : texts_from (length bytes) (map (moved (length bytes)) qs) (bytes ++ more) ≡ texts_from 0 qs more =
    ap (λ (n : ℕ). texts_from n (map (moved (length bytes)) qs) (bytes ++ more)) (sym zero_more) ∙ texts_moved 0 qs bytes more in
    texts_append 0 ps (map (moved (length bytes)) qs) (length bytes) (bytes ++ more) h
    ∙ (ap (λ (rs : List Record). rs ++ texts_from (length bytes) (map (moved (length bytes)) qs) (bytes ++ more)) (texts_front 0 ps (length bytes) bytes more h (omega arith))
    ∙ ap (λ (rs : List Record). texts_from 0 ps bytes ++ rs) back)

-- one behind them
key_is : (o : Option (List ℕ)) → (if is_some o then Some (bytes_in o) else None) ≡ o
key_is None = refl
key_is (Some x) = refl

text_behind : (before : ℕ) (key value : Option (List ℕ)) → text_of (behind before key value) (bytes_in key ++ bytes_in value) ≡ record_of key value None
text_behind before key value =
    let front : take (length (bytes_in key)) (bytes_in key ++ bytes_in value) ≡ bytes_in key = take_at (bytes_in key) (bytes_in value) (length (bytes_in key)) refl in
    let back : drop (length (bytes_in key)) (bytes_in key ++ bytes_in value) ≡ bytes_in value = drop_at (bytes_in key) (bytes_in value) (length (bytes_in key)) refl in
    rw (front, back, key_is key, key_is value) refl

pub one_reaches : (ps : List EndView) (bytes : List ℕ) (key value : Option (List ℕ)) (p : EndView) → Reaches 0 ps (length bytes) → p ≡ behind (length bytes) key value → Reaches 0 (ps ++ p ∷ []) (length (bytes ++ (bytes_in key ++ bytes_in value)))
one_reaches ps bytes key value p h is =
    let long : length (bytes ++ (bytes_in key ++ bytes_in value)) ≡ length bytes + (length (bytes_in key) + length (bytes_in value)) =
    length-append bytes (bytes_in key ++ bytes_in value) ∙ ap (λ (n : ℕ). length bytes + n) (length-append (bytes_in key) (bytes_in value)) in
    let last : Reaches (length bytes) (behind (length bytes) key value ∷ []) (length (bytes ++ (bytes_in key ++ bytes_in value))) = (omega arith, sym long) in
    reaches_append 0 ps (p ∷ []) (length bytes) (length (bytes ++ (bytes_in key ++ bytes_in value))) h
    (subst (λ (q : EndView). Reaches (length bytes) (q ∷ []) (length (bytes ++ (bytes_in key ++ bytes_in value)))) (sym is) last)

pub one_text : (ps : List EndView) (bytes : List ℕ) (key value : Option (List ℕ)) (p : EndView) → Reaches 0 ps (length bytes) → p ≡ behind (length bytes) key value
    → texts_from 0 (ps ++ p ∷ []) (bytes ++ (bytes_in key ++ bytes_in value)) ≡ texts_from 0 ps bytes ++ record_of key value None ∷ []
one_text ps bytes key value p h is =
    let both = bytes_in key ++ bytes_in value in
    let size : (length bytes + (length (bytes_in key) + length (bytes_in value))) - length bytes ≡ length both = omega (arith, length-append (bytes_in key) (bytes_in value)) in
    let range : slice_range (bytes ++ both) (length bytes) (behind (length bytes) key value).end ≡ both =
    ap (λ (n : ℕ). take n (drop (length bytes) (bytes ++ both))) size ∙ (ap (take (length both)) (drop_at bytes both (length bytes) refl) ∙ take_all (length both) both (omega arith)) in
    let last : texts_from (length bytes) (p ∷ []) (bytes ++ both) ≡ record_of key value None ∷ [] =
    ap (λ (q : EndView). texts_from (length bytes) (q ∷ []) (bytes ++ both)) is ∙ (ap (λ (xs : List ℕ). text_of (behind (length bytes) key value) xs ∷ []) range ∙ ap (λ (r : Record). r ∷ []) (text_behind (length bytes) key value)) in
    texts_append 0 ps (p ∷ []) (length bytes) (bytes ++ both) h
    ∙ (ap (λ (rs : List Record). rs ++ texts_from (length bytes) (p ∷ []) (bytes ++ both)) (texts_front 0 ps (length bytes) bytes both h (omega arith))
    ∙ ap (λ (rs : List Record). texts_from 0 ps bytes ++ rs) last)

-- each ends within the bytes of all
pub each_within : (by begin : ℕ) (ps : List EndView) (end bound : ℕ) → Reaches begin ps end → by + end < bound → All (λ (p : EndView). by + p.end < bound) ps
each_within by begin [] end bound h lt k d within = absurd (omega arith)
each_within by begin (p ∷ ps) end bound h lt zero d within = omega (arith, begins_within p.end ps end h.1, lt)
each_within by begin (p ∷ ps) end bound h lt (suc k) d within = each_within by p.end ps end bound h.1 lt k d (omega arith)

-- where the first so many end, by the last of them
pub end_at : (ps : List EndView) (count : ℕ) (p : EndView) → 0 < count → count ≤ length ps → p ≡ get_or ps (count - 1) p → end_of 0 ps count ≡ p.end
end_at ps zero p some le is = absurd (omega arith)
end_at ps (suc n) p some le is =
    let at : suc n - 1 ≡ n = omega arith in
    let read : p ≡ get_or ps n p = is ∙ ap (λ (i : ℕ). get_or ps i p) at in
    end_next 0 ps n p (slice_get_read ps (length ps) n p refl (omega (arith, le)) read)
