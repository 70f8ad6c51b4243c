-- The bytes of a batch that is written.
use Rattle.std.proofs.Common.{◌≡◌, ℕ, pos, ◌+◌, ◌-◌, ◌^◌, zero, suc, false, map, List, [], ◌∷◌, ◌++◌, Result, Ok, Err, inl, inr, ap, sym, subst, refl, ◌∙◌, append_assoc, arith, take, drop, length, slice_index_or, ◌<◌}
use Rattle.std.specs.List.{All}
use Rattle.std.proofs.lemmas.List.Elements.{All-cons, All-head, All-tail, All-take}
use Rattle.std.proofs.lemmas.List.{drop_more, length-drop}
use Rattle.std.proofs.lemmas.Bool.{cases_lt}
use Rattle.eos_base.specs.Fallible.{◌>>=◌}
use Rattle.eos_batch.specs.declared.batch.Batch.{Batch}
use Rattle.eos_batch.specs.declared.fault.BatchFault.{BatchFault}
use Rattle.eos_batch.specs.Answers.{IsWritten}
use Rattle.eos_batch.specs.Text.{IsBatchText}
use Rattle.eos_batch.specs.Encoding.{tested, encoding_of, batch_text_of}
use Rattle.eos_wire.specs.Writing.{IsShortest}
use Rattle.eos_machine.specs.declared.config.Config.{Config}
use Rattle.eos_machine.specs.declared.item.Item.{Item}
use Rattle.eos_machine.specs.LogIndexes.{IsConfig}
use Rattle.eos_machine.specs.Fitting.{IsFit}
use Rattle.eos_machine.specs.Grouping.{goes_on, joining}
use Rattle.eos_machine.specs.steps.Joined.{AreJoined}
use Rattle.eos_machine.proofs.Grouping.{are_joined, joining_few, joining_within}
use Rattle.eos_machine.proofs.SegmentsFit.{all_drop, take_few}
use Rattle.eos_machine.specs.declared.state.Election.{Election}
use Rattle.eos_machine.specs.Elections.{leader_epoch}
use Rattle.eos_machine.specs.Batches.{batch_of, behind, batches_after, batches_from, led, texts_of, AreTexts}
use Rattle.eos_machine.proofs.BatchTests.{batch_tested}
use Rattle.eos_batch.proofs.EncodingTests.{length-batch_text_of}
use Rattle.eos_log_writer.specs.declared.leaders.Base.{Base}
use Rattle.eos_log_writer.specs.steps.Writers.{based}

or_none : Result (List ℕ) BatchFault → List ℕ
or_none (Ok t) = t
or_none (Err f) = []

pub written_text : (b : Batch) (t : List ℕ) → IsWritten (encoding_of b) (Ok t) → t ≡ batch_text_of b
unfolding encoding_of or_none
written_text b t h = at (tested b) h
  where
    at : (r : Result (Unit {0}) BatchFault) → IsWritten (r >>= λ right. Ok (batch_text_of b)) (Ok t) → t ≡ batch_text_of b
    at (Ok u) (inl e) = ap or_none e
    at (Ok u) (inr e) = absurd cc
    at (Err f) e = absurd cc

-- ---- what is written reads back

pub is_written : (b d : Batch) (t : List ℕ) → b ≡ d → t ≡ batch_text_of b → IsShortest IsBatchText t b → IsBatchText (batch_text_of d) d
is_written b d t e f s = subst (λ k. IsBatchText (batch_text_of k) k) e (subst (λ u. IsBatchText u b) f s.0)

pub based_tested : (c : Config) (b : Base) (x : Item) (ys : List Item) → IsConfig c → b.offset + length ys < 2 ^ 63 → length ys < 1000 → AreJoined x ys → All (IsFit c) (x ∷ ys) → tested (based c b x ys) ≡ Ok tt
unfolding tested
based_tested c b x ys i l m j f =
    let same : length (batch_text_of (based c b x ys)) ≡ length (batch_text_of (batch_of c b.offset x ys)) = length-batch_text_of (based c b x ys) ∙ sym (length-batch_text_of (batch_of c b.offset x ys)) in
    rw same (batch_tested c b.offset x ys i l m j f)

-- ---- batch by batch

-- behind a batch the items that don't stand in it are left
skipped : (c : Config) (n o : ℕ) (xs : List Item) → batches_after c n o xs ≡ batches_from c (o + n) (drop n xs)
skipped c zero o xs = let e : o ≡ o + 0 = omega arith in ap (λ k. batches_from c k xs) e
skipped c (suc n) o [] = refl
skipped c (suc n) o (x ∷ xs) = let e : o + 1 + n ≡ o + suc n = omega arith in skipped c n (o + 1) xs ∙ ap (λ k. batches_from c k (drop n xs)) e

pub batch_first : (c : Config) (o p n : ℕ) (x : Item) (xs : List Item) → n ≡ behind c x xs → p ≡ o + 1 + n → batches_from c o (x ∷ xs) ≡ batch_of c o x (take n xs) ∷ batches_from c p (drop n xs)
batch_first c o p n x xs e f =
    let k : batches_after c n (o + 1) xs ≡ batches_from c p (drop n xs) = skipped c n (o + 1) xs ∙ ap (λ q. batches_from c q (drop n xs)) (sym f) in
    subst (λ m. batch_of c o x (take m xs) ∷ batches_after c m (o + 1) xs ≡ batch_of c o x (take n xs) ∷ batches_from c p (drop n xs)) e (ap (λ bs. batch_of c o x (take n xs) ∷ bs) k)

pub text_more : (c : Config) (g : Batch → Batch) (o p n : ℕ) (x : Item) (xs : List Item) (all out new t : List ℕ) → n ≡ behind c x xs → p ≡ o + 1 + n → all ≡ out ++ texts_of (map g (batches_from c o (x ∷ xs))) → t ≡ batch_text_of (g (batch_of c o x (take n xs))) → new ≡ out ++ t
    → all ≡ new ++ texts_of (map g (batches_from c p (drop n xs)))
text_more c g o p n x xs all out new t e f h is next =
    let more : List ℕ = texts_of (map g (batches_from c p (drop n xs))) in
    h ∙ (ap (λ bs. out ++ texts_of (map g bs)) (batch_first c o p n x xs e f) ∙ (ap (λ u. out ++ (u ++ more)) (sym is) ∙ (sym (append_assoc out t more) ∙ ap (λ u. u ++ more) (sym next))))

pub one_written : (c : Config) (g : Batch → Batch) (o p n : ℕ) (x : Item) (xs : List Item) → n ≡ behind c x xs → p ≡ o + 1 + n → IsBatchText (batch_text_of (g (batch_of c o x (take n xs)))) (g (batch_of c o x (take n xs))) → AreTexts (map g (batches_from c p (drop n xs))) → AreTexts (map g (batches_from c o (x ∷ xs)))
one_written c g o p n x xs e f h k = subst (λ bs. AreTexts (map g bs)) (sym (batch_first c o p n x xs e f)) (h, k)

-- what is written of items, and what is left of them; g gives each batch its leader epoch
abbrev pub IsLeft : Config → (Batch → Batch) → ℕ → List Item → List ℕ → ℕ → List Item → Type 0
IsLeft c g o items out base rest =
    (texts_of (map g (batches_from c o items)) ≡ out ++ texts_of (map g (batches_from c base rest))) × (AreTexts (map g (batches_from c base rest)) → AreTexts (map g (batches_from c o items)))
    × (base + length rest ≡ o + length items) × All (IsFit c) rest

-- an item, those that stand behind it, and the others
pub record IsCut (c : Config) (rest : List Item) (x : Item) (n : ℕ) (standing others : List Item) : Type 0 where
  pub more : List Item
  pub is : rest ≡ x ∷ more
  pub count : n ≡ behind c x more
  pub front : standing ≡ take n more
  pub back : others ≡ drop n more

pub cut_few : (c : Config) (rest : List Item) (x : Item) (n : ℕ) (standing others : List Item) → IsConfig c → IsCut c rest x n standing others → length standing < 1000
cut_few c rest x n standing others i h =
    let t = take_few n h.more in let j = joining_few (c.batch_records - 1) x h.more in let e = ap length h.front in
    omega (arith, t, j, e, h.count, i.batch_records.0, i.batch_records.1)

pub cut_joined : (c : Config) (rest : List Item) (x : Item) (n : ℕ) (standing others : List Item) → IsCut c rest x n standing others → AreJoined x standing
cut_joined c rest x n standing others h =
    subst (AreJoined x) (sym h.front) (subst (λ k. AreJoined x (take k h.more)) (sym h.count) (are_joined (c.batch_records - 1) x h.more))

pub cut_fits : (c : Config) (rest : List Item) (x : Item) (n : ℕ) (standing others : List Item) → IsCut c rest x n standing others → All (IsFit c) rest → All (IsFit c) (x ∷ standing)
cut_fits c rest x n standing others h a =
    let b = subst (All (IsFit c)) h.is a in
    All-cons (IsFit c) x standing (All-head (IsFit c) x h.more b) (subst (All (IsFit c)) (sym h.front) (All-take (IsFit c) n h.more (All-tail (IsFit c) x h.more b)))

pub one_left : (c : Config) (p : ℕ) (es : List Election) (o base n : ℕ) (b : Base) (x : Item) (rest standing others items : List Item) (out new t : List ℕ) → IsCut c rest x n standing others → IsLeft c (led p es) o items out base rest
    → b ≡ record { offset = base; leader_epoch = leader_epoch p (pos base) es }
    → t ≡ batch_text_of (based c b x standing) → IsBatchText (batch_text_of (based c b x standing)) (based c b x standing) → new ≡ out ++ t → IsLeft c (led p es) o items new (base + (1 + n)) others
one_left c q es o base n b x rest standing others items out new t h left at is0 written0 next =
    let g : Batch → Batch = led q es in
    let is : t ≡ batch_text_of (g (batch_of c base x standing)) = is0 ∙ ap (λ (k : Base). batch_text_of (based c k x standing)) at in
    let written = subst (λ (k : Base). IsBatchText (batch_text_of (based c k x standing)) (based c k x standing)) at written0 in
    let more : List Item = h.more in
    let p : base + (1 + n) ≡ base + 1 + n = omega arith in
    let f = subst (All (IsFit c)) h.is left.3 in
    let w = joining_within (c.batch_records - 1) x more in
    let d = length-drop n more in
    let l = ap length h.is in
    subst (IsLeft c g o items new (base + (1 + n))) (sym h.back) (
      text_more c g base (base + (1 + n)) n x more (texts_of (map g (batches_from c o items))) out new t h.count p (left.0 ∙ ap (λ xs. out ++ texts_of (map g (batches_from c base xs))) h.is) (is ∙ ap (λ ys. batch_text_of (g (batch_of c base x ys))) h.front) next,
      λ k. left.1 (subst (λ xs. AreTexts (map g (batches_from c base xs))) (sym h.is) (one_written c g base (base + (1 + n)) n x more h.count p (subst (λ ys. IsBatchText (batch_text_of (g (batch_of c base x ys))) (g (batch_of c base x ys))) h.front written) k)),
      omega (arith, left.2, h.count, w, d, l),
      all_drop (IsFit c) n more (All-tail (IsFit c) x more f),
    )

-- ---- record by record

-- ---- item by item

pub within_all : {X : Type 0} (P : X → Type 0) (xs : List X) (n : ℕ) (d : X) → n < length xs → All P xs → P (slice_index_or xs n d)
within_all P [] n d l h = absurd (omega (arith, l))
within_all P (x ∷ xs) zero d l h = All-head P x xs h
within_all P (x ∷ xs) (suc n) d l h = within_all P xs n d (omega (arith, l)) (All-tail P x xs h)

-- where there is no room, or it doesn't go on, none does
pub no_room : (k i : ℕ) (l : Item) (xs : List Item) → i ≡ k → i + joining (k - i) l xs ≡ i
no_room k i l xs e = let z : k - i ≡ 0 = omega (arith, e) in ap (λ n. i + joining n l xs) z ∙ (let y = none l xs in omega (arith, y))
  where
    none : (l : Item) (xs : List Item) → joining 0 l xs ≡ 0
    none l [] = refl
    none l (x ∷ xs) = refl

pub none_joins : (k i : ℕ) (l y : Item) (xs : List Item) → i < length xs → y ≡ slice_index_or xs i y → goes_on l y ≡ false → i + joining (k - i) l (drop i xs) ≡ i
none_joins k i l y xs m is e =
    let d : drop i xs ≡ y ∷ drop (i + 1) xs = subst (λ z. drop i xs ≡ z ∷ drop (i + 1) xs) (sym is) (drop_more xs i y m) in
    ap (λ ys. i + joining (k - i) l ys) d ∙ (let z = stops (k - i) l y (drop (i + 1) xs) e in omega (arith, z))
  where
    stops : (n : ℕ) (l y : Item) (ys : List Item) → goes_on l y ≡ false → joining n l (y ∷ ys) ≡ 0
    stops zero l y ys e = refl
    stops (suc n) l y ys e = rw e refl

-- ---- segment by segment

pub one_further : (P : ℕ → Type 0) (i : ℕ) → ((k : ℕ) → k < i → P k) → P i → (k : ℕ) → k < i + 1 → P k
one_further P i h p k l = elim (cases_lt k i) [
  | inl b ↦ h k b
  | inr b ↦ let e : k ≡ i = omega (arith, b, l) in subst P (sym e) p
]
