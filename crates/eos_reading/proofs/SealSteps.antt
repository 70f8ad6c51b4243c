-- The seals of batches: one batch more, one chunk more, and of the first batches.
use Rattle.std.proofs.Common.{◌≡◌, ℕ, ◌+◌, ◌<◌, ◌≤◌, ◌^◌, ℤ, List, [], ◌∷◌, ◌++◌, length, get_or, take, drop, Option, Some, None, refl, sym, ap, subst, ◌∙◌, append_assoc, arith}
use Rattle.std.proofs.lemmas.List.{append-nil, drop-drop, drop_at, drop_more, length-append, length-drop}
use Rattle.std.proofs.Math.ListN.{drop_of_length-le}
use Rattle.eos_batch.specs.declared.batch.Batch.{Batch}
use Rattle.eos_batch.specs.declared.head.BatchHead.{BatchHead}
use Rattle.eos_batch.specs.Heads.{head_of}
use Rattle.eos_batch.specs.Offsets.{offset_of}
use Rattle.eos_batch.specs.Text.{IsBatchText}
use Rattle.eos_batch.proofs.BatchTexts.{text_length}
use Rattle.eos_reading.specs.Epochs.{epoch_entries}
use Rattle.eos_reading.specs.Heads.{HasHeads}
use Rattle.eos_reading.specs.declared.seals.Seal.{Seal}
use Rattle.eos_reading.specs.Seals.{seal_from, AreSeals, AreSealed, entries_of}
use Rattle.eos_reading.proofs.SealTexts.{seal_of, seal_there}

-- ---- the first batch

pub record First (bytes : List ℕ) (h : BatchHead) (b : Batch) (text more : List ℕ) : Type 0 where
  pub here : bytes ≡ text ++ more
  pub size_is : h.size ≡ length text
  pub left : drop h.size bytes ≡ more

pub first : (bytes : List ℕ) (h : BatchHead) (b : Batch) (text more : List ℕ) → bytes ≡ text ++ more → h ≡ head_of b (length text) → First bytes h b text more
first bytes h b text more e is =
    let n : h.size ≡ length text = ap (λ (x : BatchHead). x.size) is in
    record { here = e; size_is = n; left = ap (drop h.size) e ∙ drop_at text more h.size (sym n) }

-- ---- one chunk more

pub seals_more : (fed : List ℕ) (bs : List Batch) (hs : List BatchHead) (rest more : List ℕ) (ss : List Seal) → HasHeads fed bs hs rest → AreSeals fed hs ss → AreSeals (fed ++ more) hs ss
seals_more fed [] [] rest more [] s a = tt
seals_more fed [] [] rest more (x ∷ ss) s a = absurd a
seals_more fed [] (h ∷ hs) rest more ss s a = absurd s
seals_more fed (b ∷ bs) [] rest more ss s a = absurd s
seals_more fed (b ∷ bs) (h ∷ hs) rest more [] s a = absurd a
seals_more fed (b ∷ bs) (h ∷ hs) rest more (x ∷ ss) s a =
    let f = first fed h b s.0 s.1 s.3 s.4 in
    let e : fed ++ more ≡ s.0 ++ (s.1 ++ more) = ap (λ (xs : List ℕ). xs ++ more) s.3 ∙ append_assoc s.0 s.1 more in
    let g = first (fed ++ more) h b s.0 (s.1 ++ more) e s.4 in
    let same : seal_from h.offset (fed ++ more) ≡ seal_from h.offset fed =
    ap (seal_from h.offset) e ∙ (seal_there h.offset s.0 b s.2 (s.1 ++ more) ∙ (sym (seal_there h.offset s.0 b s.2 s.1) ∙ ap (seal_from h.offset) (sym s.3))) in
    let others : AreSeals s.1 hs ss = subst (λ (xs : List ℕ). AreSeals xs hs ss) f.left a.1 in
    (same ∙ a.0, subst (λ (xs : List ℕ). AreSeals xs hs ss) (sym g.left) (seals_more s.1 bs hs rest more ss s.5 others))

pub seals_join : (fed : List ℕ) (bs : List Batch) (hs gs : List BatchHead) (rest : List ℕ) (ss ts : List Seal) → HasHeads fed bs hs rest → AreSeals fed hs ss → AreSeals rest gs ts → AreSeals fed (hs ++ gs) (ss ++ ts)
seals_join fed [] [] gs rest [] ts s a t = subst (λ (xs : List ℕ). AreSeals xs gs ts) (sym s) t
seals_join fed [] [] gs rest (x ∷ ss) ts s a t = absurd a
seals_join fed [] (h ∷ hs) gs rest ss ts s a t = absurd s
seals_join fed (b ∷ bs) [] gs rest ss ts s a t = absurd s
seals_join fed (b ∷ bs) (h ∷ hs) gs rest [] ts s a t = absurd a
seals_join fed (b ∷ bs) (h ∷ hs) gs rest (x ∷ ss) ts s a t =
    let f = first fed h b s.0 s.1 s.3 s.4 in
    let others : AreSeals s.1 hs ss = subst (λ (xs : List ℕ). AreSeals xs hs ss) f.left a.1 in
    (a.0, subst (λ (xs : List ℕ). AreSeals xs (hs ++ gs) (ss ++ ts)) (sym f.left) (seals_join s.1 bs hs gs rest ss ts s.5 others t))

pub no_seals : (hs : List BatchHead) (ss : List Seal) → hs ≡ [] → ss ≡ [] → AreSeals [] hs ss
no_seals hs ss none none' = rw (none, none') tt

-- ---- one batch more

pub record Read (bytes : List ℕ) (heads : List BatchHead) (seals seals' : List Seal) (i at : ℕ) : Type 0 where
  pub more : List Seal
  pub pushed : seals' ≡ seals ++ more
  pub before : (others : List Seal) → AreSeals (drop at bytes) (drop i heads) others → AreSeals bytes heads (more ++ others)
  pub batches : List Batch
  pub rest : List ℕ
  pub left : HasHeads (drop at bytes) batches (drop i heads) rest
  pub within : at ≤ length bytes

pub read_none : (bytes : List ℕ) (heads : List BatchHead) (seals : List Seal) → ((batches : List Batch) × (rest : List ℕ) × HasHeads bytes batches heads rest) → Read bytes heads seals seals 0 0
read_none bytes heads seals h = record { more = []; pushed = sym (append-nil seals); before = λ others a. a; batches = h.0; rest = h.1; left = h.2; within = omega arith }

-- the batch at this place
record Here (bytes : List ℕ) (heads : List BatchHead) (i at : ℕ) (h : BatchHead) : Type 0 where
  pub b : Batch
  pub bs : List Batch
  pub text : List ℕ
  pub more : List ℕ
  pub rest : List ℕ
  pub holds : IsBatchText text b
  pub parts : drop at bytes ≡ text ++ more
  pub is : h ≡ head_of b (length text)
  pub others : HasHeads more bs (drop (i + 1) heads) rest

here : (bytes : List ℕ) (heads : List BatchHead) (i at : ℕ) (d : BatchHead) (bs : List Batch) (rest : List ℕ) → i < length heads → HasHeads (drop at bytes) bs (drop i heads) rest → Here bytes heads i at (get_or heads i d)
here bytes heads i at d bs rest lt s = by bs (subst (λ (hs : List BatchHead). HasHeads (drop at bytes) bs hs rest) (drop_more heads i d lt) s)
  where
    by : (bs : List Batch) → HasHeads (drop at bytes) bs (get_or heads i d ∷ drop (i + 1) heads) rest → Here bytes heads i at (get_or heads i d)
    by [] s = absurd s
    by (b ∷ bs) s = record { b = b; bs = bs; text = s.0; more = s.1; rest = rest; holds = s.2; parts = s.3; is = s.4; others = s.5 }

long_enough : (bytes : List ℕ) (at : ℕ) (text more : List ℕ) (b : Batch) → IsBatchText text b → drop at bytes ≡ text ++ more → at ≤ length bytes → at + length text ≤ length bytes
long_enough bytes at text more b t e le = omega (arith, ap length e, length-append text more, length-drop at bytes, le)

-- a batch stands there, whichever head it has
record Stands (bytes : List ℕ) (at : ℕ) : Type 0 where
  pub b : Batch
  pub text : List ℕ
  pub more : List ℕ
  pub holds : IsBatchText text b
  pub parts : drop at bytes ≡ text ++ more

some : (bytes : List ℕ) (at : ℕ) (bs : List Batch) (hs : List BatchHead) (rest : List ℕ) → 1 ≤ length hs → HasHeads (drop at bytes) bs hs rest → Stands bytes at
some bytes at bs [] rest le s = absurd (omega (arith, le))
some bytes at [] (h ∷ hs) rest le s = absurd s
some bytes at (b ∷ bs) (h ∷ hs) rest le s = record { b = b; text = s.0; more = s.1; holds = s.2; parts = s.3 }

at_least : (bytes : List ℕ) (heads : List BatchHead) (seals seals' : List Seal) (i at : ℕ) → i < length heads → Read bytes heads seals seals' i at → Stands bytes at
at_least bytes heads seals seals' i at lt r = some bytes at r.batches (drop i heads) r.rest (omega (arith, lt, length-drop i heads)) r.left

pub read_inside : (bytes : List ℕ) (heads : List BatchHead) (seals seals' : List Seal) (i at : ℕ) → i < length heads → Read bytes heads seals seals' i at → at + 17 ≤ length bytes
read_inside bytes heads seals seals' i at lt r =
    let x = at_least bytes heads seals seals' i at lt r in
    omega (arith, long_enough bytes at x.text x.more x.b x.holds x.parts r.within, text_length x.text x.b x.holds)

pub read_sized : (bytes : List ℕ) (heads : List BatchHead) (seals seals' : List Seal) (i at : ℕ) (d : BatchHead) → i < length heads → Read bytes heads seals seals' i at → at + (get_or heads i d).size ≤ length bytes
read_sized bytes heads seals seals' i at d lt r =
    let x = here bytes heads i at d r.batches r.rest lt r.left in
    let n : (get_or heads i d).size ≡ length x.text = ap (λ (h : BatchHead). h.size) x.is in
    omega (arith, long_enough bytes at x.text x.more x.b x.holds x.parts r.within, n)

pub next_fits : (bytes : List ℕ) (heads : List BatchHead) (seals seals' : List Seal) (i at : ℕ) (d : BatchHead) → i < length heads → Read bytes heads seals seals' i at → length bytes < 2 ^ 63
    → at + (get_or heads i d).size < 2 ^ 64
next_fits bytes heads seals seals' i at d lt r small = omega (arith, read_sized bytes heads seals seals' i at d lt r, small)

-- a seal is there
pub read_some : (bytes : List ℕ) (heads : List BatchHead) (seals seals' : List Seal) (i at offset : ℕ) → i < length heads → Read bytes heads seals seals' i at → None ≡ seal_from offset (drop at bytes) → ⊥
read_some bytes heads seals seals' i at offset lt r none =
    let x = at_least bytes heads seals seals' i at lt r in
    let there : seal_from offset (drop at bytes) ≡ Some (seal_of offset x.b x.holds.covered) = ap (seal_from offset) x.parts ∙ seal_there offset x.text x.b x.holds x.more in
    let q : None ≡ Some (seal_of offset x.b x.holds.covered) = none ∙ there in
    cc

pub read_on : (bytes : List ℕ) (heads : List BatchHead) (seals seals' seals'' : List Seal) (i at : ℕ) (d : BatchHead) (s : Seal) → i < length heads → Read bytes heads seals seals' i at
    → seal_from (get_or heads i d).offset (drop at bytes) ≡ Some s → seals'' ≡ seals' ++ s ∷ [] → Read bytes heads seals seals'' (i + 1) (at + (get_or heads i d).size)
read_on bytes heads seals seals' seals'' i at d s lt r one pushed =
    let h : BatchHead = get_or heads i d in
    let x = here bytes heads i at d r.batches r.rest lt r.left in
    let f = first (drop at bytes) h x.b x.text x.more x.parts x.is in
    let left : x.more ≡ drop (at + h.size) bytes = sym f.left ∙ drop-drop h.size at bytes in
    let next : drop i heads ≡ h ∷ drop (i + 1) heads = drop_more heads i d lt in
    record {
      more = r.more ++ s ∷ [];
      pushed = pushed ∙ (ap (λ (xs : List Seal). xs ++ s ∷ []) r.pushed ∙ append_assoc seals r.more (s ∷ []));
      before = λ others a.
          let there : AreSeals (drop h.size (drop at bytes)) (drop (i + 1) heads) others = subst (λ (xs : List ℕ). AreSeals xs (drop (i + 1) heads) others) (sym (drop-drop h.size at bytes)) a in
          let both : AreSeals (drop at bytes) (drop i heads) (s ∷ others) = subst (λ (hs : List BatchHead). AreSeals (drop at bytes) hs (s ∷ others)) (sym next) (one, there) in
          subst (λ (xs : List Seal). AreSeals bytes heads xs) (sym (append_assoc r.more (s ∷ []) others)) (r.before (s ∷ others) both);
      batches = x.bs;
      rest = x.rest;
      left = subst (λ (xs : List ℕ). HasHeads xs x.bs (drop (i + 1) heads) x.rest) left x.others;
      within = read_sized bytes heads seals seals' i at d lt r;
    }

pub read_all : (bytes : List ℕ) (heads : List BatchHead) (seals seals' : List Seal) (i at : ℕ) → length heads ≤ i → Read bytes heads seals seals' i at → AreSealed bytes heads seals seals'
read_all bytes heads seals seals' i at le r =
    let none : drop i heads ≡ [] = drop_of_length-le heads le in
    let end : AreSeals (drop at bytes) (drop i heads) [] = subst (λ (hs : List BatchHead). AreSeals (drop at bytes) hs []) (sym none) tt in
    (r.more, r.pushed, subst (λ (xs : List Seal). AreSeals bytes heads xs) (append-nil r.more) (r.before [] end))

-- ---- of the first batches

pub seals_taken : (bytes : List ℕ) (hs gs : List BatchHead) (ss : List Seal) (n : ℕ) → n ≡ length hs → AreSeals bytes (hs ++ gs) ss → AreSeals bytes hs (take n ss)
seals_taken bytes [] gs ss n is a = rw is tt
seals_taken bytes (h ∷ hs) gs [] n is a = absurd a
seals_taken bytes (h ∷ hs) gs (s ∷ ss) n is a = rw is (a.0, seals_taken (drop h.size bytes) hs gs ss (length hs) refl a.1)

pub entries_are : (bytes : List ℕ) (bs : List Batch) (hs : List BatchHead) (rest : List ℕ) (ss : List Seal) (last : Option ℤ) → HasHeads bytes bs hs rest → AreSeals bytes hs ss → entries_of last ss ≡ epoch_entries last bs
entries_are bytes [] [] rest [] last s a = refl
entries_are bytes [] [] rest (x ∷ ss) last s a = absurd a
entries_are bytes [] (h ∷ hs) rest ss last s a = absurd s
entries_are bytes (b ∷ bs) [] rest ss last s a = absurd s
entries_are bytes (b ∷ bs) (h ∷ hs) rest [] last s a = absurd a
entries_are bytes (b ∷ bs) (h ∷ hs) rest (x ∷ ss) last s a =
    let f = first bytes h b s.0 s.1 s.3 s.4 in
    let made = seal_of h.offset b s.2.covered in
    let found : Some made ≡ Some x = sym (seal_there h.offset s.0 b s.2 s.1) ∙ (ap (seal_from h.offset) (sym s.3) ∙ a.0) in
    let same : made ≡ x = cc in
    let offset : h.offset ≡ offset_of b = ap (λ (y : BatchHead). y.offset) s.4 in
    let others : AreSeals s.1 hs ss = subst (λ (xs : List ℕ). AreSeals xs hs ss) f.left a.1 in
    let more : entries_of (Some b.leader_epoch) ss ≡ epoch_entries (Some b.leader_epoch) bs = entries_are s.1 bs hs rest ss (Some b.leader_epoch) s.5 others in
    rw (← same, offset, more) refl
