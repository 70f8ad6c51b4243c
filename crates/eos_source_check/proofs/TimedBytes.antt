-- The times of a segment's records, while the segment is read for them, chunk by chunk.
use Rattle.std.proofs.Common.{◌≡◌, ◌≢◌, ◌<◌, ◌≤◌, ℕ, ℤ, ◌+◌, ◌-◌, List, [], ◌∷◌, ◌++◌, length, map, drop, get_or, flat_map, nat_lt, Option, None, Bool, true, false, if◌then◌else◌, Result, Ok, Err, refl, sym, ap, subst, ◌∙◌, arith, inr, append_assoc, drop-drop}
use Rattle.std.proofs.lemmas.List.{append-nil, length-append, length-drop, drop_all, drop_at, drop_more, drop-append-le}
use Rattle.std.proofs.lemmas.Bool.{lt-ltb, le-ltb, ltb-true, ltb-false}
use Rattle.std.proofs.lemmas.Grind.{flat_map-append}
use Rattle.eos_batch.specs.declared.batch.Batch.{Batch}
use Rattle.eos_batch.specs.declared.fault.BatchFault.{BatchFault}
use Rattle.eos_batch.specs.declared.fault.BatchFault.TheVariants as faults
use Rattle.eos_batch.specs.declared.head.BatchHead.{BatchHead}
use Rattle.eos_batch.specs.Heads.{head_of}
use Rattle.eos_batch.specs.Offsets.{offset_of}
use Rattle.eos_batch.specs.Reading.{batch_at}
use Rattle.eos_touch.proofs.BatchReading.{reads_first}
use Rattle.eos_fold.proofs.MoreBytes.{batch_more, batch_none}
use Rattle.eos_reading.specs.Heads.{HasHeads}
use Rattle.eos_sought.specs.declared.wanted.Standing.{Standing}
use Rattle.eos_sought.specs.declared.wanted.Wanted.TheVariants.{Holding}
use Rattle.eos_sought.specs.Places.{IsReadAt, IsRun, IsEnd, byte_after, offset_after}
use Rattle.eos_sought.specs.Times.{time_read, time_in_bytes}
use Rattle.eos_sought.specs.Wanted.{is_wanted}
use Rattle.eos_source_check.specs.Timed.{timed, timed_by, all_timed_by}
use Rattle.eos_source_check.specs.declared.timing.Timing.{Timing}
use Rattle.eos_source_check.specs.steps.Timing.{AskedView, EndsSo, IsTimedOn, WaitsSo, IsTiming, IsTimedBy}

same_value : (x y : Batch × ℕ) → Path (Result (Batch × ℕ) BatchFault) (Ok x) (Ok y) → x ≡ y
same_value x y e = cc

no_value : (x : Batch × ℕ) (fault : BatchFault) → Path (Result (Batch × ℕ) BatchFault) (Ok x) (Err fault) → ⊥
no_value x fault e = cc

same_fault : (x y : BatchFault) → Path (Result (Batch × ℕ) BatchFault) (Err x) (Err y) → x ≡ y
same_fault x y e = cc

-- ---- runs, one behind the other

pub byte_join : (at : ℕ) (xs ys : List Standing) → byte_after at (xs ++ ys) ≡ byte_after (byte_after at xs) ys
byte_join at [] ys = refl
byte_join at (x ∷ xs) ys = byte_join (at + x.head.size) xs ys

pub offset_join : (next : ℕ) (xs ys : List Standing) → offset_after next (xs ++ ys) ≡ offset_after (offset_after next xs) ys
offset_join next [] ys = refl
offset_join next (x ∷ xs) ys = offset_join (next + x.head.count) xs ys

pub run_join : (bytes : List ℕ) (at next : ℕ) (xs ys : List Standing) → IsRun bytes at next xs → IsRun bytes (byte_after at xs) (offset_after next xs) ys → IsRun bytes at next (xs ++ ys)
run_join bytes at next [] ys run more = more
run_join bytes at next (x ∷ xs) ys run more = (run.0, run.1, run.2, run_join bytes (at + x.head.size) (next + x.head.count) xs ys run.3 more)

-- ---- the same batches behind other bytes

abbrev behind : ℕ → Standing → Standing
behind n s = record { byte = n + s.byte; head = s.head }

byte_behind : (n at : ℕ) (xs : List Standing) → byte_after (n + at) (map (behind n) xs) ≡ n + byte_after at xs
byte_behind n at [] = refl
byte_behind n at (x ∷ xs) =
    let e : (n + at) + x.head.size ≡ n + (at + x.head.size) = omega arith in
    ap (λ (m : ℕ). byte_after m (map (behind n) xs)) e ∙ byte_behind n (at + x.head.size) xs

offset_behind : (n next : ℕ) (xs : List Standing) → offset_after next (map (behind n) xs) ≡ offset_after next xs
offset_behind n next [] = refl
offset_behind n next (x ∷ xs) = offset_behind n (next + x.head.count) xs

module _ (fed buffer : List ℕ) (n : ℕ) (left : drop n fed ≡ buffer) where
  there : (byte : ℕ) → drop (n + byte) fed ≡ drop byte buffer
  there byte = sym (drop-drop byte n fed) ∙ ap (drop byte) left

  inside : (byte : ℕ) → nat_lt (n + byte) (length fed) ≡ nat_lt byte (length buffer)
  inside byte = go (nat_lt byte (length buffer)) refl
    where
      size : length buffer ≡ length fed - n
      size = sym (ap length left) ∙ length-drop n fed

      go : (b : Bool) → nat_lt byte (length buffer) ≡ b → nat_lt (n + byte) (length fed) ≡ nat_lt byte (length buffer)
      go true e = let lt = ltb-true byte (length buffer) e in lt-ltb (n + byte) (length fed) (omega (arith, size, lt)) ∙ sym e
      go false e = let le = ltb-false byte (length buffer) e in le-ltb (n + byte) (length fed) (omega (arith, size, le)) ∙ sym e

  read_behind : (s : Standing) → IsReadAt buffer s → IsReadAt fed (behind n s)
  read_behind s r = record { batch = r.batch; reads = ap batch_at (there s.byte) ∙ r.reads; head = r.head }

  run_behind : (at next : ℕ) (xs : List Standing) → IsRun buffer at next xs → IsRun fed (n + at) next (map (behind n) xs)
  run_behind at next [] run = tt
  run_behind at next (x ∷ xs) run =
      let e : (n + at) + x.head.size ≡ n + (at + x.head.size) = omega arith in
      (ap (λ (m : ℕ). n + m) run.0, run.1, read_behind x run.2, subst (λ (m : ℕ). IsRun fed m (next + x.head.count) (map (behind n) xs)) (sym e) (run_behind (at + x.head.size) (next + x.head.count) xs run.3))

  time_behind : (byte i : ℕ) → time_in_bytes fed (n + byte) i ≡ time_in_bytes buffer byte i
  time_behind byte i =
      ap (λ (b : Bool). if b then time_read i (batch_at (drop (n + byte) fed)) else None) (inside byte)
      ∙ ap (λ (xs : List ℕ). if nat_lt byte (length buffer) then time_read i (batch_at xs) else None) (there byte)

  batch_behind : (s : Standing) (offsets : List ℕ) → all_timed_by fed offsets (behind n s) ≡ all_timed_by buffer offsets s
  batch_behind s [] = refl
  batch_behind s (o ∷ os) =
      let one : timed_by fed (behind n s) o ≡ timed_by buffer s o = ap (λ (t : Option ℤ). if is_wanted (Holding o) s.head then timed o t else []) (time_behind s.byte (o - s.head.offset)) in
      ap (λ (ts : List (ℕ × ℤ)). ts ++ all_timed_by fed os (behind n s)) one ∙ ap (λ (ts : List (ℕ × ℤ)). timed_by buffer s o ++ ts) (batch_behind s os)

  times_behind : (offsets : List ℕ) (xs : List Standing) → flat_map (all_timed_by fed offsets) (map (behind n) xs) ≡ flat_map (all_timed_by buffer offsets) xs
  times_behind offsets [] = refl
  times_behind offsets (x ∷ xs) =
      ap (λ (ts : List (ℕ × ℤ)). ts ++ flat_map (all_timed_by fed offsets) (map (behind n) xs)) (batch_behind x offsets) ∙ ap (λ (ts : List (ℕ × ℤ)). all_timed_by buffer offsets x ++ ts) (times_behind offsets xs)

-- ---- further bytes

module _ (fed more : List ℕ) where
  read_inside : (s : Standing) → IsReadAt fed s → s.byte < length fed
  read_inside s r = go (nat_lt s.byte (length fed)) refl
    where
      go : (b : Bool) → nat_lt s.byte (length fed) ≡ b → s.byte < length fed
      go true e = ltb-true s.byte (length fed) e
      go false e = absurd (no_value (r.batch, s.head.size) faults.Truncated (sym r.reads ∙ (ap batch_at (drop_all s.byte fed (ltb-false s.byte (length fed) e)) ∙ batch_none)))

  same_read : (s : Standing) → IsReadAt fed s → batch_at (drop s.byte (fed ++ more)) ≡ batch_at (drop s.byte fed)
  same_read s r =
      let lt = read_inside s r in
      ap batch_at (drop-append-le s.byte fed more (omega (arith, lt))) ∙ batch_more (drop s.byte fed) more (λ e. no_value (r.batch, s.head.size) faults.Truncated (sym r.reads ∙ e))

  run_more : (at next : ℕ) (xs : List Standing) → IsRun fed at next xs → IsRun (fed ++ more) at next xs
  run_more at next [] run = tt
  run_more at next (x ∷ xs) run = (
    run.0,
    run.1,
    record { batch = run.2.batch; reads = same_read x run.2 ∙ run.2.reads; head = run.2.head },
    run_more (at + x.head.size) (next + x.head.count) xs run.3,
  )

  time_more : (s : Standing) → IsReadAt fed s → (i : ℕ) → time_in_bytes (fed ++ more) s.byte i ≡ time_in_bytes fed s.byte i
  time_more s r i =
      let lt = read_inside s r in
      let both : nat_lt s.byte (length (fed ++ more)) ≡ nat_lt s.byte (length fed) = lt-ltb s.byte (length (fed ++ more)) (omega (arith, lt, length-append fed more)) ∙ sym (lt-ltb s.byte (length fed) lt) in
      ap (λ (b : Bool). if b then time_read i (batch_at (drop s.byte (fed ++ more))) else None) both
      ∙ ap (λ (read : Result (Batch × ℕ) BatchFault). if nat_lt s.byte (length fed) then time_read i read else None) (same_read s r)

  batch_on : (s : Standing) → IsReadAt fed s → (offsets : List ℕ) → all_timed_by (fed ++ more) offsets s ≡ all_timed_by fed offsets s
  batch_on s r [] = refl
  batch_on s r (o ∷ os) =
      let one : timed_by (fed ++ more) s o ≡ timed_by fed s o = ap (λ (t : Option ℤ). if is_wanted (Holding o) s.head then timed o t else []) (time_more s r (o - s.head.offset)) in
      ap (λ (ts : List (ℕ × ℤ)). ts ++ all_timed_by (fed ++ more) os s) one ∙ ap (λ (ts : List (ℕ × ℤ)). timed_by fed s o ++ ts) (batch_on s r os)

  times_more : (offsets : List ℕ) (at next : ℕ) (xs : List Standing) → IsRun fed at next xs → flat_map (all_timed_by (fed ++ more) offsets) xs ≡ flat_map (all_timed_by fed offsets) xs
  times_more offsets at next [] run = refl
  times_more offsets at next (x ∷ xs) run =
      ap (λ (ts : List (ℕ × ℤ)). ts ++ flat_map (all_timed_by (fed ++ more) offsets) xs) (batch_on x run.2 offsets)
      ∙ ap (λ (ts : List (ℕ × ℤ)). all_timed_by fed offsets x ++ ts) (times_more offsets (at + x.head.size) (next + x.head.count) xs run.3)

-- ---- the batches of a buffer, one after the other

-- so far, where batches of these heads are left
pub record IsTimingTo (buffer offsets rest : List ℕ) (heads : List BatchHead) (old now : Timing) (at : ℕ) : Type 0 where
  pub all : List Standing
  pub run : IsRun buffer 0 old.next all
  pub within : at ≤ length buffer
  pub byte : at ≡ byte_after 0 all
  pub next : now.next ≡ offset_after old.next all
  pub are : now.times.items ≡ old.times.items ++ flat_map (all_timed_by buffer offsets) all
  pub going : now.is_ended ≡ false
  pub left : List Batch
  pub heads_are : HasHeads (drop at buffer) left heads rest

pub timing_begins : (buffer offsets rest : List ℕ) (heads : List BatchHead) (old : Timing) (batches : List Batch) → old.is_ended ≡ false → HasHeads buffer batches heads rest → IsTimingTo buffer offsets rest heads old old 0
timing_begins buffer offsets rest heads old batches going has =
    record { all = []; run = tt; within = omega arith; byte = refl; next = refl; are = sym (append-nil old.times.items); going = going; left = batches; heads_are = has }

timing_one : (buffer offsets rest : List ℕ) (h : BatchHead) (hs : List BatchHead) (old now new : Timing) (at after : ℕ) → IsTimingTo buffer offsets rest (h ∷ hs) old now at → h.offset ≡ now.next → after ≡ at + h.size
    → new.next ≡ h.offset + h.count → new.times.items ≡ now.times.items ++ all_timed_by buffer offsets (record { byte = at; head = h }) → new.is_ended ≡ now.is_ended → IsTimingTo buffer offsets rest hs old new after
timing_one buffer offsets rest h hs old now new at after w offset byte next pushed ended = go w.left w.heads_are
  where
    s : Standing
    s = record { byte = at; head = h }

    go : (left : List Batch) → HasHeads (drop at buffer) left (h ∷ hs) rest → IsTimingTo buffer offsets rest hs old new after
    go [] x = absurd x
    go (b ∷ bs) x =
        let size : h.size ≡ length x.0 = ap (λ (g : BatchHead). g.size) x.4 in
        let reads : batch_at (drop at buffer) ≡ Ok (b, h.size) = reads_first (drop at buffer) b x.0 x.1 x.2 x.3 ∙ ap (λ (n : ℕ). Ok (b, n)) (sym size) in
        let left : drop after buffer ≡ x.1 =
        ap (λ (n : ℕ). drop n buffer) byte ∙ (ap (λ (n : ℕ). drop (at + n) buffer) size ∙ (sym (drop-drop (length x.0) at buffer) ∙ (ap (drop (length x.0)) x.3 ∙ drop_at x.0 x.1 (length x.0) refl))) in
        record {
          all = w.all ++ s ∷ [];
          run = run_join buffer 0 old.next w.all (s ∷ []) w.run (w.byte, offset ∙ w.next, record { batch = b; reads = reads; head = x.4 ∙ ap (head_of b) (sym size) }, tt);
          within = omega (arith, w.within, byte, size, length-drop at buffer, ap length x.3, length-append x.0 x.1);
          byte = byte ∙ (ap (λ (n : ℕ). n + h.size) w.byte ∙ sym (byte_join 0 w.all (s ∷ [])));
          next = next ∙ (ap (λ (n : ℕ). n + h.count) (offset ∙ w.next) ∙ sym (offset_join old.next w.all (s ∷ [])));
          are = pushed ∙ (ap (λ (ts : List (ℕ × ℤ)). ts ++ all_timed_by buffer offsets s) w.are ∙ (append_assoc old.times.items (flat_map (all_timed_by buffer offsets) w.all) (all_timed_by buffer offsets s)
              ∙ ap (λ (ts : List (ℕ × ℤ)). old.times.items ++ ts) (ap (λ (ts : List (ℕ × ℤ)). flat_map (all_timed_by buffer offsets) w.all ++ ts) (sym (append-nil (all_timed_by buffer offsets s))) ∙ sym (flat_map-append (all_timed_by buffer offsets) w.all (s ∷ [])))));
          going = ended ∙ w.going;
          left = bs;
          heads_are = subst (λ (xs : List ℕ). HasHeads xs bs hs rest) (sym left) x.5;
        }

-- a batch begins elsewhere
timing_elsewhere : (buffer offsets rest : List ℕ) (h : BatchHead) (hs : List BatchHead) (old now new : Timing) (at : ℕ) → IsTimingTo buffer offsets rest (h ∷ hs) old now at → h.offset ≢ now.next
    → new.next ≡ now.next → new.times.items ≡ now.times.items → new.is_ended ≡ true → IsTimedOn buffer offsets rest old new
timing_elsewhere buffer offsets rest h hs old now new at w ne next times ended = go w.left w.heads_are
  where
    go : (left : List Batch) → HasHeads (drop at buffer) left (h ∷ hs) rest → IsTimedOn buffer offsets rest old new
    go [] x = absurd x
    go (b ∷ bs) x =
        let reads : batch_at (drop at buffer) ≡ Ok (b, length x.0) = reads_first (drop at buffer) b x.0 x.1 x.2 x.3 in
        let offset : h.offset ≡ offset_of b = ap (λ (g : BatchHead). g.offset) x.4 in
        let here : EndsSo (drop at buffer) rest new.next true = (b, length x.0, reads, λ q. ne (offset ∙ (q ∙ next))) in
        record {
          all = w.all;
          run = w.run;
          within = subst (λ (n : ℕ). n ≤ length buffer) w.byte w.within;
          next = next ∙ w.next;
          are = times ∙ w.are;
          ends = subst (λ (n : ℕ). EndsSo (drop n buffer) rest new.next new.is_ended) w.byte (subst (EndsSo (drop at buffer) rest new.next) (sym ended) here);
        }

timing_all : (buffer offsets rest : List ℕ) (old now : Timing) (at : ℕ) → IsTimingTo buffer offsets rest [] old now at → IsTimedOn buffer offsets rest old now
timing_all buffer offsets rest old now at w = go w.left w.heads_are
  where
    go : (left : List Batch) → HasHeads (drop at buffer) left [] rest → IsTimedOn buffer offsets rest old now
    go [] x = record {
      all = w.all;
      run = w.run;
      within = subst (λ (n : ℕ). n ≤ length buffer) w.byte w.within;
      next = w.next;
      are = w.are;
      ends = subst (λ (n : ℕ). EndsSo (drop n buffer) rest now.next now.is_ended) w.byte (subst (EndsSo (drop at buffer) rest now.next) (sym w.going) x);
    }
    go (b ∷ bs) x = absurd x

-- in a list of heads

next_in : (buffer offsets rest : List ℕ) (heads : List BatchHead) (i : ℕ) (d : BatchHead) (old now : Timing) (at : ℕ) → i < length heads → IsTimingTo buffer offsets rest (drop i heads) old now at
    → IsTimingTo buffer offsets rest (get_or heads i d ∷ drop (i + 1) heads) old now at
next_in buffer offsets rest heads i d old now at lt w = subst (λ (hs : List BatchHead). IsTimingTo buffer offsets rest hs old now at) (drop_more heads i d lt) w

pub next_one : (buffer offsets rest : List ℕ) (heads : List BatchHead) (i : ℕ) (d : BatchHead) (old now new : Timing) (at after : ℕ) → i < length heads → IsTimingTo buffer offsets rest (drop i heads) old now at → (get_or heads i d).offset ≡ now.next
    → after ≡ at + (get_or heads i d).size → new.next ≡ (get_or heads i d).offset + (get_or heads i d).count → new.times.items ≡ now.times.items ++ all_timed_by buffer offsets (record { byte = at; head = get_or heads i d }) → new.is_ended ≡ now.is_ended
    → IsTimingTo buffer offsets rest (drop (i + 1) heads) old new after
next_one buffer offsets rest heads i d old now new at after lt w offset byte next pushed ended =
    timing_one buffer offsets rest (get_or heads i d) (drop (i + 1) heads) old now new at after (next_in buffer offsets rest heads i d old now at lt w) offset byte next pushed ended

pub next_elsewhere : (buffer offsets rest : List ℕ) (heads : List BatchHead) (i : ℕ) (d : BatchHead) (old now new : Timing) (at : ℕ) → i < length heads → IsTimingTo buffer offsets rest (drop i heads) old now at → (get_or heads i d).offset ≢ now.next
    → new.next ≡ now.next → new.times.items ≡ now.times.items → new.is_ended ≡ true → IsTimedOn buffer offsets rest old new
next_elsewhere buffer offsets rest heads i d old now new at lt w ne next times ended =
    timing_elsewhere buffer offsets rest (get_or heads i d) (drop (i + 1) heads) old now new at (next_in buffer offsets rest heads i d old now at lt w) ne next times ended

pub none_left : (buffer offsets rest : List ℕ) (heads : List BatchHead) (i : ℕ) (old now : Timing) (at : ℕ) → length heads ≤ i → IsTimingTo buffer offsets rest (drop i heads) old now at → IsTimedOn buffer offsets rest old now
none_left buffer offsets rest heads i old now at le w = timing_all buffer offsets rest old now at (subst (λ (hs : List BatchHead). IsTimingTo buffer offsets rest hs old now at) (drop_all i heads le) w)

-- ---- a chunk

module _ (asked : AskedView) (fed waiting more buffer rest : List ℕ) (old mid new : Timing) (fault : BatchFault) (is : buffer ≡ waiting ++ more) (going : old.is_ended ≡ false) (f : IsTiming asked fed waiting old)
    (e : batch_at rest ≡ Err fault) (p : IsTimedOn buffer asked.offsets rest old mid) (times : new.times.items ≡ mid.times.items) (next : new.next ≡ mid.next) where
  abbrev all : List ℕ
  all = fed ++ more

  abbrev n : ℕ
  n = byte_after 0 f.all

  abbrev m : ℕ
  m = byte_after 0 p.all

  abbrev further : List Standing
  further = map (behind n) p.all

  left : drop n all ≡ buffer
  left = drop-append-le n fed more f.within ∙ (ap (λ (xs : List ℕ). xs ++ more) (subst (WaitsSo fed waiting n old.next) going f.ends).0 ∙ sym is)

  at_left : drop (n + m) all ≡ drop m buffer
  at_left = there all buffer n left m

  zero_more : n + 0 ≡ n
  zero_more = omega arith

  byte : byte_after 0 (f.all ++ further) ≡ n + m
  byte = byte_join 0 f.all further ∙ (ap (λ (k : ℕ). byte_after k further) (sym zero_more) ∙ byte_behind n 0 p.all)

  offset : offset_after asked.begin (f.all ++ further) ≡ mid.next
  offset = offset_join asked.begin f.all further ∙ (offset_behind n (offset_after asked.begin f.all) p.all ∙ (ap (λ (k : ℕ). offset_after k p.all) (sym f.next) ∙ sym p.next))

  run : IsRun all 0 asked.begin (f.all ++ further)
  run = run_join all 0 asked.begin f.all further (run_more fed more 0 asked.begin f.all f.run)
      (subst (λ (k : ℕ). IsRun all k (offset_after asked.begin f.all) further) zero_more (subst (λ (k : ℕ). IsRun all (n + 0) k further) f.next (run_behind all buffer n left 0 old.next p.all p.run)))

  are : mid.times.items ≡ flat_map (all_timed_by all asked.offsets) (f.all ++ further)
  are =
      p.are ∙ (ap (λ (ts : List (ℕ × ℤ)). ts ++ flat_map (all_timed_by buffer asked.offsets) p.all) (f.are ∙ sym (times_more fed more asked.offsets 0 asked.begin f.all f.run))
      ∙ (ap (λ (ts : List (ℕ × ℤ)). flat_map (all_timed_by all asked.offsets) f.all ++ ts) (sym (times_behind all buffer n left asked.offsets p.all)) ∙ sym (flat_map-append (all_timed_by all asked.offsets) f.all further)))

  built : WaitsSo all rest (n + m) mid.next new.is_ended → IsTiming asked all rest new
  built ends = record {
    all = f.all ++ further;
    run = run;
    within = omega (arith, byte, f.within, p.within, ap length left, length-drop n all, length-append fed more);
    next = next ∙ sym offset;
    are = times ∙ are;
    ends = subst (λ (k : ℕ). WaitsSo all rest k new.next new.is_ended) (sym byte) (subst (λ (k : ℕ). WaitsSo all rest (n + m) k new.is_ended) (sym next) ends);
  }

  -- no batch goes on there
  elsewhere : EndsSo (drop m buffer) rest mid.next true → WaitsSo all rest (n + m) mid.next true
  elsewhere x =
      let reads : batch_at (drop (n + m) all) ≡ Ok (x.0, x.1) = ap batch_at at_left ∙ x.2 in (
        λ q. no_value (x.0, x.1) faults.Truncated (sym reads ∙ q),
        λ s here r same.
            let read : batch_at (drop (n + m) all) ≡ Ok (r.batch, s.head.size) = subst (λ (k : ℕ). batch_at (drop k all) ≡ Ok (r.batch, s.head.size)) here r.reads in
            let one : (x.0, x.1) ≡ (r.batch, s.head.size) = same_value (x.0, x.1) (r.batch, s.head.size) (sym reads ∙ read) in
            x.3 (ap (λ (y : Batch × ℕ). offset_of y.0) one ∙ (sym (ap (λ (g : BatchHead). g.offset) r.head) ∙ same)),
      )

  unread : EndsSo (drop m buffer) rest mid.next false → fault ≢ faults.Truncated → WaitsSo all rest (n + m) mid.next true
  unread x ne =
      let there_is : batch_at (drop (n + m) all) ≡ Err fault = ap batch_at (at_left ∙ x) ∙ e in (
        λ q. ne (same_fault fault faults.Truncated (sym there_is ∙ q)),
        λ s here r same. no_value (r.batch, s.head.size) fault (sym (subst (λ (k : ℕ). batch_at (drop k all) ≡ Ok (r.batch, s.head.size)) here r.reads) ∙ there_is),
      )

  by_mid : (b : Bool) → fault ≢ faults.Truncated → EndsSo (drop m buffer) rest mid.next b → WaitsSo all rest (n + m) mid.next true
  by_mid true ne x = elsewhere x
  by_mid false ne x = unread x ne

  pub timing_stopped : fault ≢ faults.Truncated → new.is_ended ≡ true → IsTiming asked all rest new
  timing_stopped ne ended = built (subst (WaitsSo all rest (n + m) mid.next) (sym ended) (by_mid mid.is_ended ne p.ends))

  cut : (b : Bool) → fault ≡ faults.Truncated → EndsSo (drop m buffer) rest mid.next b → WaitsSo all rest (n + m) mid.next b
  cut true is_cut x = elsewhere x
  cut false is_cut x = (at_left ∙ x, e ∙ ap (λ (k : BatchFault). Err k) is_cut)

  pub timing_cut : fault ≡ faults.Truncated → new.is_ended ≡ mid.is_ended → IsTiming asked all rest new
  timing_cut is_cut ended = built (subst (WaitsSo all rest (n + m) mid.next) (sym ended) (cut mid.is_ended is_cut p.ends))

-- none goes on there whatever follows
pub timing_ended : (asked : AskedView) (fed waiting more left : List ℕ) (w : Timing) → w.is_ended ≡ true → IsTiming asked fed waiting w → IsTiming asked (fed ++ more) left w
timing_ended asked fed waiting more left w ended f =
    let n = byte_after 0 f.all in
    let x = subst (WaitsSo fed waiting n w.next) ended f.ends in
    let same : batch_at (drop n (fed ++ more)) ≡ batch_at (drop n fed) = ap batch_at (drop-append-le n fed more f.within) ∙ batch_more (drop n fed) more x.0 in
    let ends : WaitsSo (fed ++ more) left n w.next true = (
      λ q. x.0 (sym same ∙ q),
      λ s here r. x.1 s here (record {
        batch = r.batch;
        reads = ap (λ (k : ℕ). batch_at (drop k fed)) here ∙ (sym same ∙ (ap (λ (k : ℕ). batch_at (drop k (fed ++ more))) (sym here) ∙ r.reads));
        head = r.head;
      }),
    ) in
    record {
      all = f.all;
      run = run_more fed more 0 asked.begin f.all f.run;
      within = omega (arith, f.within, length-append fed more);
      next = f.next;
      are = f.are ∙ sym (times_more fed more asked.offsets 0 asked.begin f.all f.run);
      ends = subst (WaitsSo (fed ++ more) left n w.next) (sym ended) ends;
    }

-- ---- the first byte and the end

pub timing_none : (asked : AskedView) (w : Timing) → w.times.items ≡ [] → w.next ≡ asked.begin → w.is_ended ≡ false → IsTiming asked [] [] w
timing_none asked w times next going = record { all = []; run = tt; within = omega arith; next = next; are = times; ends = subst (WaitsSo [] [] 0 w.next) (sym going) (refl, batch_none) }

pub timing_end : (asked : AskedView) (bytes rest : List ℕ) (w : Timing) → IsTiming asked bytes rest w → IsTimedBy asked bytes w.times.items
timing_end asked bytes rest w f = λ segment base same.
    let n = byte_after 0 f.all in
    let end : IsEnd bytes n (offset_after asked.begin f.all) = subst (IsEnd bytes n) f.next (ended w.is_ended f.ends) in
    record {
      all = f.all;
      run = subst (λ (k : ℕ). IsRun segment.bytes 0 k f.all) (sym base) (subst (λ (xs : List ℕ). IsRun xs 0 asked.begin f.all) (sym same) f.run);
      whole = inr (subst (λ (k : ℕ). IsEnd segment.bytes n (offset_after k f.all)) (sym base) (subst (λ (xs : List ℕ). IsEnd xs n (offset_after asked.begin f.all)) (sym same) end));
      are = f.are ∙ ap (λ (xs : List ℕ). flat_map (all_timed_by xs asked.offsets) f.all) (sym same);
    }
  where
    ended : (b : Bool) → WaitsSo bytes rest (byte_after 0 f.all) w.next b → IsEnd bytes (byte_after 0 f.all) w.next
    ended true x = x.1
    ended false x = λ s here r same.
        no_value (r.batch, s.head.size) faults.Truncated (sym (subst (λ (k : ℕ). batch_at (drop k bytes) ≡ Ok (r.batch, s.head.size)) here r.reads) ∙ (ap batch_at x.0 ∙ x.1))
