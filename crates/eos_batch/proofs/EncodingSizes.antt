-- The sizes of texts, added up.
use Rattle.std.proofs.Common.{◌≡◌, ℕ, suc, ◌+◌, ◌-◌, ◌*◌, ◌/◌, ◌^◌, ◌<◌, ◌≤◌, min, List, length, drop, get_or, None, refl, sym, arith}
use Rattle.std.proofs.lemmas.List.{length-append}
use Rattle.eos_wire.specs.Writing.{groups_of, varint_of}
use Rattle.eos_batch.specs.declared.record.Header.{Header}
use Rattle.eos_batch.specs.declared.record.Record.{Record}
use Rattle.eos_batch.specs.Encoding.{optional_text, header_text, headers_text, record_text, records_text}
use Rattle.eos_batch.specs.steps.Writing.{capped}
use Rattle.eos_wire.proofs.Spellings.{more, last}
use Rattle.eos_batch.proofs.EncodingSteps.{headers_next, headers_end, records_next, records_end}

-- a group more
pub goes_on : (most size rest total : ℕ) → 1 ≤ size → size ≤ most → 128 ≤ rest → size + length (groups_of (most + 1 - size) rest) ≡ total
    → size + 1 + length (groups_of (most + 1 - (size + 1)) (rest / 128)) ≡ total
goes_on most size rest total some le big e =
    let k : most + 1 - size ≡ suc (most + 1 - (size + 1)) = omega arith in
    let f : size + length (groups_of (suc (most + 1 - (size + 1))) rest) ≡ total = rw k at e in
    let g : size + suc (length (groups_of (most + 1 - (size + 1)) (rest / 128))) ≡ total = rw (more (most + 1 - (size + 1)) rest big) at f in
    omega arith

-- the last group
pub is_last : (k rest : ℕ) → rest < 128 → length (groups_of k rest) ≡ 1
is_last k rest lt = rw (last k rest lt) refl

pub no_more : (rest : ℕ) → length (groups_of 0 rest) ≡ 1
unfolding groups_of
no_more rest = refl

-- a number with a sign takes as many groups as what is left of it after the first, and one more
pub after_first : (k half n : ℕ) → n / 128 ≡ half / 64 → 64 ≤ half → 128 ≤ n → length (groups_of (k + 1) n) ≡ 1 + length (groups_of k (half / 64))
after_first k half n e big le =
    let k' : k + 1 ≡ suc k = omega arith in
    rw (k', more k n le, e) (omega arith)

pub first_is_last : (k half n : ℕ) → half < 64 → n < 2 * half + 2 → 1 ≡ length (groups_of (k + 1) n)
first_is_last k half n lt le = sym (is_last (k + 1) n (omega arith))

pub is_spent : (more size rest number : ℕ) → more < size → size ≤ more + 1 → size + length (groups_of (more + 1 - size) rest) ≡ 1 + length (groups_of more number) → size ≡ length (groups_of more number)
is_spent more size rest number gt le e =
    let k : more + 1 - size ≡ 0 = omega arith in
    let f : size + length (groups_of 0 rest) ≡ 1 + length (groups_of more number) = rw k at e in
    omega (arith, no_more rest)

-- ---- sizes that stop at the greatest number

pub null_size : 1 ≡ capped (length (optional_text None))
unfolding optional_text varint_of groups_of
null_size = refl

-- ---- one part more

step : (size a b one total : ℕ) → one ≡ capped a → capped (size + (a + b)) ≡ total → capped (min (size + one) (2 ^ 64 - 1) + b) ≡ total
step size a b one total e so_far = omega arith

pub header_more : (hs : List Header) (i : ℕ) (h : Header) (size one total : ℕ) → i < length hs → h ≡ get_or hs i h → one ≡ capped (length (header_text h))
    → capped (size + length (headers_text (drop i hs))) ≡ total → capped (min (size + one) (2 ^ 64 - 1) + length (headers_text (drop (i + 1) hs))) ≡ total
header_more hs i h size one total lt is e so_far =
    step size (length (header_text h)) (length (headers_text (drop (i + 1) hs))) one total e (rw (headers_next hs i h lt is, length-append) at so_far)

pub headers_done : (hs : List Header) (i size : ℕ) → length hs ≤ i → size < 2 ^ 64 → capped (size + length (headers_text (drop i hs))) ≡ capped (length (headers_text hs)) → size ≡ capped (length (headers_text hs))
headers_done hs i size le fits so_far = let f : capped (size + 0) ≡ capped (length (headers_text hs)) = rw (headers_end hs i le) at so_far in omega arith

pub record_more : (rs : List Record) (i : ℕ) (r : Record) (size one total : ℕ) → i < length rs → r ≡ get_or rs i r → one ≡ capped (length (record_text i r))
    → capped (size + length (records_text i (drop i rs))) ≡ total → capped (min (size + one) (2 ^ 64 - 1) + length (records_text (i + 1) (drop (i + 1) rs))) ≡ total
record_more rs i r size one total lt is e so_far =
    step size (length (record_text i r)) (length (records_text (i + 1) (drop (i + 1) rs))) one total e (rw (records_next rs i r lt is, length-append) at so_far)

pub records_done : (rs : List Record) (i size : ℕ) → length rs ≤ i → size < 2 ^ 64 → capped (size + length (records_text i (drop i rs))) ≡ capped (length (records_text 0 rs)) → size ≡ capped (length (records_text 0 rs))
records_done rs i size le fits so_far = let f : capped (size + 0) ≡ capped (length (records_text 0 rs)) = rw (records_end rs i le) at so_far in omega arith
