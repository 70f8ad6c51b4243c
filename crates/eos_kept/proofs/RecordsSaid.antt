-- What is wanted of records says their claims and no other headers; and there is a record under the heads for each.
use Rattle.std.proofs.Common.{◌≡◌, ℕ, suc, List, [], ◌∷◌, length, map, Some, None, refl, sym, ap, subst, arith}
use Rattle.std.proofs.lemmas.List.{length-append}
use Rattle.std.specs.List.{slice_get}
use Rattle.std.proofs.lemmas.Option.{slice_get_within, get_or_from_slice_get}
use Rattle.std.proofs.lemmas.List.Elements.{All-nil, All-cons, All-get_or}
use Rattle.eos_batch.specs.declared.record.Header.{Header}
use Rattle.eos_batch.specs.declared.record.Record.{Record}
use Rattle.eos_fold.specs.Batches.{DataBatch}
use Rattle.eos_fold.specs.Items.{items_from, items_in, items_of}
use Rattle.eos_claims.specs.Headers.{claim_of}
use Rattle.eos_reading.specs.declared.wanted.Wanted.{Wanted}
use Rattle.eos_reading.specs.declared.wanted.Wanted.TheVariants.{Presence, Claims, Texts}
use Rattle.eos_reading.specs.Wanted.{wanted_headers}
use Rattle.eos_reading.proofs.ClaimHeaders.{back}
use Rattle.eos_reading.specs.Records.{wanted_record}
use Rattle.eos_kept.specs.Records.{SaysClaim, SayClaims}
use Rattle.eos_kept.specs.steps.Fronts.{records_of}

none_said : wanted_headers None ≡ wanted_headers (claim_of (wanted_headers None))
unfolding claim_of
none_said = refl

one_said : (hs : List Header) → wanted_headers (claim_of hs) ≡ wanted_headers (claim_of (wanted_headers (claim_of hs)))
one_said hs = ap wanted_headers (sym (back hs))

pub wanted_said : (w : Wanted) (r : Record) → SaysClaim (wanted_record w r)
wanted_said Presence r = none_said
wanted_said Claims r = one_said r.headers
wanted_said Texts r = one_said r.headers

pub said_at : (rs : List Record) (i : ℕ) (r : Record) → slice_get rs i ≡ Some r → SayClaims rs → SaysClaim r
said_at rs i r e all = subst SaysClaim (get_or_from_slice_get rs i r r e) (All-get_or SaysClaim rs i r (slice_get_within rs i r e) all)

pub all_said : (w : Wanted) (rs : List Record) → SayClaims (map (wanted_record w) rs)
all_said w [] = All-nil SaysClaim
all_said w (r ∷ rs) = All-cons SaysClaim (wanted_record w r) (map (wanted_record w) rs) (wanted_said w r) (all_said w rs)

-- ---- how many there are

from_length : (d : DataBatch) (place : ℕ) (rs : List Record) → length (items_from d place rs) ≡ length rs
from_length d place [] = refl
from_length d place (r ∷ rs) = ap suc (from_length d (suc place) rs)

pub items_length : (ds : List DataBatch) → length (items_of ds) ≡ length (records_of ds)
items_length [] = refl
items_length (d ∷ ds) = omega (arith, length-append (items_in d) (items_of ds), length-append d.records (records_of ds), from_length d 0 d.records, items_length ds)
