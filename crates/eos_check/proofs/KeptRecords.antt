-- What is kept of records and logs for those who ask for it.
use Rattle.std.proofs.Common.{◌≡◌, ℕ, Bool, true, false, List, map, flat_map, refl, sym, ap, subst, codes}
use Rattle.std.specs.Prelude.{if◌then◌else◌}
use Rattle.std.specs.Ordering.{nat_cmp}
use Rattle.std.specs.Cmp.Lexicographic.{slice_cmp}
use Rattle.std.proofs.lemmas.Cmp.{nat_list_cmp_total}
use Rattle.eos_base.specs.Members.{Has, is_found}
use Rattle.eos_base.proofs.Exact.{bytes_exact, is_tied}
use Rattle.eos_base.proofs.Membership.{found_has, has_found, has_flat}
use Rattle.eos_evidence.specs.declared.application.App.{App}
use Rattle.eos_evidence.specs.SpecFields.{outputs_of}
use Rattle.eos_evidence.specs.Topics.{is_internal}
use Rattle.eos_claims.specs.Headers.{claim_of}
use Rattle.eos_fold.specs.declared.item.Item.{Item}
use Rattle.eos_fold.specs.Parts.{PartLog}
use Rattle.eos_commits.specs.Visible.{is_visible, visible}
use Rattle.eos_commits.specs.Commits.{is_offsets_part}
use Rattle.eos_table.specs.TransactionLog.{is_transaction_part}
use Rattle.eos_reading.specs.Wanted.{wanted_item, wanted_log, wanted_of, kept_log}
use Rattle.eos_reading.specs.declared.wanted.Wanted.{Wanted}
use Rattle.eos_reading.specs.declared.wanted.Wanted.TheVariants.{Presence, Claims, Texts}
use Rattle.eos_reading.proofs.ClaimHeaders.{back}
use Rattle.eos_check.proofs.SeenSame.{filter_seen, flat_seen}

-- ---- records

pub offset_kept : (w : Wanted) (x : Item) → (wanted_item w x).offset ≡ x.offset
offset_kept Presence x = refl
offset_kept Claims x = refl
offset_kept Texts x = refl

pub fate_kept : (w : Wanted) (x : Item) → (wanted_item w x).fate ≡ x.fate
fate_kept Presence x = refl
fate_kept Claims x = refl
fate_kept Texts x = refl

pub writer_kept : (w : Wanted) (x : Item) → (wanted_item w x).writer ≡ x.writer
writer_kept Presence x = refl
writer_kept Claims x = refl
writer_kept Texts x = refl

-- what is seen of the visible records
pub visible_seen : {Y : Type 0} (w : Wanted) (view : Item → Y) → ((x : Item) → view (wanted_item w x) ≡ view x) → (p : PartLog)
    → map view (visible (wanted_log w p)) ≡ map view (visible p)
visible_seen w view seen p = filter_seen (wanted_item w) (λ x. is_visible x.fate) view (λ x. ap is_visible (fate_kept w x)) (λ x e. seen x) p.items

pub visible_flat : {Z : Type 0} (w : Wanted) (view : Item → List Z) → ((x : Item) → view (wanted_item w x) ≡ view x) → (p : PartLog)
    → flat_map view (visible (wanted_log w p)) ≡ flat_map view (visible p)
visible_flat w view seen p = flat_seen (wanted_item w) (λ x. is_visible x.fate) view (λ x. ap is_visible (fate_kept w x)) (λ x e. seen x) p.items

-- ---- Kafka's own logs keep their texts

texts_kept : (apps : List App) (p : PartLog) → is_internal p.topic ≡ true → kept_log apps p ≡ wanted_log Texts p
texts_kept apps p e = ap (λ (b : Bool). wanted_log (if b then Texts else (if is_found (slice_cmp nat_cmp) (outputs_of apps) p.topic then Claims else Presence)) p) e

pub offsets_kept : (apps : List App) (p : PartLog) → is_offsets_part p ≡ true → kept_log apps p ≡ wanted_log Texts p
offsets_kept apps p e =
    let at : p.topic ≡ codes "__consumer_offsets" = bytes_exact p.topic (codes "__consumer_offsets") (is_tied (slice_cmp nat_cmp p.topic (codes "__consumer_offsets")) e) in
    texts_kept apps p (subst (λ t. is_internal t ≡ true) (sym at) refl)

pub transactions_kept : (apps : List App) (p : PartLog) → is_transaction_part p ≡ true → kept_log apps p ≡ wanted_log Texts p
transactions_kept apps p e =
    let at : p.topic ≡ codes "__transaction_state" = bytes_exact p.topic (codes "__transaction_state") (is_tied (slice_cmp nat_cmp p.topic (codes "__transaction_state")) e) in
    texts_kept apps p (subst (λ t. is_internal t ≡ true) (sym at) refl)

-- ---- outputs keep their claims

pub claims_kept : (apps : List App) (topic : List ℕ) → is_found (slice_cmp nat_cmp) (outputs_of apps) topic ≡ true
    → (x : Item) → claim_of (wanted_item (wanted_of apps topic) x).headers ≡ claim_of x.headers
claims_kept apps topic e x = go (is_internal topic) (is_found (slice_cmp nat_cmp) (outputs_of apps) topic) e
  where
    go : (own found : Bool) → found ≡ true → claim_of (wanted_item (if own then Texts else (if found then Claims else Presence)) x).headers ≡ claim_of x.headers
    go true found is = back x.headers
    go false true is = back x.headers
    go false false is = absurd cc

-- an application's outputs are among those of all
pub found_in_all : (apps : List App) (app : App) (topic : List ℕ) → Has apps app → is_found (slice_cmp nat_cmp) app.outputs topic ≡ true
    → is_found (slice_cmp nat_cmp) (outputs_of apps) topic ≡ true
found_in_all apps app topic has e =
    has_found (slice_cmp nat_cmp) nat_list_cmp_total (outputs_of apps) topic
    (has_flat (λ (a : App). a.outputs) apps app topic has (found_has (slice_cmp nat_cmp) bytes_exact app.outputs topic e))
