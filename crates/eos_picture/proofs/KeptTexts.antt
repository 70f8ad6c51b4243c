-- What is kept of records, and of the transaction log.
use Rattle.std.proofs.Common.{◌≡◌, Bool, true, List, refl, sym, ap, subst, codes}
use Rattle.std.specs.Prelude.{if◌then◌else◌}
use Rattle.std.specs.Ordering.{nat_cmp}
use Rattle.std.specs.Cmp.Lexicographic.{slice_cmp}
use Rattle.eos_base.specs.Members.{is_found}
use Rattle.eos_base.proofs.Exact.{bytes_exact, is_tied}
use Rattle.eos_evidence.specs.declared.application.App.{App}
use Rattle.eos_evidence.specs.SpecFields.{outputs_of}
use Rattle.eos_evidence.specs.Topics.{is_internal}
use Rattle.eos_fold.specs.declared.item.Item.{Item}
use Rattle.eos_fold.specs.Parts.{PartLog}
use Rattle.eos_table.specs.TransactionLog.{is_transaction_part}
use Rattle.eos_reading.specs.Wanted.{wanted_item, wanted_log, kept_log}
use Rattle.eos_reading.specs.declared.wanted.Wanted.{Wanted}
use Rattle.eos_reading.specs.declared.wanted.Wanted.TheVariants.{Presence, Claims, Texts}

pub offset_kept : (w : Wanted) (x : Item) → (wanted_item w x).offset ≡ x.offset
offset_kept Presence x = refl
offset_kept Claims x = refl
offset_kept Texts x = refl

pub writer_kept : (w : Wanted) (x : Item) → (wanted_item w x).writer ≡ x.writer
writer_kept Presence x = refl
writer_kept Claims x = refl
writer_kept Texts x = refl

texts_kept : (apps : List App) (p : PartLog) → is_internal p.topic ≡ true → kept_log apps p ≡ wanted_log Texts p
texts_kept apps p e = ap (λ (b : Bool). wanted_log (if b then Texts else (if is_found (slice_cmp nat_cmp) (outputs_of apps) p.topic then Claims else Presence)) p) e

pub transactions_kept : (apps : List App) (p : PartLog) → is_transaction_part p ≡ true → kept_log apps p ≡ wanted_log Texts p
transactions_kept apps p e =
    let at : p.topic ≡ codes "__transaction_state" = bytes_exact p.topic (codes "__transaction_state") (is_tied (slice_cmp nat_cmp p.topic (codes "__transaction_state")) e) in
    texts_kept apps p (subst (λ t. is_internal t ≡ true) (sym at) refl)
