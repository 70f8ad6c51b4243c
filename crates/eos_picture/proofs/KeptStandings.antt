-- Where transactions stand in kept logs, and which of them are shown.
use Rattle.std.proofs.Common.{◌≡◌, ◌≤◌, ◌+◌, ◌++◌, ℕ, ℤ, List, [], ◌∷◌, map, Option, Some, None, refl, sym, ap, subst, ◌∙◌, inl, inr, slice_get, IsPermutation}
use Rattle.std.specs.Prelude.{if◌then◌else◌}
use Rattle.std.specs.Option.{option_or}
use Rattle.eos_base.specs.declared.partition_name.PartitionName.{PartitionName}
use Rattle.eos_base.proofs.Membership.{map_has, has_map}
use Rattle.eos_evidence.specs.declared.application.App.{App}
use Rattle.eos_fold.specs.declared.item.Item.{Item}
use Rattle.eos_fold.specs.Parts.{PartLog}
use Rattle.eos_table.specs.TransactionLog.{is_transaction_part}
use Rattle.eos_picture.specs.declared.mark.Column.{Column}
use Rattle.eos_picture.specs.Order.{is_writer, offset_if, last_of, prepared_in, stands_at, standing, standings, IsOrderOf, is_of_name, nearness, near_to}
use Rattle.eos_picture.specs.Window.{AreBeside, IsAlone, AreAround, AreShown}
use Rattle.eos_reading.specs.Wanted.{wanted_item, wanted_of, kept_log, wanted_logs}
use Rattle.eos_reading.specs.declared.wanted.Wanted.{Wanted}
use Rattle.eos_picture.proofs.KeptTexts.{offset_kept, writer_kept}

last_kept : (wanted : Wanted) (w : ℤ × ℤ) (xs : List Item) → last_of (map (wanted_item wanted) xs) w ≡ last_of xs w
last_kept wanted w [] = refl
last_kept wanted w (x ∷ xs) =
    ap (λ z. option_or z (offset_if (is_writer (wanted_item wanted x).writer w) (wanted_item wanted x).offset)) (last_kept wanted w xs)
    ∙ (ap (λ z. option_or (last_of xs w) (offset_if (is_writer z w) (wanted_item wanted x).offset)) (writer_kept wanted x)
    ∙ ap (λ z. option_or (last_of xs w) (offset_if (is_writer x.writer w) z)) (offset_kept wanted x))

stands_kept : (apps : List App) (p : PartLog) (c : Column) → stands_at (kept_log apps p) c ≡ stands_at p c
stands_kept apps p c =
    ap (λ (z : Option ℕ). if is_transaction_part p then prepared_in p.number c.decided else z) (last_kept (wanted_of apps p.topic) (c.producer, c.epoch) p.items)

standings_kept : (apps : List App) (p : PartLog) (n : ℕ) (columns : List Column) → standings (kept_log apps p) n columns ≡ standings p n columns
standings_kept apps p n [] = refl
standings_kept apps p n (c ∷ cs) =
    ap (λ (z : Option ℕ). standing z n ++ standings (kept_log apps p) (n + 1) cs) (stands_kept apps p c) ∙ ap (λ z. standing (stands_at p c) n ++ z) (standings_kept apps p (n + 1) cs)

order_kept : (apps : List App) (p : PartLog) (every : List Column) (order : List (ℕ × ℕ)) → IsOrderOf (kept_log apps p) every order → IsOrderOf p every order
order_kept apps p every order h = record { same = subst (λ z. IsPermutation z order) (standings_kept apps p 0 every) h.same; sorted = h.sorted }

own_kept : (apps : List App) (name : Option PartitionName) (p : PartLog) → is_of_name name (kept_log apps p) ≡ is_of_name name p
own_kept apps None p = refl
own_kept apps (Some n) p = refl

near_kept : (apps : List App) (name : Option PartitionName) (c : Column) (p : PartLog) → near_to name c (kept_log apps p) ≡ near_to name c p
near_kept apps name c p =
    ap (λ z. nearness z (is_transaction_part p) (stands_at (kept_log apps p) c)) (own_kept apps name p) ∙ ap (nearness (is_of_name name p) (is_transaction_part p)) (stands_kept apps p c)

-- ---- which of them are shown

beside_kept : (apps : List App) (ps : List PartLog) (every : List Column) (name : Option PartitionName) (m : ℕ) (c : Column) (around : ℕ) (places : List ℕ)
    → AreBeside (wanted_logs apps ps) every name m c around places → AreBeside ps every name m c around places
beside_kept apps ps every name m c around places h =
    let f = map_has (kept_log apps) ps h.shared h.has in
    let own : near_to name c h.shared ≡ near_to name c f.0 = ap (near_to name c) (sym f.2) ∙ near_kept apps name c f.0 in
    record {
      shared = f.0;
      has = f.1;
      nearest = λ q has.
          let less = h.nearest (kept_log apps q) (has_map (kept_log apps) ps q has) in
          subst (λ z. z ≤ near_to name c f.0) (near_kept apps name c q) (subst (λ z. near_to name c (kept_log apps q) ≤ z) own less);
      order = h.order;
      of = order_kept apps f.0 every h.order (subst (λ (z : PartLog). IsOrderOf z every h.order) (sym f.2) h.of);
      k = h.k;
      at = h.at;
      are = h.are;
    }

alone_kept : (apps : List App) (ps : List PartLog) (name : Option PartitionName) (m : ℕ) (c : Column) (places : List ℕ)
    → IsAlone (wanted_logs apps ps) name m c places → IsAlone ps name m c places
alone_kept apps ps name m c places h = record {
  none = λ q has. sym (near_kept apps name c q) ∙ h.none (kept_log apps q) (has_map (kept_log apps) ps q has);
  are = h.are;
}

around_kept : (apps : List App) (ps : List PartLog) (every : List Column) (name : Option PartitionName) (m : ℕ) (c : Option Column) (around : ℕ) (places : List ℕ)
    → AreAround (wanted_logs apps ps) every name m c around places → AreAround ps every name m c around places
around_kept apps ps every name m None around places h = h
around_kept apps ps every name m (Some c) around places (inl h) = inl (beside_kept apps ps every name m c around places h)
around_kept apps ps every name m (Some c) around places (inr h) = inr (alone_kept apps ps name m c places h)

pub shown_kept : (apps : List App) (ps : List PartLog) (every : List Column) (name : Option PartitionName) (middle : Option ℕ) (around : ℕ) (places : List ℕ)
    → AreShown (wanted_logs apps ps) every name middle around places → AreShown ps every name middle around places
shown_kept apps ps every name None around places h = h
shown_kept apps ps every name (Some m) around places h = around_kept apps ps every name m (slice_get every m) around places h
