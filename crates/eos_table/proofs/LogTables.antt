-- What the test of two transactional ids says.
use Rattle.std.proofs.Common.{◌≡◌, refl, true}
use Rattle.std.specs.Ordering.{nat_cmp, is_eq}
use Rattle.std.specs.Cmp.Lexicographic.{slice_cmp}
use Rattle.std.specs.declared.cmp.Ordering.{Ordering}
use Rattle.std.specs.declared.cmp.Ordering.TheVariants.{Less, Equal, Greater}
use Rattle.eos_base.proofs.Exact.{bytes_exact}
use Rattle.eos_table.specs.TransactionLog.{Id, same_id}

pub is_equal : (o : Ordering) → is_eq o ≡ true → o ≡ Equal
is_equal Equal e = refl
is_equal Less e = absurd cc
is_equal Greater e = absurd cc

pub same : (a b : Id) → same_id a b ≡ true → a ≡ b
same a b e = bytes_exact a b (is_equal (slice_cmp nat_cmp a b) e)
