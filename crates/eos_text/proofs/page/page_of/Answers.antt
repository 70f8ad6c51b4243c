use Rattle.std.proofs.Common.{◌++◌, ◌∙◌, ap}
use Rattle.std.specs.Option.{option_copied}
use Rattle.eos_text.specs.steps.Found.{page_in}
use Rattle.eos_text.proofs.PagesFound.{and_then, behind, is_page, or_found}
use Rattle.eos_text.proofs.page.page_of.Goals as goal

pub returns : goal.returns
returns c =
    let code = c.args.code.now in
    let a = c.of_partitions.result.now in
    let b = c.of_transaction_log.result.now in
    let d = c.of_decisions.result.now in
    let e = c.of_records.result.now in
    let f = c.of_outputs.result.now in
    let two = or_found code a b c.page_in.result c.page_in-2.result c.or.result c.page_in.ensures c.page_in-2.ensures c.or.ensures in
    let three = or_found code (a ++ b) d c.or.result c.page_in-3.result c.or-2.result two c.page_in-3.ensures c.or-2.ensures in
    let four = or_found code ((a ++ b) ++ d) e c.or-2.result c.page_in-4.result c.or-3.result three c.page_in-4.ensures c.or-3.ensures in
    let five = or_found code (((a ++ b) ++ d) ++ e) f c.or-3.result c.page_in-5.result c.or-4.result four c.page_in-5.ensures c.or-4.ensures in
    let are = and_then c.of_partitions.ensures (and_then c.of_transaction_log.ensures (and_then c.of_decisions.ensures (and_then c.of_records.ensures c.of_outputs.ensures))) in
    is_page (a ++ (b ++ (d ++ (e ++ f)))) code (option_copied c.or-4.result) are (five ∙ ap (λ l. page_in l code) (behind a b d e f))
