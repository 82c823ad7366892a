-- `sheet_length` meets its contract: the page has room for the sheet.
use Rattle.std.proofs.Common.{List, ℕ, ◌++◌, ap, ◌∙◌}
use Rattle.std.proofs.lemmas.Result.{err_from_is_err_and}
use Rattle.writer.specs.Writing.{sheet_bytes}
use Rattle.writer.proofs.Replies.{length_12, counts_few, sheet_room, length_said}
use Rattle.writer.proofs.write.sheet_length.Goals as goal

pub returns-in_err-test_coherent : goal.returns-in_err-test_coherent
returns-in_err-test_coherent c =
    let p = err_from_is_err_and c.from_residual.result c.from_residual.ensures.1 in
    rw (p.1, p.2) (length_12 c.args.state _ c.test_coherent.ensures _ c.in_err-test_coherent.was)

pub put_sheet-requires : goal.put_sheet-requires
put_sheet-requires c =
    let found = c.test_coherent.ensures in
    let was = c.in_ok-test_coherent.was in
    let few = counts_few c.args.state _ found _ was in
    record { events = few.0; rules = few.1; room = rw c.new-page.ensures (sheet_room c.args.state _ found _ was) }

pub returns : goal.returns
returns c =
    let bytes = sheet_bytes c.args.state.plan in
    let sheet = c.text.ensures ∙ c.put_sheet.ensures ∙ ap (λ (l : List ℕ). l ++ bytes) c.new-page.ensures in
    length_said c.args.state _ c.test_coherent.ensures _ c.in_ok-test_coherent.was _ sheet
