-- `write_sheet` meets its contract: the page has room for the sheet.
use Rattle.std.proofs.Common.{List, ℕ, ◌++◌, ap, ◌∙◌}
use Rattle.std.proofs.lemmas.Result.{err_from_is_err_and}
use Rattle.writer.specs.Writing.{sheet_bytes}
use Rattle.writer.proofs.Replies.{reply_12, buffer_12, counts_few, sheet_room, reply_14, buffer_14, reply_0, buffer_0}
use Rattle.writer.proofs.write.write_sheet.Goals as goal

pub returns-in_err-test_coherent-clause-reply : goal.returns-in_err-test_coherent-clause-reply
returns-in_err-test_coherent-clause-reply c =
    let p = err_from_is_err_and c.from_residual.result c.from_residual.ensures.1 in
    rw (p.1, p.2) (reply_12 c.args.state _ c.test_coherent.ensures _ c.in_err-test_coherent.was _)

pub returns-in_err-test_coherent-clause-bytes : goal.returns-in_err-test_coherent-clause-bytes
returns-in_err-test_coherent-clause-bytes c =
    buffer_12 c.args.state _ c.test_coherent.ensures _ c.in_err-test_coherent.was _

pub put_sheet-requires : goal.put_sheet-requires
put_sheet-requires c =
    let found = c.test_coherent.ensures in
    let was = c.in_ok-test_coherent.was in
    let few = counts_few c.args.state _ found _ was in
    record { events = few.0; rules = few.1; room = rw c.new-page.ensures (sheet_room c.args.state _ found _ was) }

pub returns-then-out-sheet : goal.returns-then-out-sheet
returns-then-out-sheet c =
    let found = c.test_coherent.ensures in
    let was = c.in_ok-test_coherent.was in
    let bytes = sheet_bytes c.args.state.plan in
    let sheet = c.text-sheet.ensures ∙ c.put_sheet.ensures ∙ ap (λ (l : List ℕ). l ++ bytes) c.new-page.ensures in
    record {
      reply = reply_14 c.args.state _ found _ was _ sheet _ c.if-out-sheet.true;
      bytes = buffer_14 c.args.state _ found _ was _ sheet _ c.if-out-sheet.true;
    }

pub returns : goal.returns
returns c =
    let found = c.test_coherent.ensures in
    let was = c.in_ok-test_coherent.was in
    let bytes = sheet_bytes c.args.state.plan in
    let sheet = c.text-sheet.ensures ∙ c.put_sheet.ensures ∙ ap (λ (l : List ℕ). l ++ bytes) c.new-page.ensures in
    record {
      reply = reply_0 c.args.state _ found _ was _ sheet _ c.if-out-sheet.false;
      bytes = buffer_0 c.args.state _ found _ was _ sheet _ c.if-out-sheet.false _ c.fill.ensures;
    }
