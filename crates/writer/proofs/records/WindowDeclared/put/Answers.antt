-- A window's `put` meets its contract.
use Rattle.std.proofs.Common.{List, ℕ, [], ◌∷◌, ◌++◌, not, append-nil, ap, sym, ◌∙◌, arith}
use borrow.Author.Tests.{eq-eqb, ne_eqb}
use Rattle.plan.specs.Calls.{bytes_of}
use Rattle.pages.specs.Text.{text_after}
use Rattle.pages.proofs.Texts.{put_first, put_second, put_third}
use Rattle.writer.proofs.Joining.{window_some, window_none}
use Rattle.writer.proofs.Putting.{le_bytes}
use Rattle.writer.proofs.records.WindowDeclared.put.Goals as goal

pub returns-then-self-ne0 : goal.returns-then-self-ne0
returns-then-self-ne0 c =
    let w = c.args.self.now in
    let head = 7 ∷ c.args.place ∷ [] in
    let from = bytes_of w.from in
    let until = bytes_of w.until in
    let split = window_some c.args.place w (ap not (ne_eqb w.until 0 c.if-self-ne0.true)) in
    let first = put_first _ _ head (from ++ until) split c.requires _ c.put.ensures in
    let from_said = c.to_le_bytes.ensures ∙ le_bytes w.from (omega arith) in
    let from_put = c.put-then-self-ne0.ensures ∙ ap (text_after _) from_said in
    let second = put_second _ _ head from until split c.requires _ first _ from_put in
    let until_said = c.to_le_bytes-then-self-ne0.ensures ∙ le_bytes w.until (omega arith) in
    let until_put = c.put-then-self-ne0-2.ensures ∙ ap (text_after _) until_said in
    put_third _ _ head from until split c.requires _ first _ second _ until_put

pub returns-else-self-ne0 : goal.returns-else-self-ne0
returns-else-self-ne0 c =
    let w = c.args.self.now in
    let none = window_none c.args.place w (ap not (eq-eqb w.until 0 c.if-self-ne0.false)) in
    sym (ap (λ (l : List ℕ). c.args.page.now ++ l) none ∙ append-nil _)
