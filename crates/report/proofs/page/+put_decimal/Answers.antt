-- `put_decimal` meets its contract.
use Rattle.std.proofs.Common.{[], ◌∷◌, ◌+◌, ◌%◌, ◌/◌, append-nil, sym, ◌∙◌, arith}
use Rattle.scheduler.specs.Runner.{decimal}
use Rattle.pages.proofs.Texts.{room_first, put_last}
use Rattle.report.proofs.Digits.{decimal_low, decimal_more}
use Rattle.report.proofs.page.+put_decimal.Goals as goal
use Rattle.report.proofs.page.+put_decimal.Goals.{then-x-ge10, else-x-ge10}

pub put_decimal-requires : goal.put_decimal-requires
put_decimal-requires t c = (
  omega arith,
  room_first
      _
      (decimal c.args.x)
      (decimal (c.args.x / 10))
      ((48 + c.args.x % 10) ∷ [])
      (decimal_more _ c.if-x-ge10.true)
      c.requires,
)

pub returns : goal.returns
returns t c =
    let x = c.args.x in
    let digit = (48 + x % 10) ∷ [] in
    elim c.if-x-ge10.branch [
      | then-x-ge10 w ↦
          put_last
          _
          (decimal x)
          (decimal (x / 10))
          digit
          (decimal_more x w.if-x-ge10.true)
          c.requires _
          (w.page-is ∙ w.put_decimal.ensures) _
          c.push.ensures
      | else-x-ge10 w ↦
          put_last
          _
          (decimal x)
          []
          digit
          (decimal_low x w.if-x-ge10.false)
          c.requires _
          (w.page-is ∙ sym (append-nil _)) _
          c.push.ensures
    ]
