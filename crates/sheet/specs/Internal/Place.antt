-- The reader: the sheet that it holds, and its place in it.
use Rattle.std.specs.Prelude.{ℕ, ◌+◌, cond, List, ltb, length}
use Rattle.std.specs.Borrow.{Bor}
use Rattle.plan.specs.Records.{body_length}
use Rattle.sheet.specs.Types.{Record, Reader}

-- the offset after a record at an offset; past the sheet's end, the same
abbrev pub place_after : ℕ → ℕ → Record → ℕ
place_after len at r = cond (ltb at len) (at + 1 + body_length r.kind) at

abbrev pub new_reader : Bor (List ℕ) → Reader
new_reader s = record { sheet = s; at = 0 }

abbrev pub moved_past : Reader → Record → Reader
moved_past d r = record { sheet = d.sheet; at = place_after (length d.sheet.now) d.at r }
