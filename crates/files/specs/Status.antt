-- What the contract of `sinewhopa_files` cites.
use Rattle.std.specs.Prelude.{◌≤◌, ℤ, pos, negsuc}

-- an exit status of the program: 0, or 1 where a file or the report failed [13.1]
abbrev pub Status : ℤ → Type 0
Status (pos k) = k ≤ 1
Status (negsuc k) = ⊥
