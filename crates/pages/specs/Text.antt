-- The text of a page of 320 bytes once bytes are put after it.
use Rattle.std.specs.Prelude.{ℕ, ◌≤◌, cond, List, ◌++◌, leb, length}

-- the page has room for the bytes
abbrev pub HasRoom : List ℕ → List ℕ → Type 0
HasRoom text bytes = length (text ++ bytes) ≤ 320

-- its text, then the bytes; where it has no room for them, its text
unfoldable pub text_after : List ℕ → List ℕ → List ℕ
text_after text bytes = cond (leb (length (text ++ bytes)) 320) (text ++ bytes) text
