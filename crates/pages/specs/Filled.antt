-- What a buffer holds once a text is written into it.
use Rattle.std.specs.Prelude.{true, false, List, ◌++◌, ℕ, leb, length, drop}

-- the text, then the buffer's own bytes beyond it; a buffer that is too short keeps its bytes
unfoldable pub filled : List ℕ → List ℕ → List ℕ
filled text out = elim (leb (length text) (length out)) [ true ↦ text ++ drop (length text) out | false ↦ out ]
