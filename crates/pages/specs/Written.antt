-- Bytes put into a page of 320 bytes from an offset on.
use Rattle.std.specs.Prelude.{ℕ, ◌+◌, Bool, cond, List, ◌≡◌, leb, length}
use Rattle.std.proofs.lemmas.List.Edits.{sets}

-- the page with the text's bytes stored one after another
unfoldable pub written : List ℕ → ℕ → List ℕ → List ℕ
written page at text = sets page at text

-- a text was put at an offset: where it ends, and the page after it
pub record Put (page : List ℕ) (at : ℕ) (text : List ℕ) (after : List ℕ) (end : ℕ) : Type 0 where
  pub ends : end ≡ at + length text
  pub bytes : after ≡ written page at text

-- the same where it may have no room: then the page stays, and the offset is where it ends
abbrev pub has_room : ℕ → List ℕ → Bool
has_room at text = leb (at + length text) 320

unfoldable pub end_after : ℕ → List ℕ → ℕ
end_after at text = cond (has_room at text) (at + length text) at

unfoldable pub page_after : List ℕ → ℕ → List ℕ → List ℕ
page_after page at text = cond (has_room at text) (written page at text) page
