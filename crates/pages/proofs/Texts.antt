-- The text of a page once bytes are put after it, and a text copied to the start of a buffer.
use Prim.Native.Nat.{ℕ, ◌+◌, ◌-◌, ◌≤◌, ◌<◌}
use native.Mathlib.Omega.{arith}
use mathlib.Core.List.{List, [], ◌∷◌, ◌++◌, append_assoc}
use mathlib.Core.Path.{◌≡◌, refl, sym, ◌∙◌, ap}
use borrow.Author.Tests.{le-leb, lt-leb}
use borrow.Rule.Slice.PartMut.{put_mid}
use lib.ListN.{length, take, drop, set, length-append}
use lib.Seq.{length-take-le}
use Rattle.std.proofs.lemmas.List.{take_more_set}
use Rattle.std.proofs.lemmas.Slice.{take-put_mid}
use Rattle.pages.specs.Filled.{filled}
use Rattle.pages.specs.Text.{text_after}

-- by whether there is room for the bytes
module _ (text bytes : List ℕ) where
  pub text_put : length (text ++ bytes) ≤ 320 → text_after text bytes ≡ text ++ bytes
  unfolding text_after
  text_put h = rw (le-leb (length (text ++ bytes)) 320 h)

  pub text_stays : 320 < length (text ++ bytes) → text_after text bytes ≡ text
  unfolding text_after
  text_stays h = rw (lt-leb (length (text ++ bytes)) 320 h)

-- a text in two parts, put after a page's, which has room for it; `Page::put` puts a part, or a function of its own
module _ (page text a b : List ℕ) (split : text ≡ a ++ b) (room : length (page ++ text) ≤ 320) where
  -- there is room for the first part, and it is put
  pub room_first : length (page ++ a) ≤ 320
  room_first = omega (arith, length-append page text, length-append page a, ap length split ∙ length-append a b)

  pub put_first : (mid : List ℕ) → mid ≡ text_after page a → mid ≡ page ++ a
  put_first mid first = first ∙ text_put page a room_first

  both : page ++ a ++ b ≡ page ++ text
  both = append_assoc page a b ∙ ap (λ (l : List ℕ). page ++ l) (sym split)

  module _ (mid : List ℕ) (first : mid ≡ page ++ a) where
    -- then there is room for the second, and both are put
    pub room_then : length (mid ++ b) ≤ 320
    room_then = rw (first, both) room

    pub put_both : (after : List ℕ) → after ≡ mid ++ b → after ≡ page ++ text
    put_both after second = second ∙ ap (λ (l : List ℕ). l ++ b) first ∙ both

    pub put_last : (after : List ℕ) → after ≡ text_after mid b → after ≡ page ++ text
    put_last after second = put_both after (second ∙ text_put mid b room_then)

-- a text in three parts
module _ (page text a b c : List ℕ) (split : text ≡ a ++ (b ++ c)) (room : length (page ++ text) ≤ 320) where
  module _ (mid : List ℕ) (first : mid ≡ page ++ a) where
    rest : length (mid ++ (b ++ c)) ≤ 320
    rest = room_then page text a (b ++ c) split room mid first

    pub room_second : length (mid ++ b) ≤ 320
    room_second = room_first mid (b ++ c) b c refl rest

    pub put_second : (late : List ℕ) → late ≡ text_after mid b → late ≡ mid ++ b
    put_second late second = second ∙ text_put mid b room_second

    module _ (late : List ℕ) (second : late ≡ mid ++ b) where
      pub room_third : length (late ++ c) ≤ 320
      room_third = room_then mid (b ++ c) b c refl rest late second

      pub put_three : (after : List ℕ) → after ≡ late ++ c → after ≡ page ++ text
      put_three after third =
          put_both page text a (b ++ c) split room mid first after
          (put_both mid (b ++ c) b c refl rest late second after third)

      pub put_third : (after : List ℕ) → after ≡ text_after late c → after ≡ page ++ text
      put_third after third = put_three after (third ∙ text_put late c room_third)

-- a page whose first `len` bytes are the text
module _ (page text : List ℕ) (len : ℕ)
    (whole : length page ≡ 320) (within : len ≤ 320) (is : take len page ≡ text) where
  pub text_size : length text ≡ len
  text_size = ap length (sym is) ∙ length-take-le len page (omega arith)

  -- bytes are stored behind them
  pub text_grows : (bytes stored : List ℕ) (k : ℕ)
      → stored ≡ bytes
      → length bytes ≤ 320 - len
      → take (len + length bytes) (put_mid len k page stored) ≡ text_after text bytes
  text_grows bytes stored k same room =
      take-put_mid len k page stored (len + length bytes) (omega (arith, ap length same)) (omega arith)
      ∙ (λ i. is i ++ same i)
      ∙ sym (text_put text bytes (omega (arith, text_size, length-append text bytes)))

  -- one byte is
  pub text_pushed : (byte : ℕ) → len < 320 → take (len + 1) (set page len byte) ≡ text_after text (byte ∷ [])
  text_pushed byte room =
      take_more_set page len byte (omega arith)
      ∙ ap (λ (l : List ℕ). l ++ (byte ∷ [])) is
      ∙ sym (text_put text (byte ∷ []) (omega (arith, text_size, length-append text (byte ∷ []))))

-- a buffer that has room for a text, and one that is too short
module _ (text out : List ℕ) where
  pub filled_fits : length text ≤ length out → filled text out ≡ text ++ drop (length text) out
  unfolding filled
  filled_fits h = rw (le-leb (length text) (length out) h, filled)

  pub filled_short : length out < length text → out ≡ filled text out
  unfolding filled
  filled_short h = rw (lt-leb (length text) (length out) h, filled)
