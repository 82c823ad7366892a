-- Bytes put into a page from an offset on, by whether it has room for them, and the text of a page that they end.
use Prim.Native.Nat.{ℕ, ◌+◌, ◌≤◌, ◌<◌}
use native.Mathlib.Nat.{zero-add}
use native.Mathlib.Omega.{arith}
use mathlib.Core.List.{List, ◌++◌}
use mathlib.Core.Logic.{inl, inr}
use mathlib.Core.Path.{◌≡◌, refl, sym, ◌∙◌, ap}
use borrow.Author.Tests.{le-leb, lt-leb}
use borrow.Rule.Slice.PartMut.{put_mid}
use lib.ListN.{length, take, drop, length-append}
use lib.Seq.{length-sets, sets-eq, take_at}
use Rattle.std.proofs.lemmas.Bool.{cases_lt}
use Rattle.std.proofs.lemmas.List.{take_all}
use Rattle.std.proofs.lemmas.Slice.{put_mid-paste}
use Rattle.pages.specs.Text.{text_after}
use Rattle.pages.specs.Written.{written, Put, end_after, page_after}
use Rattle.pages.proofs.Texts.{text_size, text_grows, text_stays}

-- where bytes end lies within the page
pub put_within : (at : ℕ) (bytes : List ℕ) (end : ℕ) → end ≡ end_after at bytes → at ≤ 320 → end ≤ 320
unfolding end_after
put_within at bytes end ends within = elim (cases_lt 320 (at + length bytes)) [
  | inl full ↦ let e = rw (lt-leb (at + length bytes) 320 full) at ends in omega (arith, e, within)
  | inr room ↦ let e = rw (le-leb (at + length bytes) 320 room) at ends in omega (arith, e, room)
]

-- a page that has room for the text
module _ (page text after : List ℕ) (end : ℕ) (put : Put page 0 text after end) (room : length text ≤ length page) where
  -- its length stays
  pub page_length : length after ≡ length page
  unfolding written
  page_length = ap length put.bytes ∙ length-sets page 0 text

  -- it starts with the text
  pub page_start : take end after ≡ text
  unfolding written
  page_start =
      let e : end ≡ length text = omega (arith, put.ends) in
      rw (put.bytes, e, sets-eq text page 0 (omega arith)) (take_at text (drop (0 + length text) page) (length text) refl)

  -- where the text ends
  pub page_room : end ≤ length after
  page_room = omega (arith, page_length, put.ends)

  pub page_size : end ≡ length (take end after)
  page_size = put.ends ∙ zero-add (length text) ∙ ap length (sym page_start)

module _ (page : List ℕ) (at : ℕ) (bytes : List ℕ) where
  -- what putting comes to
  abbrev pub After : List ℕ → ℕ → Type 0
  After after end = (end ≡ end_after at bytes) × (after ≡ page_after page at bytes)

  -- there is no room: nothing is put
  pub put_no_room : 320 < at + length bytes → After page at
  unfolding end_after page_after
  put_no_room h = (rw (lt-leb (at + length bytes) 320 h), rw (lt-leb (at + length bytes) 320 h))

  -- there is: the bytes are put
  module _ (room : at + length bytes ≤ 320) (after : List ℕ) (end : ℕ) where
    pub after_put : Put page at bytes after end → After after end
    unfolding end_after page_after
    after_put p = (rw (le-leb (at + length bytes) 320 room) p.ends, rw (le-leb (at + length bytes) 320 room) p.bytes)

    pub put_after : After after end → Put page at bytes after end
    unfolding end_after page_after
    put_after h = record {
      ends = rw (le-leb (at + length bytes) 320 room) at h.0;
      bytes = rw (le-leb (at + length bytes) 320 room) at h.1;
    }

  -- a part of the page that they are copied over
  pub put_part : (stored : List ℕ) (k : ℕ)
      → stored ≡ bytes
      → k ≡ length bytes
      → at + length bytes ≤ length page
      → Put page at bytes (put_mid at k page stored) (at + length bytes)
  unfolding written
  put_part stored k same size within = record {
    ends = refl;
    bytes = put_mid-paste at k page stored bytes (length bytes) same (sym size) refl
        ∙ (λ i. take at page ++ take_all (length bytes) bytes (omega arith) i ++ drop (at + length bytes) page)
        ∙ sym (sets-eq bytes page at within);
  }

-- a page whose first `len` bytes are the text, and bytes put behind them
module _ (page text : List ℕ) (len : ℕ)
    (whole : length page ≡ 320) (within : len ≤ 320) (is : take len page ≡ text)
    (bytes after : List ℕ) (end : ℕ) (put : After page len bytes after end) where
  -- its text, with room for them or not
  grown : len + length bytes ≤ 320 → take end after ≡ text_after text bytes
  grown room =
      let p = put_after page len bytes room after end put in
      let q = put_part page len bytes bytes (length bytes) refl refl (omega (arith, whole)) in
      (λ i. take (p.ends i) ((p.bytes ∙ sym q.bytes) i))
      ∙ text_grows page text len whole within is bytes bytes (length bytes) refl (omega arith)

  kept : 320 < len + length bytes → take end after ≡ text_after text bytes
  kept full =
      let stays = put_no_room page len bytes full in
      let size = text_size page text len whole within is in
      (λ i. take ((put.0 ∙ sym stays.0) i) ((put.1 ∙ sym stays.1) i))
      ∙ is
      ∙ sym (text_stays text bytes (omega (arith, size, length-append text bytes)))

  pub text_put_after : take end after ≡ text_after text bytes
  text_put_after = elim (cases_lt 320 (len + length bytes)) [ inl full ↦ kept full | inr room ↦ grown room ]
