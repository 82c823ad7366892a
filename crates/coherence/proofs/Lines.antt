-- What a history says, as one pass over its lines meets them.
use Prim.Native.Nat.{ℕ, ◌+◌, ◌≤◌, ◌<◌, min}
use native.Mathlib.Omega.{arith}
use native.Mathlib.Numerals.{add-one}
use native.Mathlib.Decide.{dec_lt}
use borrow.Author.Tests.{le-ltb, eq-eqb, not-true}
use mathlib.Core.Bool.{Bool, true, false, not, ◌&&◌, ◌||◌, and-false}
use mathlib.Core.List.{List, [], ◌∷◌, ◌++◌}
use mathlib.Core.Path.{◌≡◌, refl, sym, ◌∙◌, ap}
use lib.ListN.{length, take, drop, get_or, take-append-drop}
use lib.Seq.{length-take-le, take_all, take-suc, drop-cons, get_or-take}
use Rattle.coherence.specs.Prelude.{Fate, Entry}
use Rattle.plan.specs.Fates.{is_done, is_settled, same_fate}
use Rattle.plan.specs.Histories.{blank_entry, fate_if, fates_in, any_done, done_in, declared_only, same_fates, listed_as}
use Rattle.plan.proofs.Lines.{declared_append, fates_split, fates_same, done_settled_if}

-- an event that is listed as its fate asks for is done in the history where it is done
pub listed_done : (h : List Entry) (e : ℕ) (x : Fate) → listed_as h e x ≡ true → done_in h e ≡ is_done x
unfolding listed_as done_in
listed_done h e x is = ap any_done (fates_same (fates_in h e) (fate_if (is_settled x) x) is) ∙ done_settled_if x

-- the first i lines of those that a length gives, and one more; a length above 16 stands for all 16 places
module _ (h : List Entry) (len i : ℕ) (whole : length h ≡ 16) where
  length_lines : length (take len h) ≡ min len 16
  length_lines = elim (dec_lt len 16) [
    | yes lt ↦ length-take-le len h (omega arith) ∙ omega arith
    | no ge ↦ ap length (take_all len h (omega arith)) ∙ whole ∙ omega arith
  ]

  pub lines_next : i < min len 16 → take (i + 1) (take len h) ≡ take i (take len h) ++ (get_or h i blank_entry ∷ [])
  lines_next lt =
      rw (add-one, take-suc (take len h) i blank_entry (rw length_lines lt), get_or-take len h i blank_entry (omega arith))

  pub lines_cut : i < min len 16
      → take len h ≡ take i (take len h) ++ (get_or h i blank_entry ∷ drop (i + 1) (take len h))
  lines_cut lt =
      sym (take-append-drop i (take len h))
      ∙ ap (λ ls. take i (take len h) ++ ls) (rw (add-one, drop-cons (take len h) i blank_entry (rw length_lines lt), get_or-take len h i blank_entry (omega arith)))

  pub lines_all : min len 16 ≤ i → take i (take len h) ≡ take len h
  lines_all ge = take_all i (take len h) (rw length_lines ge)

-- a line that shows the history wrong, whatever follows: its event is not declared; or has a line before, is not
-- settled or has another fate
module _ (h r : List Entry) (l : Entry) where
  pub undeclared_line : (n : ℕ) → n ≤ l.event → declared_only (h ++ (l ∷ r)) n ≡ false
  unfolding declared_only
  undeclared_line n le =
      declared_append h (l ∷ r) n ∙ rw (le-ltb l.event n le) (and-false (declared_only h n))

  pub wrong_line : (x : Fate) (t : Bool)
      → fates_in h l.event ≡ fate_if t x
      → (t || not (is_settled x && same_fate l.fate x)) ≡ true
      → listed_as (h ++ (l ∷ r)) l.event x ≡ false
  unfolding listed_as fates_in same_fates
  wrong_line x t before is =
      rw (fates_split h (l ∷ r) l.event, before, eq-eqb l.event l.event refl) (go t (is_settled x) is)
    where
      go : (t s : Bool)
          → (t || not (s && same_fate l.fate x)) ≡ true
          → same_fates (fate_if t x ++ (l.fate ∷ fates_in r l.event)) (fate_if s x) ≡ false
      go true true q = and-false (same_fate x x)
      go true false q = refl
      go false true q = rw (not-true (same_fate l.fate x) q)
      go false false q = refl
