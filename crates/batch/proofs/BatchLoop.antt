-- The loop over a batch's entries: with the first i answered, the rest comes to the whole batch.
use Prim.Native.Nat.{ℕ, suc, ◌+◌, ◌≤◌, ◌<◌}
use native.Mathlib.Omega.{arith}
use native.Mathlib.Numerals.{add-one}
use mathlib.Core.Bool.{true}
use mathlib.Core.List.{List, [], ◌∷◌, ◌++◌, append_assoc, append-nil}
use mathlib.Core.Path.{◌≡◌, refl, sym, ◌∙◌, ap}
use lib.ListN.{length, get_or, set, take, drop, length-set}
use lib.Seq.{take-length, drop-length, drop-cons, drop-set-lt, take-suc-set}
use Rattle.batch.specs.Types.{State, BatchEntry}
use Rattle.scheduler.specs.Coherent.{coherent}
use Rattle.scheduler.specs.Lists.{scheduler, after}
use Rattle.scheduler.specs.State.{Sized}
use Rattle.batch.specs.Batch.{calls_of, answered, after_entry, answers}
use Rattle.batch.specs.Internal.Turns.{turn, turned}
use Rattle.batch.proofs.EntryTurns.{turn_is, turned_is, after_first, entry_coherent, entry_sized}

-- what a read past the end of the entries gives
abbrev pub no_entry : BatchEntry
no_entry = record { kind = 0; number = 0; refused = 0; fate = 0 }

-- the list is zs and the state x after the first i turns: those i entries have their answers, the others are as they
-- were
pub record Underway (s : State) (ys : List BatchEntry) (i : ℕ) (x : State) (zs : List BatchEntry) : Type 0 where
  pub inside : i ≤ length ys
  pub long : length zs ≡ length ys
  pub state : after scheduler x (calls_of (drop i zs)) ≡ after scheduler s (calls_of ys)
  pub entries : take i zs ++ answers x (drop i zs) ≡ answers s ys
  pub passes : coherent x ≡ true
  pub sized : Sized x

pub begins : (s : State) (ys : List BatchEntry) → coherent s ≡ true → Sized s → Underway s ys 0 s ys
begins s ys h z = record { inside = omega arith; long = refl; state = refl; entries = refl; passes = h; sized = z }

answers_first : (x : State) (e : BatchEntry) (es : List BatchEntry) → answers x (e ∷ es) ≡ answered x e ∷ answers (after_entry x e) es
unfolding answers
answers_first x e es = refl

answers_empty : (x : State) → answers x [] ≡ []
unfolding answers
answers_empty x = refl

calls_empty : calls_of [] ≡ []
unfolding calls_of
calls_empty = refl

after_empty : (x : State) → after scheduler x [] ≡ x
unfolding after
after_empty x = refl

module _ (s : State) (ys : List BatchEntry) (i : ℕ) (x : State) (zs : List BatchEntry) (f : Underway s ys i x zs) where
  abbrev entry : BatchEntry
  entry = get_or zs i no_entry

  -- a turn
  module _ (l : i < length ys) where
    within : i < length zs
    within = omega (arith, l, f.long)

    first : drop i zs ≡ entry ∷ drop (suc i) zs
    first = drop-cons zs i no_entry within

    module _ (e : BatchEntry) where
      rest : drop (i + 1) (set zs i e) ≡ drop (suc i) zs
      rest = rw add-one (drop-set-lt (suc i) zs i e (omega arith))

      front : take (i + 1) (set zs i e) ≡ take i zs ++ (e ∷ [])
      front = rw add-one (take-suc-set zs i e within)

    goes : Underway s ys (i + 1) (after_entry x entry) (set zs i (answered x entry))
    goes = record {
      inside = omega arith;
      long = length-set zs i (answered x entry) ∙ f.long;
      state =
          ap (λ (es : List BatchEntry). after scheduler (after_entry x entry) (calls_of es)) (rest (answered x entry))
          ∙ sym (after_first x entry (drop (suc i) zs))
          ∙ ap (λ (es : List BatchEntry). after scheduler x (calls_of es)) (sym first)
          ∙ f.state;
      entries =
          rw (front (answered x entry), rest (answered x entry), append_assoc)
          (ap (λ (es : List BatchEntry). take i zs ++ es) (sym (answers_first x entry (drop (suc i) zs)))
          ∙ ap (λ (es : List BatchEntry). take i zs ++ answers x es) (sym first)
          ∙ f.entries);
      passes = entry_coherent x entry f.sized f.passes;
      sized = entry_sized x entry f.sized;
    }

    pub goes_on : Underway s ys (i + 1) (turn x entry) (set zs i (turned x entry))
    goes_on = rw (turn_is x entry f.passes, turned_is x entry f.passes) goes

  -- the end
  pub stops : length ys ≤ i → (x ≡ after scheduler s (calls_of ys)) × (zs ≡ answers s ys)
  stops l =
      let n : i ≡ length zs = omega (arith, f.inside, f.long, l) in
      let d : drop i zs ≡ [] = rw n (drop-length zs) in
      let t : take i zs ≡ zs = rw n (take-length zs) in (
        sym (after_empty x)
            ∙ ap (after scheduler x) (sym calls_empty)
            ∙ ap (λ (es : List BatchEntry). after scheduler x (calls_of es)) (sym d)
            ∙ f.state,
        sym (append-nil zs)
            ∙ ap (λ (es : List BatchEntry). es ++ []) (sym t)
            ∙ ap (λ (es : List BatchEntry). take i zs ++ es) (sym (answers_empty x))
            ∙ ap (λ (es : List BatchEntry). take i zs ++ answers x es) (sym d)
            ∙ f.entries,
      )
