-- One pass over the lines of a history: what it has told after some lines, and at its end.
use Prim.Native.Nat.{ℕ, ◌+◌, ◌≤◌, ◌<◌, min}
use native.Mathlib.Omega.{arith}
use native.Mathlib.Decide.{ℕ_discrete, dec_lt}
use borrow.Author.Tests.{lt-ltb, le-ltb, ltb-false, leb-true, leb-false, eq-eqb, ne_eqb, not-false}
use mathlib.Core.Bool.{Bool, true, false, not, ◌&&◌, ◌||◌, cond, and-true, and-false, or-false}
use mathlib.Core.List.{List, [], ◌∷◌, ◌++◌, append-nil}
use mathlib.Core.Logic.{◌≢◌, ◌⊎◌, inl, inr}
use mathlib.Core.Path.{◌≡◌, refl, sym, ◌∙◌, ap}
use lib.Dec.{eqb, ltb, leb}
use lib.ListN.{length, take, drop, get_or, set, replicate, length-set, length-replicate}
use lib.Seq.{get_or-set_same, get_or-set_other, get_or-take}
use Rattle.std.proofs.lemmas.List.{length-take}
use Rattle.std.specs.Prelude.{None}
use Rattle.coherence.specs.Prelude.{Fate, Open, Standing, Entry}
use Rattle.plan.specs.Base.{read_at}
use Rattle.plan.specs.Fates.{Fates, is_done, is_settled, same_fate, fate_number, blank_standing, fates_of}
use Rattle.plan.specs.Histories.{blank_entry, fate_if, fates_in, any_done, done_in, done_in_turn, declared_only, same_fates, listed_as}
use Rattle.coherence.specs.Listings.{Placed, place_in, Told, Listed}
use Rattle.plan.proofs.Tests.{clash, or_either, or_left, or_right, and_left, and_right}
use Rattle.plan.proofs.Arrays.{read_past, read_in, read_blank}
use Rattle.plan.proofs.Fates.{fate_same}
use Rattle.plan.proofs.Loops.{all_fail}
use Rattle.plan.proofs.Lines.{declared_append, fates_append, done_in-append, done_in-none, turn_append}
use Rattle.coherence.proofs.Lines.{lines_next, lines_cut, lines_all, undeclared_line, wrong_line}

-- after a store that the code makes within the array
module _ {A : Type 0} (n : ℕ) (l : List A) (i : ℕ) (a d : A) where
  set_same : i < length l → i < n → read_at n (set l i a) i d ≡ a
  set_same h lt = read_in n (set l i a) i d lt ∙ get_or-set_same l i a d h

  set_other : (j : ℕ) → j ≢ i → read_at n (set l i a) j d ≡ read_at n l j d
  set_other j ne = ap (λ x. cond (ltb j n) x d) (get_or-set_other l i j a d ne)

-- the places after one line more: the same, where it is not of an event that is done
module _ (h : List Entry) (l : Entry) (place : ℕ → ℕ) (p : Placed h place) where
  placed_gone : is_done l.fate ≡ false → Placed (h ++ (l ∷ [])) place
  placed_gone gone = record {
    done = λ e. done_in-append h l e ∙ rw (gone, and-false (eqb l.event e), or-false) (p.done e);
    turn = λ a b. turn_append h l a b ∙ rw (gone, and-false (eqb l.event b), and-false (done_in h a), or-false) (p.turn a b);
  }

  -- and where it is, that event comes last
  module _ (i : ℕ) (few : (e : ℕ) → place e ≤ i) (is : is_done l.fate ≡ true) (fresh : done_in h l.event ≡ false)
      (next : ℕ → ℕ) (here : next l.event ≡ i + 1) (other : (e : ℕ) → e ≢ l.event → next e ≡ place e) where
    next_few : (e : ℕ) → next e ≤ i + 1
    next_few e = elim (ℕ_discrete e l.event) [
      | yes q ↦ rw (q, here) (omega arith)
      | no ne ↦ rw (other e ne) (omega (arith, few e))
    ]

    none : ltb 0 (place l.event) ≡ false
    none = sym (p.done l.event) ∙ fresh

    last : (e : ℕ) → ltb (next l.event) (next e) ≡ false
    last e = rw here (le-ltb (i + 1) (next e) (next_few e))

    first : (e : ℕ) → e ≢ l.event → ltb (next e) (next l.event) ≡ true
    first e ne = rw (here, other e ne) (lt-ltb (place e) (i + 1) (omega (arith, few e)))

    before : (e : ℕ) → done_in_turn h l.event e ≡ false
    before e = p.turn l.event e ∙ rw none

    after : (e : ℕ) → done_in_turn h e l.event ≡ false
    after e =
        p.turn e l.event
        ∙ rw (le-ltb (place e) (place l.event) (omega (arith, ltb-false 0 (place l.event) none)))
        (and-false (ltb 0 (place e)))

    done_next : (e : ℕ) → (done_in h e || (eqb l.event e && is_done l.fate)) ≡ ltb 0 (next e)
    done_next e = elim (ℕ_discrete e l.event) [
      | yes q ↦ rw (q, fresh, eq-eqb l.event l.event refl, is, here) (sym (lt-ltb 0 (i + 1) (omega arith)))
      | no ne ↦ rw (ne_eqb l.event e (λ q. ne (sym q)), other e ne, or-false) (p.done e)
    ]

    turn_next : (a b : ℕ)
        → (done_in_turn h a b || (done_in h a && (eqb l.event b && is_done l.fate))) ≡ (ltb 0 (next a) && ltb (next a) (next b))
    turn_next a b = elim (ℕ_discrete a l.event) [
      | yes q ↦ rw (q, before b, fresh, last b) (sym (and-false (ltb 0 (next l.event))))
      | no ne ↦ elim (ℕ_discrete b l.event) [
        | yes q ↦ rw (q, after a, eq-eqb l.event l.event refl, is, first a ne, other a ne, and-true (done_in h a), and-true (ltb 0 (place a))) (p.done a)
        | no nb ↦ rw (ne_eqb l.event b (λ q. nb (sym q)), other a ne, other b nb, and-false, or-false) (p.turn a b)
      ]
    ]

    placed_done : Placed (h ++ (l ∷ [])) next
    placed_done = record {
      done = λ e. done_in-append h l e ∙ done_next e;
      turn = λ a b. turn_append h l a b ∙ turn_next a b;
    }

-- after the first i lines: n events are declared, f are their fates, `has` says which have a line
pub record Passed (h : List Entry) (i n : ℕ) (f : Fates) (has : ℕ → Bool) (place : ℕ → ℕ) : Type 0 where
  pub declared : declared_only h n ≡ true
  pub fates : (e : ℕ) → fates_in h e ≡ fate_if (has e) (f e)
  pub settled : (e : ℕ) → has e ≡ true → is_settled (f e) ≡ true
  pub placed : Placed h place
  pub few : (e : ℕ) → place e ≤ i

module _ (n : ℕ) (f : Fates) where
  passed_none : (has : ℕ → Bool) (place : ℕ → ℕ)
      → ((e : ℕ) → has e ≡ false)
      → ((e : ℕ) → place e ≡ 0)
      → Passed [] 0 n f has place
  unfolding declared_only fates_in done_in_turn
  passed_none has place unlisted unplaced = record {
    declared = refl;
    fates = λ e. rw (unlisted e);
    settled = λ e is. absurd (clash is (unlisted e));
    placed = record { done = λ e. done_in-none e ∙ rw (unplaced e); turn = λ a b. rw (unplaced a) };
    few = λ e. rw (unplaced e) (omega arith);
  }

  module _ (h : List Entry) (i : ℕ) (has : ℕ → Bool) (place : ℕ → ℕ) (p : Passed h i n f has place) where
    -- an event without a line is not done
    unlisted_not : (e : ℕ) → has e ≡ false → done_in h e ≡ false
    unfolding done_in any_done
    unlisted_not e free = rw (p.fates e, free)

    -- a line more
    module _ (l : Entry) (lt : l.event < n) (free : has l.event ≡ false) (due : is_settled (f l.event) ≡ true)
        (same : l.fate ≡ f l.event) (had : ℕ → Bool) (here : had l.event ≡ true)
        (other : (e : ℕ) → e ≢ l.event → had e ≡ has e) where
      declared_next : declared_only (h ++ (l ∷ [])) n ≡ true
      unfolding declared_only
      declared_next = declared_append h (l ∷ []) n ∙ rw (p.declared, lt-ltb l.event n lt)

      fates_next : (e : ℕ) → fates_in (h ++ (l ∷ [])) e ≡ fate_if (had e) (f e)
      fates_next e =
          fates_append h l e
          ∙ elim (ℕ_discrete e l.event) [
            | yes q ↦ rw (q, p.fates l.event, free, here, eq-eqb l.event l.event refl, same)
            | no ne ↦ rw (ne_eqb l.event e (λ q. ne (sym q)), append-nil, other e ne) (p.fates e)
          ]

      settled_next : (e : ℕ) → had e ≡ true → is_settled (f e) ≡ true
      settled_next e is = elim (ℕ_discrete e l.event) [
        | yes q ↦ rw q due
        | no ne ↦ p.settled e (sym (other e ne) ∙ is)
      ]

      passed_gone : is_done (f l.event) ≡ false → Passed (h ++ (l ∷ [])) (i + 1) n f had place
      passed_gone gone = record {
        declared = declared_next;
        fates = fates_next;
        settled = settled_next;
        placed = placed_gone h l place p.placed (ap is_done same ∙ gone);
        few = λ e. omega (arith, p.few e);
      }

      passed_done : is_done (f l.event) ≡ true
          → (next : ℕ → ℕ)
          → next l.event ≡ i + 1
          → ((e : ℕ) → e ≢ l.event → next e ≡ place e)
          → Passed (h ++ (l ∷ [])) (i + 1) n f had next
      passed_done is next at rest = record {
        declared = declared_next;
        fates = fates_next;
        settled = settled_next;
        placed = placed_done h l place p.placed i p.few (ap is_done same ∙ is) (unlisted_not l.event free) next at rest;
        few = next_few h l place p.placed i p.few (ap is_done same ∙ is) (unlisted_not l.event free) next at rest;
      }

    -- after all lines
    listed_if : (e : ℕ) → listed_as h e (f e) ≡ not (is_settled (f e) && not (has e))
    unfolding listed_as same_fates
    listed_if e = rw (p.fates e) (go (has e) (is_settled (f e)) (p.settled e))
      where
        go : (t s : Bool)
            → (t ≡ true → s ≡ true)
            → same_fates (fate_if t (f e)) (fate_if s (f e)) ≡ not (s && not t)
        go true true due = rw (eq-eqb (fate_number (f e)) (fate_number (f e)) refl)
        go true false due = absurd (clash (due refl) refl)
        go false true due = refl
        go false false due = refl

-- an event that is declared and has a place
pub in_place : (n e : ℕ) → (leb 16 e || leb n e) ≡ false → (e < 16) × (e < n)
in_place n e h = (leb-false 16 e (or_left (leb 16 e) (leb n e) h), leb-false n e (or_right (leb 16 e) (leb n e) h))

-- the pass over the arrays, as code makes it: its start, a line, and its ends
pub record Turn (history : List Entry) (len count : ℕ) (standings : List Standing) (listed : List Bool) (places : List ℕ) (i : ℕ) : Type 0 where
  pub listed_len : length listed ≡ 16
  pub places_len : length places ≡ 16
  pub passed : Passed (take i (take len history)) i count (fates_of standings) (λ e. read_at 16 listed e false) (place_in places)

module _ (history : List Entry) (len count : ℕ) (standings : List Standing) where
  pub turn_start : Turn history len count standings (replicate 16 false) (replicate 16 0) 0
  turn_start = record {
    listed_len = length-replicate 16 false;
    places_len = length-replicate {A = ℕ} 16 0;
    passed = passed_none count (fates_of standings) _ _ (read_blank 16 false) (read_blank 16 0);
  }

  module _ (whole : length history ≡ 16) (listed : List Bool) (places : List ℕ) (i : ℕ)
      (t : Turn history len count standings listed places i) where
    pub turn_all : (n : ℕ)
        → n ≡ min len 16
        → length (take n history) ≤ i
        → Told (take len history) count (fates_of standings) (record { listed = listed; places = places })
    turn_all n few ge = told (rw (lines_all history len i whole (omega (arith, length-take n history))) at t.passed)
      where
        told : Passed (take len history) i count (fates_of standings) (λ e. read_at 16 listed e false) (place_in places)
            → Told (take len history) count (fates_of standings) (record { listed = listed; places = places })
        told p = record {
          declared = p.declared;
          events = listed_if count (fates_of standings) (take len history) i _ _ p;
          placed = p.placed;
        }

    -- a line shows the history wrong
    fail_declared : declared_only (take len history) count ≡ false
        → Listed (take len history) count (fates_of standings) None
    fail_declared f = rw f

    fail_listed : (e : ℕ)
        → e < count
        → listed_as (take len history) e (fates_of standings e) ≡ false
        → Listed (take len history) count (fates_of standings) None
    fail_listed e lt f =
        rw (all_fail count (λ k. listed_as (take len history) k (fates_of standings k)) e lt f)
        (and-false (declared_only (take len history) count))

    -- a line that the code reads, of the n lines that a length stands for
    module _ (n : ℕ) (few : n ≡ min len 16) (within : i < length (take n history))
        (l : Entry) (read : l ≡ get_or (take n history) i blank_entry) where
      more : i < min len 16
      more = omega (arith, length-take n history)

      is : get_or history i blank_entry ≡ l
      is = sym (read ∙ get_or-take n history i blank_entry (omega (arith, more)))

      cut : take len history ≡ take i (take len history) ++ (l ∷ drop (i + 1) (take len history))
      cut =
          lines_cut history len i whole more
          ∙ ap (λ k. take i (take len history) ++ (k ∷ drop (i + 1) (take len history))) is

      wrong_listed : (x : Fate) (b : Bool)
          → fates_of standings l.event ≡ x
          → read_at 16 listed l.event false ≡ b
          → (b || not (is_settled x && same_fate l.fate x)) ≡ true
          → listed_as (take len history) l.event (fates_of standings l.event) ≡ false
      wrong_listed x b fate has w =
          ap (λ ls. listed_as ls l.event (fates_of standings l.event)) cut
          ∙ wrong_line (take i (take len history)) (drop (i + 1) (take len history)) l (fates_of standings l.event)
          (read_at 16 listed l.event false) (t.passed.fates l.event) (rw (fate, has) w)

      pub turn_undeclared : (leb 16 l.event || leb count l.event) ≡ true
          → Listed (take len history) count (fates_of standings) None
      turn_undeclared w = elim (dec_lt l.event count) [
        | no ge ↦ fail_declared (ap (λ ls. declared_only ls count) cut
            ∙ undeclared_line (take i (take len history)) (drop (i + 1) (take len history)) l count (omega arith))
        | yes lt ↦ fail_listed l.event lt (wrong_listed Open false
            (ap (λ (v : Standing). v.fate) (read_past 16 standings l.event blank_standing (past lt (or_either (leb 16 l.event) (leb count l.event) w))))
            (read_past 16 listed l.event false (past lt (or_either (leb 16 l.event) (leb count l.event) w))) refl)
      ]
        where
          past : l.event < count → (leb 16 l.event ≡ true) ⊎ (leb count l.event ≡ true) → 16 ≤ l.event
          past lt (inl a) = leb-true 16 l.event a
          past lt (inr a) = absurd (omega (arith, leb-true count l.event a))

      -- or it could stand there; x is the fate that the array gives its event
      module _ (x : Fate) (fate : (get_or standings l.event blank_standing).fate ≡ x)
          (in-range : (leb 16 l.event || leb count l.event) ≡ false) where
        inside : l.event < 16
        inside = (in_place count l.event in-range).0

        known : l.event < count
        known = (in_place count l.event in-range).1

        fate_is : fates_of standings l.event ≡ x
        fate_is = ap (λ (v : Standing). v.fate) (read_in 16 standings l.event blank_standing inside) ∙ fate

        has_is : read_at 16 listed l.event false ≡ get_or listed l.event false
        has_is = read_in 16 listed l.event false inside

        pub turn_wrong : (get_or listed l.event false || not (is_settled x && same_fate l.fate x)) ≡ true
            → Listed (take len history) count (fates_of standings) None
        turn_wrong w = fail_listed l.event known (wrong_listed x _ fate_is has_is w)

        module _ (w : (get_or listed l.event false || not (is_settled x && same_fate l.fate x)) ≡ false) where
          right : (is_settled x && same_fate l.fate x) ≡ true
          right = not-false (is_settled x && same_fate l.fate x) (or_right (get_or listed l.event false) (not (is_settled x && same_fate l.fate x)) w)

          due : is_settled (fates_of standings l.event) ≡ true
          due = rw fate_is (and_left (is_settled x) (same_fate l.fate x) right)

          same : l.fate ≡ fates_of standings l.event
          same = fate_same l.fate x (and_right (is_settled x) (same_fate l.fate x) right) ∙ sym fate_is

          free : read_at 16 listed l.event false ≡ false
          free = has_is ∙ or_left (get_or listed l.event false) (not (is_settled x && same_fate l.fate x)) w

          listed_next : (next : List ℕ)
              → length next ≡ 16
              → Passed (take i (take len history) ++ (l ∷ [])) (i + 1) count (fates_of standings) (λ e. read_at 16 (set listed l.event true) e false) (place_in next)
              → Turn history len count standings (set listed l.event true) next (i + 1)
          listed_next next size passed = record {
            listed_len = length-set listed l.event true ∙ t.listed_len;
            places_len = size;
            passed = rw (lines_next history len i whole more, is) passed;
          }

          pub turn_gone : is_done x ≡ false
              → (next : List ℕ)
              → next ≡ places
              → Turn history len count standings (set listed l.event true) next (i + 1)
          turn_gone gone next e =
              rw e
              (listed_next places t.places_len
              (passed_gone count (fates_of standings) (take i (take len history)) i _ _ t.passed l known free due same _
              (set_same 16 listed l.event true false (omega (arith, t.listed_len, inside)) inside)
              (set_other 16 listed l.event true false)
              (ap is_done fate_is ∙ gone)))

          pub turn_done : is_done x ≡ true
              → (next : List ℕ)
              → next ≡ set places l.event (i + 1)
              → Turn history len count standings (set listed l.event true) next (i + 1)
          turn_done done next e =
              rw e
              (listed_next (set places l.event (i + 1)) (length-set places l.event (i + 1) ∙ t.places_len)
              (passed_done count (fates_of standings) (take i (take len history)) i _ _ t.passed l known free due same _
              (set_same 16 listed l.event true false (omega (arith, t.listed_len, inside)) inside)
              (set_other 16 listed l.event true false)
              (ap is_done fate_is ∙ done) _
              (set_same 16 places l.event (i + 1) 0 (omega (arith, t.places_len, inside)) inside)
              (set_other 16 places l.event (i + 1) 0)))
