-- Histories: what their lines say of events, and when a rule holds of a history.
use Rattle.std.specs.Prelude.{◌&&◌, ◌||◌, ◌∷◌, ◌++◌}
use Rattle.plan.specs.Prelude.{ℕ, Bool, true, false, not, List, [], eqb, ltb, Fate, Open, Rule, Order, Need, Conditional, Entry}
use Rattle.plan.specs.Fates.{is_done, is_settled, same_fate}

-- what an unused place holds
abbrev pub blank_entry : Entry
blank_entry = record { event = 0; fate = Open }

abbrev pub fate_if : Bool → Fate → List Fate
fate_if true x = x ∷ []
fate_if false x = []

-- the fates that a history gives e, one for each line that names it (6.8)
unfoldable pub fates_in : List Entry → ℕ → List Fate
fates_in [] e = []
fates_in (l ∷ ls) e = fate_if (eqb l.event e) l.fate ++ fates_in ls e

unfoldable pub any_done : List Fate → Bool
any_done [] = false
any_done (x ∷ xs) = is_done x || any_done xs

-- e is done in the history (6.8)
unfoldable pub done_in : List Entry → ℕ → Bool
done_in h e = any_done (fates_in h e)

-- a is done in the history, and b is done on a later line (6.8)
unfoldable pub done_in_turn : List Entry → ℕ → ℕ → Bool
done_in_turn [] a b = false
done_in_turn (l ∷ ls) a b =
    (eqb l.event a && is_done l.fate && done_in ls b)
    || done_in_turn ls a b

-- the rule holds of the history. An order is broken if b is done before a, a need if a is done without b, a conditional
-- if both triggers are done without c (6.8)
unfoldable pub holds : List Entry → Rule → Bool
holds h (Order a b) = not (done_in_turn h b a)
holds h (Need a b) = not (done_in h a && not (done_in h b))
holds h (Conditional a b c) = not (done_in h a && done_in h b && not (done_in h c))

-- every line of the history names one of n declared events (10.4)
unfoldable pub declared_only : List Entry → ℕ → Bool
declared_only [] n = true
declared_only (l ∷ ls) n = ltb l.event n && declared_only ls n

unfoldable pub same_fates : List Fate → List Fate → Bool
same_fates [] [] = true
same_fates [] (y ∷ ys) = false
same_fates (x ∷ xs) [] = false
same_fates (x ∷ xs) (y ∷ ys) = same_fate x y && same_fates xs ys

-- if e is settled, the history has exactly one line of e, with its fate; otherwise it has none (10.4)
unfoldable pub listed_as : List Entry → ℕ → Fate → Bool
listed_as h e x = same_fates (fates_in h e) (fate_if (is_settled x) x)
