-- What a history says, line by line.
use Prim.Native.Nat.{ℕ}
use mathlib.Core.Bool.{Bool, true, false, ◌&&◌, ◌||◌, and-false, and_assoc, or-false, or_assoc}
use mathlib.Core.List.{List, [], ◌∷◌, ◌++◌, append_assoc, append-nil}
use mathlib.Core.Path.{◌≡◌, refl, sym, ◌∙◌, ap, ap₂}
use lib.Dec.{eqb, ltb}
use Rattle.plan.specs.Prelude.{Fate, Open, Held, Done, Refused, Lapsed, Forced, Entry}
use Rattle.plan.specs.Fates.{is_done, is_settled, same_fate}
use Rattle.plan.specs.Histories.{fate_if, fates_in, any_done, done_in, done_in_turn, declared_only, same_fates}
use Rattle.plan.proofs.Tests.{clash, and_left, and_right}
use Rattle.plan.proofs.Fates.{fate_same}

-- lines that go on after some
pub declared_append : (h r : List Entry) (n : ℕ) → declared_only (h ++ r) n ≡ (declared_only h n && declared_only r n)
unfolding declared_only
declared_append [] r n = refl
declared_append (k ∷ h) r n = rw (declared_append h r n) (sym (and_assoc (ltb k.event n) (declared_only h n) (declared_only r n)))

pub fates_split : (h r : List Entry) (e : ℕ) → fates_in (h ++ r) e ≡ fates_in h e ++ fates_in r e
unfolding fates_in
fates_split [] r e = refl
fates_split (k ∷ h) r e = rw (fates_split h r e, append_assoc)

-- one more line at the end, and one at the front
pub fates_append : (h : List Entry) (l : Entry) (e : ℕ)
    → fates_in (h ++ (l ∷ [])) e ≡ fates_in h e ++ fate_if (eqb l.event e) l.fate
unfolding fates_in
fates_append h l e = fates_split h (l ∷ []) e ∙ ap (λ xs. fates_in h e ++ xs) (append-nil (fate_if (eqb l.event e) l.fate))

done_append : (xs ys : List Fate) → any_done (xs ++ ys) ≡ (any_done xs || any_done ys)
unfolding any_done
done_append [] ys = refl
done_append (x ∷ xs) ys = rw (done_append xs ys) (sym (or_assoc (is_done x) (any_done xs) (any_done ys)))

done_if : (t : Bool) (x : Fate) → any_done (fate_if t x) ≡ (t && is_done x)
unfolding any_done
done_if true x = or-false (is_done x)
done_if false x = refl

pub done_in-append : (h : List Entry) (l : Entry) (e : ℕ)
    → done_in (h ++ (l ∷ [])) e ≡ (done_in h e || (eqb l.event e && is_done l.fate))
unfolding done_in
done_in-append h l e = rw (fates_append h l e, done_append, done_if)

done_in-cons : (h : List Entry) (k : Entry) (e : ℕ)
    → done_in (k ∷ h) e ≡ ((eqb k.event e && is_done k.fate) || done_in h e)
unfolding done_in fates_in
done_in-cons h k e = rw (done_append, done_if)

pub done_in-none : (e : ℕ) → done_in [] e ≡ false
unfolding done_in fates_in any_done
done_in-none e = refl

pub turn_append : (h : List Entry) (l : Entry) (a b : ℕ)
    → done_in_turn (h ++ (l ∷ [])) a b ≡ (done_in_turn h a b || (done_in h a && (eqb l.event b && is_done l.fate)))
unfolding done_in_turn
turn_append [] l a b =
    rw (done_in-none a, done_in-none b)
    (or-false (eqb l.event a && is_done l.fate && false) ∙ and-false (eqb l.event a && is_done l.fate))
turn_append (k ∷ h) l a b =
    rw (done_in-append h l b, turn_append h l a b, done_in-cons h k a)
    (joined (eqb k.event a && is_done k.fate) (done_in h b) (eqb l.event b && is_done l.fate) (done_in_turn h a b) (done_in h a))
  where
    joined : (k d l t a : Bool) → ((k && (d || l)) || (t || (a && l))) ≡ (((k && d) || t) || ((k || a) && l))
    joined true true l t a = refl
    joined true false true true a = refl
    joined true false true false a = refl
    joined true false false true a = refl
    joined true false false false a = and-false a
    joined false d l t a = refl

-- fates in a row that test the same are the same, and say what is done
pub fates_same : (xs ys : List Fate) → same_fates xs ys ≡ true → xs ≡ ys
unfolding same_fates
fates_same [] [] h = refl
fates_same [] (y ∷ ys) h = absurd (clash h refl)
fates_same (x ∷ xs) [] h = absurd (clash h refl)
fates_same (x ∷ xs) (y ∷ ys) h =
    ap₂ (λ a l. a ∷ l) (fate_same x y (and_left (same_fate x y) (same_fates xs ys) h))
    (fates_same xs ys (and_right (same_fate x y) (same_fates xs ys) h))

pub done_settled_if : (x : Fate) → any_done (fate_if (is_settled x) x) ≡ is_done x
unfolding any_done
done_settled_if Open = refl
done_settled_if Held = refl
done_settled_if Done = refl
done_settled_if Refused = refl
done_settled_if Lapsed = refl
done_settled_if Forced = refl
