-- A fate as its test says it.
use Prim.Native.Nat.{ℕ}
use borrow.Author.Tests.{eqb-true}
use mathlib.Core.Bool.{Bool, true, false, not, ◌||◌}
use mathlib.Core.List.{[], ◌∷◌}
use mathlib.Core.Path.{◌≡◌, refl, sym, ◌∙◌, ap}
use lib.ListN.{get_or}
use denote.Enum.Bare.{sameb}
use denote.Enum.Declared.{tag_of}
use Rattle.plan.specs.contracts.fate.Fate.{the_type}
use Rattle.plan.specs.Prelude.{Fate, Open, Held, Done, Refused, Lapsed, Forced}
use Rattle.plan.specs.Fates.{is_open, is_held, is_done, is_gone, done_as, fate_number, same_fate}
use Rattle.plan.proofs.Tests.{clash}

pub held_is : (x : Fate) → is_held x ≡ true → x ≡ Held
held_is Open h = absurd (clash h refl)
held_is Held h = refl
held_is Done h = absurd (clash h refl)
held_is Refused h = absurd (clash h refl)
held_is Lapsed h = absurd (clash h refl)
held_is Forced h = absurd (clash h refl)

pub open_is : (x : Fate) → is_open x ≡ true → x ≡ Open
open_is Open h = refl
open_is Held h = absurd (clash h refl)
open_is Done h = absurd (clash h refl)
open_is Refused h = absurd (clash h refl)
open_is Lapsed h = absurd (clash h refl)
open_is Forced h = absurd (clash h refl)

-- done is what is none of the others
pub done_else : (x : Fate) → not ((is_open x || is_held x) || is_gone x) ≡ is_done x
done_else Open = refl
done_else Held = refl
done_else Done = refl
done_else Refused = refl
done_else Lapsed = refl
done_else Forced = refl

-- what is the same of done and of forced is so of whatever an order gives
pub as_done : {A : Type 0} (t : Fate → A) → t Forced ≡ t Done → (opened : Bool) → t (done_as opened) ≡ t Done
as_done t h true = h
as_done t h false = refl

-- fates that test the same are the same
abbrev fate_at : ℕ → Fate
fate_at n = get_or (Open ∷ Held ∷ Done ∷ Refused ∷ Lapsed ∷ Forced ∷ []) n Open

fate_number_lem : (x : Fate) → fate_at (fate_number x) ≡ x
fate_number_lem Open = refl
fate_number_lem Held = refl
fate_number_lem Done = refl
fate_number_lem Refused = refl
fate_number_lem Lapsed = refl
fate_number_lem Forced = refl

pub fate_same : (x y : Fate) → same_fate x y ≡ true → x ≡ y
fate_same x y h = sym (fate_number_lem x) ∙ ap fate_at (eqb-true (fate_number x) (fate_number y) h) ∙ fate_number_lem y

-- the code's `==` tests the same
number_is : (x : Fate) → tag_of the_type x ≡ fate_number x
number_is Open = refl
number_is Held = refl
number_is Done = refl
number_is Refused = refl
number_is Lapsed = refl
number_is Forced = refl

pub equal_is : (x y : Fate) → sameb the_type x y ≡ same_fate x y
equal_is x y = rw (number_is x, number_is y)
