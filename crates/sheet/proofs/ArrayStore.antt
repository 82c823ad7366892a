-- A store to one element of an array that lies in a cell, for the walks by hand: the element is a part of the cell, and
-- what an array relates to its elements holds of the list with the new one.
use mathlib.Core.Path.{◌≡◌, refl, sym, ◌∙◌, ap, subst}
use Prim.Native.Nat.{ℕ, zero, suc, ◌+◌, ◌<◌}
use native.Mathlib.Nat.{not-suc-le-zero, le_of_suc-le-suc}
use mathlib.Core.List.{List, [], ◌∷◌, map}
use lib.ListN.{length, get_or, set, length-set}
use lib.Seq.{set-get_or}
use seplogic.Ra.Ura.{Ura}
use mir.Syntax.{Ty, ty_array}
use mir.Val.{Val}
use base.Logic.{SProp, ent, sep, wand, all, all_e, apply∗}
use base.Fml.{Share, fat}
use prog.Memory.{size}
use prog.Model.{elems}
use types.Logic.{Logic}
use types.Kit.{Item, ‵, raw, ◌⊛◌, mean, ◌$◌, ◌∵◌, !, qed, move, use1, use2, split, assume, frame, each as for-each, done}
use types.Part.{Part}
use denote.Array.{Array, each, array_val}
use denote.Index.{place}
use denote.Laws.{Is}
use denote.RattleType.{RattleType}
use denote.Shadow.{shadow}

-- f of each after a store
pub map_set : {X Y : Type 0} (f : X → Y) (l : List X) (i : ℕ) (y : X) → set (map f l) i (f y) ≡ map f (set l i y)
map_set f [] i y = refl
map_set f (x ∷ l) zero y = refl
map_set {X} {Y} f (x ∷ l) (suc i) y = ap (λ (r : List Y). f x ∷ r) (map_set f l i y)

-- each element is related to its machine value, and so it is after a store
module _ (R : RattleType) (y : R.Denot) (w : Val) (is : Is R y (w ∷ [])) where
  each_set : (xs : List R.Denot) (us : List Val) (i : ℕ)
      → shadow (each R.Denot R.own_val xs us)
      → shadow (each R.Denot R.own_val (set xs i y) (set us i w))
  each_set [] [] i s = s
  each_set [] (u ∷ us) i s = absurd s
  each_set (x ∷ xs) [] i s = absurd s
  each_set (x ∷ xs) (u ∷ us) zero s = (is, s.1)
  each_set (x ∷ xs) (u ∷ us) (suc i) s = (s.0, each_set xs us i s.1)

  -- the same of an array
  pub array_set : (n : ℕ) (xs : List R.Denot) (vs : List Val) (i : ℕ) (is_all : Is (Array R n) xs vs)
      → Is (Array R n) (set xs i y) (array_val (set is_all.0 i w) ∷ [])
  array_set n xs vs i p = (
    set p.0 i w,
    (
      (refl, length-set xs i y ∙ p.1.0.1),
      each_set xs p.0 i p.1.1,
    ),
  )

-- the cell with any value u gives back the entry, as `back u`
abbrev Way : {M : Type 1} {𝓤 : Ura M} (𝓛 : Logic 𝓤) → Share → Ty → ℕ → ℕ → (Val → Item 𝓤) → SProp 𝓤
Way {𝓤 = 𝓤} 𝓛 q τ b o back = all 𝓤 (λ (u : Val). wand 𝓤 (𝓛.H.at q τ b o u) (mean 𝓛 (back u)))

-- of elements side by side: one can be taken out, and any value put in its place
module _ {M : Type 1} {𝓤 : Ura M} (𝓛 : Logic 𝓤) where
  open 𝓛 use {H}

  elem_way : (q : Share) (τ : Ty) (us : List Val) (i : ℕ) (d : Val) (b o : ℕ) → i < length us
      → ent 𝓤 (elems 𝓤 H q τ b o us)
      (sep 𝓤 (H.at q τ b (place (size τ) o i) (get_or us i d)) (all 𝓤 (λ (u : Val). wand 𝓤 (H.at q τ b (place (size τ) o i) u) (elems 𝓤 H q τ b o (set us i u)))))
  elem_way q τ [] i d b o l = absurd (not-suc-le-zero l)
  elem_way q τ (v ∷ us) zero d b o l =
      qed 𝓛 ((‵ (fat q τ b o v) ⊛ raw (elems 𝓤 H q τ b (o + size τ) us)) ∷ []) ∵ split ! $ frame ! $
      for-each ! (λ (u : Val). wand 𝓤 (H.at q τ b o u) (elems 𝓤 H q τ b o (u ∷ us))) (λ u. assume {P = elems 𝓤 H q τ b o (u ∷ us)} ! (‵ (fat q τ b o u)) $
      frame ! $ done !)
  elem_way q τ (v ∷ us) (suc i) d b o l =
      qed 𝓛 ((‵ (fat q τ b o v) ⊛ raw (elems 𝓤 H q τ b (o + size τ) us)) ∷ []) ∵ split ! $ move ! (1 ∷ []) $
      use1 𝓛 (‵ (fat q τ b (place (size τ) (o + size τ) i) (get_or us i d)) ⊛ raw (all 𝓤 Rest)) (elem_way q τ us i d b (o + size τ) (le_of_suc-le-suc l)) $
      split ! $ frame ! $
      for-each ! (λ (u : Val). wand 𝓤 (H.at q τ b (place (size τ) (o + size τ) i) u) (elems 𝓤 H q τ b o (v ∷ set us i u))) (λ u.
      assume {P = elems 𝓤 H q τ b o (v ∷ set us i u)} ! (‵ (fat q τ b (place (size τ) (o + size τ) i) u)) $
      move ! (1 ∷ []) $ use1 𝓛 (raw (Rest u)) (all_e 𝓤 Rest u) $ move ! (1 ∷ 0 ∷ []) $
      use2 𝓛 (raw (elems 𝓤 H q τ b (o + size τ) (set us i u))) (apply∗ 𝓤 (H.at q τ b (place (size τ) (o + size τ) i) u) (elems 𝓤 H q τ b (o + size τ) (set us i u))) $
      move ! (1 ∷ 0 ∷ []) $ frame ! $ done !)
    where
      Rest : Val → SProp 𝓤
      Rest u = wand 𝓤 (H.at q τ b (place (size τ) (o + size τ) i) u) (elems 𝓤 H q τ b (o + size τ) (set us i u))

-- element i of the array in a cell that p finds, at the offset o'
module _ {M : Type 1} {𝓤 : Ura M} {𝓛 : Logic 𝓤} {K : Type 0} where
  open 𝓛 use {H}

  pub elem : K → {j : Item 𝓤} {q : Share} {τ : Ty} {b o : ℕ} {back : Val → Item 𝓤} (n : ℕ) (us : List Val) (i : ℕ) (d : Val) (o' : ℕ)
      → length us ≡ n → i < n → place (size τ) o i ≡ o'
      → Part K 𝓛 j q (ty_array τ n) b o (array_val us) back → Part K 𝓛 j q τ b o' (get_or us i d) (λ u. back (array_val (set us i u)))
  elem t {j} {q} {τ} {b} {o} {back} n us i d o' k l e p = record {
    out = subst (λ (m : ℕ). ent 𝓤 (mean 𝓛 j) (sep 𝓤 (H.at q τ b m (get_or us i d)) (Way 𝓛 q τ b m (λ u. back (array_val (set us i u)))))) e
        (qed 𝓛 (j ∷ []) ∵ use1 𝓛 (‵ (fat q (ty_array τ n) b o (array_val us)) ⊛ raw (Way 𝓛 q (ty_array τ n) b o back)) p.out $ split ! $
        use1 𝓛 (raw (elems 𝓤 H q τ b o us)) (𝓛.laws.at_elems q τ n b o us) $
        use1 𝓛 (‵ (fat q τ b (place (size τ) o i) (get_or us i d)) ⊛ raw (all 𝓤 Rest)) (elem_way 𝓛 q τ us i d b o (subst (λ (m : ℕ). i < m) (sym k) l)) $
        split ! $ frame ! $
        for-each ! (λ (u : Val). wand 𝓤 (H.at q τ b (place (size τ) o i) u) (mean 𝓛 (back (array_val (set us i u))))) (λ u.
        assume {P = mean 𝓛 (back (array_val (set us i u)))} ! (‵ (fat q τ b (place (size τ) o i) u)) $
        -- [the element's cell with u; the way back to the elements; the way back to the entry]
        move ! (1 ∷ []) $ use1 𝓛 (raw (Rest u)) (all_e 𝓤 Rest u) $ move ! (1 ∷ 0 ∷ []) $
        use2 𝓛 (raw (elems 𝓤 H q τ b o (set us i u))) (apply∗ 𝓤 (H.at q τ b (place (size τ) o i) u) (elems 𝓤 H q τ b o (set us i u))) $
        use1 𝓛 (‵ (fat q (ty_array τ n) b o (array_val (set us i u))))
        (subst (λ (m : ℕ). ent 𝓤 (elems 𝓤 H q τ b o (set us i u)) (H.at q (ty_array τ m) b o (array_val (set us i u)))) (length-set us i u ∙ k) (𝓛.laws.elems_at q τ b o (set us i u))) $
        move ! (1 ∷ []) $ use1 𝓛 (raw (Entry (array_val (set us i u)))) (all_e 𝓤 Entry (array_val (set us i u))) $ move ! (1 ∷ 0 ∷ []) $
        use2 𝓛 (back (array_val (set us i u))) (apply∗ 𝓤 (H.at q (ty_array τ n) b o (array_val (set us i u))) (mean 𝓛 (back (array_val (set us i u))))) $
        done !));
    same = ap (λ (ws : List Val). back (array_val ws)) (set-get_or us i d) ∙ p.same;
  }
    where
      Rest : Val → SProp 𝓤
      Rest u = wand 𝓤 (H.at q τ b (place (size τ) o i) u) (elems 𝓤 H q τ b o (set us i u))

      Entry : Val → SProp 𝓤
      Entry w = wand 𝓤 (H.at q (ty_array τ n) b o w) (mean 𝓛 (back w))
