-- A call in a walk by hand, as one step: the callee's contract fixes the value of its result.
use Rattle.std.specs.Prelude.{◌≡◌, refl, Bool, true, false, not, List, [], ◌∷◌, T as Holds}
use Rattle.std.proofs.Common.{sym, ap, subst}
use seplogic.Ra.Ura.{Ura}
use mir.Syntax.{Callee, Place, Opd as Operand, Body, skip, seq, assign, block, loop, cond, switch, exit, return, call, unreachable, call_v, lend_static}
use mir.Val.{Val}
use base.Logic.{SProp, ent, sep, emp, id⊢, via, ex_e, snd∗, emp∗, comm∗, mono∗, mono_l}
use prog.Wp.{Env, Calls, Loops}
use types.Logic.{Logic, sem}
use contract.Monad.{fact}
use sound.WpLaws.{FmC}
use types.Kit.{Item, ‵, raw, mean, ◌⊛◌, some, later as in-time, Post, Goal, runs, lands, settles, Soaks, Seq, ◌$◌, use1, await, pick, split, move, rewrite}
use types.Run.{Opds}
use Rattle.std.specs.Borrow.{RattleType}
use denote.Laws.{Is, shows}
use denote.Signature.{type_at}
use denote.Steps.{only, heard, peeks}
use denote.Triple.Statement.{Contract, Triple}
use denote.Triple.Bound.{passed}
use denote.Triple.Entry.{Res, alive}
use denote.Triple.Spec.{triple_of}
use denote.Triple.Clauses.{Ended, Clauses, Lasts, at_exit, lasts, ensured, closing}
use denote.Triple.Call.{calls_from, calls_from_last}

-- what stands after the first statement of a body
abbrev pub later : Body → Body
later skip = skip
later (seq a b) = b
later (assign p r) = skip
later (block b) = skip
later (loop b) = skip
later (cond c a b) = skip
later (switch c a) = skip
later (exit n) = skip
later return = skip
later (call f a d) = skip
later unreachable = skip
later (call_v f s a d) = skip
later (lend_static p t c) = skip

-- what a branch tells of its test
pub is_true : (b : Bool) → Holds b → b ≡ true
is_true true h = refl
is_true false h = absurd h

pub is_false : (b : Bool) → Holds (not b) → b ≡ false
is_false true h = absurd h
is_false false h = refl

-- what is had for nothing: two things, and one beside what is there
pub both_had : {M : Type 1} (𝓤 : Ura M) {P Q : SProp 𝓤} → ent 𝓤 (emp 𝓤) P → ent 𝓤 (emp 𝓤) Q → ent 𝓤 (emp 𝓤) (sep 𝓤 P Q)
both_had 𝓤 h k = via 𝓤 (sep 𝓤 (emp 𝓤) (emp 𝓤)) (emp∗ 𝓤 (emp 𝓤)) (mono∗ 𝓤 h k)

pub had_beside : {M : Type 1} (𝓤 : Ura M) (P : SProp 𝓤) {Q : SProp 𝓤} → ent 𝓤 (emp 𝓤) Q → ent 𝓤 P (sep 𝓤 P Q)
had_beside 𝓤 P {Q} h = via 𝓤 (sep 𝓤 (emp 𝓤) P) (emp∗ 𝓤 P) (via 𝓤 (sep 𝓤 Q P) (mono_l 𝓤 P h) (comm∗ 𝓤 Q P))

-- what a callee asks that has no lifetime and no `requires`: what its parameters own, had for nothing
pub lone : {M : Type 1} (𝓤 : Ura M) {P : SProp 𝓤} → ent 𝓤 (emp 𝓤) P → ent 𝓤 (emp 𝓤) (sep 𝓤 (sep 𝓤 (emp 𝓤) P) (emp 𝓤))
lone 𝓤 {P} h =
    via 𝓤 P h
    (via 𝓤 (sep 𝓤 (emp 𝓤) P) (emp∗ 𝓤 P)
    (via 𝓤 (sep 𝓤 (emp 𝓤) (sep 𝓤 (emp 𝓤) P)) (emp∗ 𝓤 (sep 𝓤 (emp 𝓤) P)) (comm∗ 𝓤 (emp 𝓤) (sep 𝓤 (emp 𝓤) P))))

module _ {M : Type 1} {𝓤 : Ura M} (𝓛 : Logic 𝓤) (T : Ended) (c : Clauses 𝓤 T) where
  abbrev pub Its : Contract 𝓤
  Its = triple_of 𝓛 T.signature (closing 𝓛 T c)

  module _ (y : Its.Ghost) where
    -- the result's type, and the tokens that come back
    abbrev pub Row : RattleType
    Row = type_at T.signature.result y.0.0

    abbrev pub Tokens : SProp 𝓤
    Tokens = alive 𝓛 T.signature y.0.0 y.0.1

    -- the `ensures` says, at any last values, that the result is x
    abbrev pub Says : Res T.signature y.0.0 → Type 1
    Says x = (r : Res T.signature y.0.0) (ws : Lasts T y.0.0 y.0.3)
        → ent 𝓤 ((c y.0.0 y.0.3).ensures y.1 r (at_exit T y.0.0 y.0.3 ws)) (fact 𝓤 (r ≡ x))

    -- the machine value of x is v
    abbrev pub Tells : Res T.signature y.0.0 → Val → Type 0
    Tells x v = (us : List Val) → Is Row x us → us ≡ v ∷ []

module _ {M : Type 1} {𝓤 : Ura M} {𝓛 : Logic 𝓤} {K : Type 0} {Γ : List (Item 𝓤)} where
  -- once the call has returned, what x owns and the tokens stand in the context
  open 𝓛 use {H}

  landed : K
      → (T : Ended) (c : Clauses 𝓤 T) (y : (Its 𝓛 T c).Ghost) (x : Res T.signature y.0.0) (v : Val) (G : Val → Goal 𝓤 H)
      → ((u : Val) → Soaks (G u)) → Says 𝓛 T c y x → Tells 𝓛 T c y x v
      → (Is (Row 𝓛 T c y) x (v ∷ []) → Seq K 𝓛 (‵ ((Row 𝓛 T c y).own_val x (v ∷ [])) ∷ raw (Tokens 𝓛 T c y) ∷ Γ) (G v))
      → (u : Val) → Seq K 𝓛 (raw ((Its 𝓛 T c).post y u) ∷ Γ) (G u)
  landed t T c y x v G z says tells k u =
      use1 𝓛
      (in-time
      (some (λ (r : Res T.signature y.0.0).
      (raw (Tokens 𝓛 T c y) ⊛ ‵ ((Row 𝓛 T c y).own_val r (u ∷ [])))
      ⊛ raw (ensured 𝓛 T c y.0.0 y.0.3 y.1 r))))
      (id⊢ 𝓤 _) $
      await t (z u) $ pick t (λ r. split t $ move t (1 ∷ []) $
      use1 𝓛 (raw (fact 𝓤 (r ≡ x)))
      (ex_e 𝓤 _ (λ ws.
      via 𝓤 ((c y.0.0 y.0.3).ensures y.1 r (at_exit T y.0.0 y.0.3 ws))
      (snd∗ 𝓤 (sem 𝓛 (lasts T y.0.0 y.0.3 ws))
      ((c y.0.0 y.0.3).ensures y.1 r (at_exit T y.0.0 y.0.3 ws)))
      (says r ws))) $
      heard t (r ≡ x) (λ e. split t $ move t (1 ∷ []) $
      rewrite t 0 (λ (r' : Res T.signature y.0.0). ‵ ((Row 𝓛 T c y).own_val r' (u ∷ []))) e refl $
      peeks t (Row 𝓛 T c y) (Is (Row 𝓛 T c y)) (shows 𝓛 (Row 𝓛 T c y)) x (u ∷ []) (λ is.
      subst (λ (w : Val). Seq K 𝓛 (‵ ((Row 𝓛 T c y).own_val x (w ∷ [])) ∷ raw (Tokens 𝓛 T c y) ∷ Γ) (G w))
      (sym (ap only (tells (u ∷ []) is)))
      (k (subst (λ (w : Val). Is (Row 𝓛 T c y) x (w ∷ [])) (ap only (tells (u ∷ []) is)) is)))))

  module _ {E : Env 𝓤 H} {C : Calls 𝓤 H} {f : Callee} {xs : List Operand} {Λ : Loops 𝓤 H} {q : Post 𝓤 H} {d : Place} where
    -- a call: the callee's theorem, what it is passed (y), the result (x, v), and an item i of the context that gives
    -- what it asks
    pub calls_known : K → FmC 𝓤 H 𝓛.laws C → {rest : Body} (T : Ended) (c : Clauses 𝓤 T)
        → Triple 𝓤 (C f) (Its 𝓛 T c)
        → (y : (Its 𝓛 T c).Ghost) (x : Res T.signature y.0.0) (v : Val)
        → (i : Item 𝓤) → ent 𝓤 (mean 𝓛 i) ((Its 𝓛 T c).pre y) → Says 𝓛 T c y x
        → Tells 𝓛 T c y x v → Opds K 𝓛 (i ∷ Γ) E xs (passed 𝓛 T.signature y.0)
        → (Is (Row 𝓛 T c y) x (v ∷ []) → Seq K 𝓛 (‵ ((Row 𝓛 T c y).own_val x (v ∷ [])) ∷ raw (Tokens 𝓛 T c y) ∷ Γ) (lands C Λ E d v rest q))
        → Seq K 𝓛 (i ∷ Γ) (runs C Λ E (seq (call f xs d) rest) q)
    calls_known t fm {rest} T c met y x v i gives says tells os k =
        calls_from t fm i (passed 𝓛 T.signature y.0) ((Its 𝓛 T c).post y)
        (via 𝓤 ((Its 𝓛 T c).pre y) gives (met y)) os
        (landed t T c y x v (λ w. lands C Λ E d w rest q) (λ _. tt) says tells k)

    -- the same for the last statement of its part
    pub calls_known_last : K → FmC 𝓤 H 𝓛.laws C → (T : Ended) (c : Clauses 𝓤 T)
        → Triple 𝓤 (C f) (Its 𝓛 T c)
        → (y : (Its 𝓛 T c).Ghost) (x : Res T.signature y.0.0) (v : Val)
        → (i : Item 𝓤) → ent 𝓤 (mean 𝓛 i) ((Its 𝓛 T c).pre y) → Says 𝓛 T c y x
        → Tells 𝓛 T c y x v → Opds K 𝓛 (i ∷ Γ) E xs (passed 𝓛 T.signature y.0)
        → (Is (Row 𝓛 T c y) x (v ∷ []) → Seq K 𝓛 (‵ ((Row 𝓛 T c y).own_val x (v ∷ [])) ∷ raw (Tokens 𝓛 T c y) ∷ Γ) (settles E d v q))
        → Seq K 𝓛 (i ∷ Γ) (runs C Λ E (call f xs d) q)
    calls_known_last t fm T c met y x v i gives says tells os k =
        calls_from_last t fm i (passed 𝓛 T.signature y.0) ((Its 𝓛 T c).post y)
        (via 𝓤 ((Its 𝓛 T c).pre y) gives (met y)) os
        (landed t T c y x v (λ w. settles E d w q) (λ _. tt) says tells k)

    -- the callee keeps a `&mut`: its contract fixes the last values w too, and what says them stands after the tokens
    pub calls_known_mut : K → FmC 𝓤 H 𝓛.laws C → {rest : Body} (T : Ended) (c : Clauses 𝓤 T)
        → Triple 𝓤 (C f) (Its 𝓛 T c)
        → (y : (Its 𝓛 T c).Ghost) (x : Res T.signature y.0.0) (v : Val) (w : Lasts T y.0.0 y.0.3)
        → (i : Item 𝓤) → ent 𝓤 (mean 𝓛 i) ((Its 𝓛 T c).pre y)
        → ((r : Res T.signature y.0.0) (ws : Lasts T y.0.0 y.0.3)
        → ent 𝓤 ((c y.0.0 y.0.3).ensures y.1 r (at_exit T y.0.0 y.0.3 ws)) (fact 𝓤 ((r ≡ x) × (ws ≡ w))))
        → Tells 𝓛 T c y x v → Opds K 𝓛 (i ∷ Γ) E xs (passed 𝓛 T.signature y.0)
        → (Is (Row 𝓛 T c y) x (v ∷ [])
        → Seq K 𝓛 (‵ ((Row 𝓛 T c y).own_val x (v ∷ [])) ∷ raw (Tokens 𝓛 T c y) ∷ ‵ (lasts T y.0.0 y.0.3 w) ∷ Γ) (lands C Λ E d v rest q))
        → Seq K 𝓛 (i ∷ Γ) (runs C Λ E (seq (call f xs d) rest) q)
    calls_known_mut t fm {rest} T c met y x v w i gives says tells os k =
        calls_from t fm i (passed 𝓛 T.signature y.0) ((Its 𝓛 T c).post y)
        (via 𝓤 ((Its 𝓛 T c).pre y) gives (met y)) os (λ u.
        use1 𝓛
        (in-time
        (some (λ (r : Res T.signature y.0.0).
        (raw (Tokens 𝓛 T c y) ⊛ ‵ ((Row 𝓛 T c y).own_val r (u ∷ [])))
        ⊛ some (λ (ws : Lasts T y.0.0 y.0.3).
        ‵ (lasts T y.0.0 y.0.3 ws)
        ⊛ raw ((c y.0.0 y.0.3).ensures y.1 r (at_exit T y.0.0 y.0.3 ws))))))
        (id⊢ 𝓤 _) $
        await t tt $ pick t (λ r. split t $ move t (1 ∷ []) $
        pick t (λ ws. split t $ move t (1 ∷ []) $
        use1 𝓛 (raw (fact 𝓤 ((r ≡ x) × (ws ≡ w)))) (says r ws) $
        heard t ((r ≡ x) × (ws ≡ w)) (λ e.
        rewrite t 0 (λ (ws' : Lasts T y.0.0 y.0.3). ‵ (lasts T y.0.0 y.0.3 ws')) e.1 refl $
        move t (1 ∷ []) $ split t $ move t (1 ∷ []) $
        rewrite t 0 (λ (r' : Res T.signature y.0.0). ‵ ((Row 𝓛 T c y).own_val r' (u ∷ []))) e.0 refl $
        peeks t (Row 𝓛 T c y) (Is (Row 𝓛 T c y)) (shows 𝓛 (Row 𝓛 T c y)) x (u ∷ []) (λ is.
        subst (λ (z : Val).
        Seq K 𝓛 (‵ ((Row 𝓛 T c y).own_val x (z ∷ [])) ∷ raw (Tokens 𝓛 T c y) ∷ ‵ (lasts T y.0.0 y.0.3 w) ∷ Γ) (lands C Λ E d z rest q))
        (sym (ap only (tells (u ∷ []) is)))
        (k (subst (λ (z : Val). Is (Row 𝓛 T c y) x (z ∷ [])) (ap only (tells (u ∷ []) is)) is)))))))
