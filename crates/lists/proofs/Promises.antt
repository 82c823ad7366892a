-- The run of a list on a sheet, the runner's list or one of every kind of call: what it comes to, demand 3 of it, and
-- that no list of calls whose numbers fit their records is left out.
use Prim.Native.Nat.{ℕ}
use native.Mathlib.Omega.{arith}
use mathlib.Core.Bool.{true, false}
use mathlib.Core.List.{List}
use mathlib.Core.Path.{◌≡◌, refl, sym, ◌∙◌, ap, subst}
use lib.Pow.{are_bytes}
use Rattle.std.specs.Prelude.{Ok, Err}
use Rattle.plan.specs.Faults.{Verdict}
use Rattle.plan.specs.Calls.{Decoded, decode, decode_all}
use Rattle.plan.proofs.CallRecords.{byte_numbers, decoded}
use Rattle.plan.proofs.AnyCalls.{all_fit, decoded_all}
use Rattle.scheduler.specs.Coherent.{coherent}
use Rattle.scheduler.specs.Sheet.{read_sheet, admitted}
use Rattle.scheduler.specs.Lists.{scheduler, after, turned_down}
use Rattle.scheduler.specs.Runner.{ran_on, run_on, run_of, replay_of}
use Rattle.scheduler.specs.Demand.{seen, Demand3}
use Rattle.theory.proofs.Demands.{demand3, admitted_coherent}
use Rattle.lists.specs.Types.{Call, Refusal, State, Reading, Outcome}

-- the branches of `run_on`
on_admitted : (r : Reading) (d : Decoded) → r.verdict ≡ Ok tt → run_on r d ≡ ran_on r.state d
unfolding run_on
on_admitted r d h = rw (h, run_on)

on_refused : (r : Reading) (d : Decoded) (f : Refusal)
    → r.verdict ≡ Err f
    → run_on r d ≡ record { verdict = r.verdict; state = r.state; refused = 0 }
unfolding run_on
on_refused r d f h = rw (h, run_on)

-- a sheet that is admitted, and one that is turned down
module _ (sheet : List ℕ) (r : Reading) (e : r ≡ read_sheet sheet) (d : Decoded) where
  pub ran : (o : Outcome) → r.verdict ≡ Ok tt → o ≡ ran_on r.state d → o ≡ run_on (read_sheet sheet) d
  ran o h q = q ∙ sym (on_admitted r d h) ∙ ap (λ t. run_on t d) e

  pub not_ran : (f : Refusal)
      → r.verdict ≡ Err f
      → record { verdict = r.verdict; state = r.state; refused = 0 } ≡ run_on (read_sheet sheet) d
  not_ran f h = sym (on_refused r d f h) ∙ ap (λ t. run_on t d) e

-- the calls start from a state that passes number 12
pub starts : (sheet : List ℕ) (r : Reading) → r ≡ read_sheet sheet → r.verdict ≡ Ok tt → coherent r.state ≡ true
starts sheet r e h =
    admitted_coherent sheet r.state
    (sym e ∙ ap {B = Reading} (λ (v : Verdict). record { verdict = v; state = r.state }) h)

-- the run on an admitted sheet, and demand 3 of what it comes to
module _ (sheet : List ℕ) (d : Decoded) (s : State) (h : read_sheet sheet ≡ admitted s) where
  run_state : run_on (read_sheet sheet) d ≡ ran_on s d
  run_state = ap (λ t. run_on t d) h ∙ on_admitted (admitted s) d refl

  pub demanded : (r : Outcome) → r ≡ run_on (read_sheet sheet) d → Demand3 s.plan (seen scheduler s d.calls) r.state
  demanded r e =
      let q : r.state ≡ after scheduler s d.calls = ap (λ (o : Outcome). o.state) (e ∙ run_state) in
      subst (Demand3 s.plan (seen scheduler s d.calls)) (sym q) (demand3 sheet s d.calls h)

-- bytes, by their decoding and what they come to, whose run is the run of these calls
pub record Covered (decoding : List ℕ → Decoded) (outcome : List ℕ → Outcome) (s : State) (cs : List Call) : Type 0 where
  pub bytes : List ℕ
  pub are_bytes : are_bytes bytes ≡ true
  pub listed : (decoding bytes).calls ≡ cs
  pub uncut : (decoding bytes).cut ≡ false
  pub same_state : (outcome bytes).state ≡ after scheduler s cs
  pub same_count : (outcome bytes).refused ≡ turned_down s cs

covered_by : (decoding : List ℕ → Decoded) (outcome : List ℕ → Outcome) (s : State) (cs : List Call)
    → ((b : List ℕ) → outcome b ≡ ran_on s (decoding b))
    → (b : List ℕ) × (are_bytes b ≡ true) × (decoding b ≡ record { calls = cs; cut = false })
    → Covered decoding outcome s cs
covered_by decoding outcome s cs is t =
    let q : outcome t.0 ≡ ran_on s (record { calls = cs; cut = false }) = is t.0 ∙ ap (ran_on s) t.2 in
    record {
      bytes = t.0;
      are_bytes = t.1;
      listed = ap (λ (d : Decoded). d.calls) t.2;
      uncut = ap (λ (d : Decoded). d.cut) t.2;
      same_state = ap (λ (o : Outcome). o.state) q;
      same_count = ap (λ (o : Outcome). o.refused) q ∙ omega arith;
    }

-- every admitted sheet, every list of calls whose numbers fit their records; for `run` none of them moves the minute
module _ (sheet : List ℕ) (s : State) (cs : List Call) (h : read_sheet sheet ≡ admitted s) where
  pub covered : byte_numbers cs ≡ true → Covered decode (run_of sheet) s cs
  unfolding run_of
  covered k = covered_by decode (run_of sheet) s cs (λ b. run_state sheet (decode b) s h) (decoded cs k)

  pub replay_covered : all_fit cs ≡ true → Covered decode_all (replay_of sheet) s cs
  unfolding replay_of
  replay_covered k = covered_by decode_all (replay_of sheet) s cs (λ b. run_state sheet (decode_all b) s h) (decoded_all cs k)
