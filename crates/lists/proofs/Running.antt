-- Taking record after record, the runner's or of every kind, comes to the run of the list that the bytes decode to.
-- Every state on the way passes number 12, so only the rows after it turn a call down.
use mathlib.Core.Logic.{◌⊎◌, inl, inr}
use Prim.Native.Nat.{ℕ, zero, suc, ◌+◌, ◌-◌, ◌≤◌, ◌<◌}
use native.Mathlib.Decide.{ℕ_discrete}
use native.Mathlib.Omega.{arith}
use borrow.Author.Tests.{le-leb, lt-leb}
use mathlib.Core.Bool.{Bool, true, false, cond, not, ◌||◌}
use mathlib.Core.List.{List, [], ◌∷◌}
use mathlib.Core.Path.{◌≡◌, refl, sym, ◌∙◌, ap}
use Rattle.std.specs.Prelude.{Ok}
use lib.ListN.{length, get_or, drop, length-drop}
use lib.Seq.{drop-cons, drop-drop}
use Rattle.plan.specs.Base.{one_if}
use Rattle.plan.specs.Faults.{is_turned_down}
use Rattle.plan.specs.Calls.{call_size, call_of, first_call, Decoded, and_then, Finishes}
use Rattle.plan.specs.Fates.{is_open}
use Rattle.plan.specs.Plans.{event_count, has_event}
use Rattle.plan.proofs.Tests.{one_le, or_right_true}
use Rattle.plan.proofs.CallRecords.{more_left}
use Rattle.plan.proofs.CallDecoding.{size_some, Decodes}
use Rattle.scheduler.specs.State.{fate_of, closed_at, Sized}
use Rattle.scheduler.specs.Coherent.{coherent}
use Rattle.scheduler.specs.Answers.{turns_down, idle, accept, call}
use Rattle.scheduler.specs.Lists.{scheduler, after, turned_down}
use Rattle.scheduler.specs.Runner.{ran_on}
use Rattle.scheduler.proofs.Branches.{call_fault_lem, call_accept}
use Rattle.scheduler.proofs.CallSteps.{turned_down_lem, not_turned_down, idle_same, submit_turns, close_turns, submit_idle}
use Rattle.theory.proofs.Coherence.{call_coherent, sized_call, call_taken, fault_answer}
use Rattle.lists.specs.Internal.Underway.{outcome_from, Underway, IsCodec}
use Rattle.lists.specs.Types.{Call, Submit, Close, Finish, CallRead, Listed, End, Bad, State, Reply, Outcome}

-- what a list comes to that stops here
abbrev pub outcome_of : State → ℕ → Outcome
outcome_of s n = record { verdict = Ok tt; state = s; refused = n }

-- one call more in front of a list
from_call : (s : State) (n : ℕ) (c : Call) (d : Decoded)
    → outcome_from (call s c).state (n + one_if (is_turned_down (call s c).answer)) d ≡ outcome_from s n (and_then c d)
unfolding after turned_down
from_call s n c d = ap (outcome_of (after scheduler (call s c).state d.calls)) (omega arith)

-- the end, and a bad record
from_end : (s : State) (n : ℕ) → outcome_of s n ≡ outcome_from s n (record { calls = []; cut = false })
unfolding after turned_down
from_end s n = ap (outcome_of s) (omega arith)

from_bad : (s : State) (n : ℕ) → outcome_of s (n + 1) ≡ outcome_from s n (record { calls = []; cut = true })
unfolding after turned_down
from_bad s n = ap (outcome_of s) (omega arith)

pub begun : (decoding : List ℕ → Decoded) (s : State) (b : List ℕ)
    → coherent s ≡ true
    → Sized s
    → Underway decoding s b s 0 0
begun decoding s b h z = record {
  inside = omega arith;
  same = ap (outcome_of (after scheduler s (decoding b).calls)) (omega arith);
  few = omega arith;
  passes = h;
  sized = z;
}

-- a call's record ends within the bytes
pub record_fits : {first : List ℕ → CallRead} {decoding : List ℕ → Decoded}
    → Decodes first decoding
    → (b : List ℕ) (at : ℕ)
    → at ≤ length b
    → (read : CallRead)
    → read ≡ first (drop at b)
    → (c : Call)
    → read ≡ Listed c
    → at + call_size c ≤ length b
record_fits k b at le read is c h = omega (arith, k.listed_inside (drop at b) c (sym is ∙ h), length-drop at b)

-- one record
module _
    {first : List ℕ → CallRead} {decoding : List ℕ → Decoded} (k : Decodes first decoding)
    {s t : State} {b : List ℕ} {at n : ℕ} (u : Underway decoding s b t at n)
    (read : CallRead) (is : read ≡ first (drop at b)) where
  -- a call
  module _ (c : Call) (h : read ≡ Listed c) (size : ℕ) (long : size ≡ call_size c) where
    pub inside_listed : at + size ≤ length b
    inside_listed = omega (arith, long, record_fits k b at u.inside read is c h)

    pub less : length b - (at + size) < length b - at
    less = omega (arith, long, size_some c, inside_listed)

    -- the calls turned down with it
    abbrev count : ℕ
    count = n + one_if (is_turned_down (call t c).answer)

    made : (w : State) (m : ℕ) → w ≡ (call t c).state → m ≡ count → Underway decoding s b w (at + size) m
    made w m e f = rw (e, f) (record {
      inside = inside_listed;
      same =
          ap (λ i. outcome_from (call t c).state count (decoding (drop (at + i) b))) long
          ∙ ap (λ l. outcome_from (call t c).state count (decoding l)) (sym (drop-drop (call_size c) at b))
          ∙ from_call t n c (decoding (drop (call_size c) (drop at b)))
          ∙ ap (outcome_from t n) (sym (k.at_call (drop at b) c (sym is ∙ h)))
          ∙ u.same;
      few = omega (arith, long, u.few, size_some c, one_le (is_turned_down (call t c).answer));
      passes = call_coherent t c u.sized u.passes;
      sized = sized_call t c u.sized;
    })

    -- turned down: the state stays, and the call counts
    pub again_refused : (w : State) (m : ℕ)
        → turns_down t c ≡ true
        → w ≡ t
        → m ≡ n + 1
        → Underway decoding s b w (at + size) m
    again_refused w m d e f =
        let q = turned_down_lem t c u.passes d in
        made w m
        (e ∙ sym (ap (λ (r : Reply). r.state) (call_fault_lem t c q.0 q.1)))
        (f ∙ ap (λ (x : Bool). n + one_if x) (sym (ap is_turned_down (fault_answer t c q.0 q.1))))

    -- taken
    pub again_taken : (w : State) (m : ℕ)
        → turns_down t c ≡ false
        → w ≡ (accept t c).state
        → m ≡ n
        → Underway decoding s b w (at + size) m
    again_taken w m d e f =
        let q = not_turned_down t c u.passes d in
        made w m
        (e ∙ sym (ap (λ (r : Reply). r.state) (call_accept t c q)))
        (omega (arith, f, ap one_if (call_taken t c q)))

    -- the one or the other
    pub again_either : (w : State) (m : ℕ)
        → ((turns_down t c ≡ true) × (w ≡ t) × (m ≡ n + 1)) ⊎ ((turns_down t c ≡ false) × (w ≡ (accept t c).state) × (m ≡ n))
        → Underway decoding s b w (at + size) m
    again_either w m way = elim way [
      | inl x ↦ again_refused w m x.0 x.1 x.2
      | inr x ↦ again_taken w m x.0 x.1 x.2
    ]

    -- taken, and idle: nothing changes, so the call is not made
    pub again_idle : (w : State) (m : ℕ)
        → turns_down t c ≡ false
        → idle t c ≡ true
        → w ≡ t
        → m ≡ n
        → Underway decoding s b w (at + size) m
    again_idle w m d i e f = again_taken w m d (e ∙ sym (idle_same t c i)) f

  -- the end
  pub ended : read ≡ End → outcome_of t n ≡ ran_on s (decoding b)
  ended h = from_end t n ∙ ap (outcome_from t n) (sym (k.at_end (drop at b) (sym is ∙ h))) ∙ u.same

  -- a bad record
  pub bad_ended : read ≡ Bad → outcome_of t (n + 1) ≡ ran_on s (decoding b)
  bad_ended h = from_bad t n ∙ ap (outcome_from t n) (sym (k.at_bad (drop at b) (sym is ∙ h))) ∙ u.same

  -- one call more can be counted
  pub listed_room : (c : Call) → read ≡ Listed c → n < length b
  listed_room c h = omega (arith, u.few, size_some c, inside_listed c h (call_size c) refl)

  pub bad_room : read ≡ Bad → n < length b
  bad_room h = omega (arith, u.inside, u.few, k.bad_inside (drop at b) (sym is ∙ h), length-drop at b)

-- a record of the runner's, by the bytes that are left: its kind and, but for a finish, its number
module _ (b : List ℕ) (at k : ℕ) (kind : k ≡ get_or b at 0) where
  module _ (x : ℕ) (number : x ≡ get_or b (at + 1) 0) (two : at + 1 < length b) where
    record_at_lem : first_call (drop at b) ≡ call_of k x
    record_at_lem =
        sym
        (more_left b at (call_of k x) (omega (arith, two)) (λ one. omega (arith, two, one))
        (ap (λ i. call_of i x) kind ∙ ap (call_of (get_or b at 0)) number))

    pub submit_at : k ≡ 16 → first_call (drop at b) ≡ Listed (Submit x)
    submit_at h = record_at_lem ∙ rw h refl

    pub close_at : k ≡ 17 → first_call (drop at b) ≡ Listed (Close x)
    close_at h = record_at_lem ∙ rw h refl

  finish_at : at < length b → k ≡ 18 → first_call (drop at b) ≡ Listed Finish
  unfolding first_call
  finish_at some h =
      let rest = drop (suc at) b in
      let here : drop at b ≡ 18 ∷ rest = drop-cons b at 0 some ∙ ap (λ i. i ∷ rest) (sym kind ∙ h) in
      ap first_call here ∙ last rest
    where
      last : (l : List ℕ) → first_call (18 ∷ l) ≡ Listed Finish
      last [] = refl
      last (x ∷ l) = refl

-- one of the runner's that leaves the state as it is, by what the code reads of it
module _
    {first : List ℕ → CallRead} {decoding : List ℕ → Decoded} (k : IsCodec first decoding)
    {s t : State} {b : List ℕ} {at n : ℕ} (u : Underway decoding s b t at n) (m : ℕ) where
  -- what the bytes hold here is the call c
  abbrev Here : Call → Type 0
  Here c = first_call (drop at b) ≡ Listed c

  refused_here : (c : Call) → Here c → turns_down t c ≡ true → m ≡ n + 1 → Underway decoding s b t (at + call_size c) m
  refused_here c h down f = again_refused k.decodes u (first (drop at b)) refl c (k.keeps _ c h) (call_size c) refl t m down refl f

  idle_here : (c : Call)
      → Here c
      → turns_down t c ≡ false
      → idle t c ≡ true
      → m ≡ n
      → Underway decoding s b t (at + call_size c) m
  idle_here c h taken still f =
      again_idle k.decodes u (first (drop at b)) refl c (k.keeps _ c h) (call_size c) refl t m taken still refl f

  pub skip_unknown : (e : ℕ) → Here (Submit e) → event_count t.plan ≤ e → m ≡ n + 1 → Underway decoding s b t (at + 2) m
  skip_unknown e h ge f = refused_here (Submit e) h (sym (submit_turns t e) ∙ le-leb _ _ ge) f

  pub skip_submitted : (e : ℕ) (o : Bool)
      → Here (Submit e)
      → e < event_count t.plan
      → o ≡ is_open (fate_of t e)
      → o ≡ false
      → m ≡ n
      → Underway decoding s b t (at + 2) m
  skip_submitted e o h lt opened settled f =
      idle_here (Submit e) h
      (sym (submit_turns t e) ∙ lt-leb _ _ lt)
      (sym (submit_idle t (Submit e) e o refl opened) ∙ ap not settled)
      f

  pub skip_closed : (j : ℕ) → Here (Close j) → closed_at t j ≡ true → m ≡ n + 1 → Underway decoding s b t (at + 2) m
  skip_closed j h shut f =
      refused_here (Close j) h
      (sym (close_turns t j)
      ∙ ap (λ (x : Bool). not (has_event t.plan j) || x) shut
      ∙ or_right_true (not (has_event t.plan j)))
      f

-- what k finishes add to the calls turned down, where each is turned down (d) or none is
one_more : (d : Bool) (k n : ℕ) → n + cond d (suc k) 0 ≡ n + one_if d + cond d k 0
one_more true k n = omega arith
one_more false k n = omega arith

at_end : (at past : ℕ) → past ≡ at + 0 → past ≡ at
at_end at past e = omega (arith, e)

none_more : (d : Bool) (n : ℕ) → n + cond d 0 0 ≡ n
none_more true n = omega arith
none_more false n = omega arith

pub one_before : (b : List ℕ) (at past : ℕ) → get_or b at 0 ≡ 18 → Finishes b (at + 1) past → Finishes b at past
one_before b at past h all i ge lt = elim (ℕ_discrete i at) [
  | yes e ↦ ap (λ j. get_or b j 0) e ∙ h
  | no ne ↦ all i (omega arith) lt
]

-- finishes that follow one another and leave the state as it is: each is turned down, or each is taken and idle
module _
    {first : List ℕ → CallRead} {decoding : List ℕ → Decoded} (codec : IsCodec first decoding)
    {s t : State} {b : List ℕ} (d : Bool)
    (told : turns_down t Finish ≡ d) (still : d ≡ false → idle t Finish ≡ true) where
  pass_finish : (at n : ℕ)
      → Underway decoding s b t at n
      → first_call (drop at b) ≡ Listed Finish
      → Underway decoding s b t (at + 1) (n + one_if d)
  pass_finish at n u h = go d refl
    where
      go : (x : Bool) → d ≡ x → Underway decoding s b t (at + 1) (n + one_if d)
      go true e = refused_here codec u (n + one_if d) Finish h (told ∙ e) (ap (λ (y : Bool). n + one_if y) e)
      go false e = idle_here codec u (n + one_if d) Finish h (told ∙ e) (still e) (omega (arith, ap one_if e))

  pub pass_finishes : (k at n past m : ℕ)
      → Underway decoding s b t at n
      → Finishes b at past
      → past ≤ length b
      → past ≡ at + k
      → m ≡ n + cond d k 0
      → Underway decoding s b t past m
  pass_finishes zero at n past m u all le e f = rw (at_end at past e, f, none_more d n) u
  pass_finishes (suc k) at n past m u all le e f =
      let here = all at (omega arith) (omega (arith, e)) in
      pass_finishes k (at + 1) (n + one_if d) past m
      (pass_finish at n u (finish_at b at (get_or b at 0) refl (omega (arith, e, le)) here))
      (λ i ge lt. all i (omega (arith, ge)) lt)
      le
      (omega (arith, e))
      (f ∙ one_more d k n)
