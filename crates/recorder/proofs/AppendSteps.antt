-- Appending in code: the record's bytes, the room for them, what each test answers, and what a host asks for.
use Prim.Native.Nat.{ℕ, ◌+◌, ◌-◌, ◌≤◌, ◌<◌}
use native.Mathlib.Omega.{arith}
use borrow.Rule.Slice.PartMut.{put_mid}
use borrow.Author.Tests.{lt-ltb, le-ltb}
use mathlib.Core.List.{List, ◌++◌, append_assoc}
use Rattle.std.specs.declared.option.Option.{Option}
use Rattle.std.specs.declared.option.Option.TheVariants.{None as none, Some as some}
use mathlib.Core.Path.{◌≡◌, refl, sym, ◌∙◌, ap}
use lib.ListN.{length, take, drop}
use lib.Seq.{drop-drop, length-take-le}
use Rattle.std.specs.Prelude.{Result, Ok, Err}
use Rattle.plan.specs.Faults.{refusal}
use Rattle.plan.specs.Calls.{call_bytes}
use Rattle.scheduler.specs.Answers.{call_fault, call}
use Rattle.theory.proofs.Coherence.{fault_answer, answer_fault}
use Rattle.recorder.specs.Types.{Call, CallFault, Answer, State, Reply, CallRecord, Opened, JournalFault, Journal, Appended as AppendedRecord, AppendFault}
use Rattle.journal.specs.Records.{size}
use Rattle.journal.specs.Journals.{Opening, Opens, Broken, Unread, Appending, Appended, TooLong, TurnedDown, NoRoom, overwritten, open_journal, room_for, append_to, append, written_by}
use Rattle.journal.specs.Calls.{calls, record_of}
use Rattle.journal.specs.Answers.{journal_read, append_answer}
use Rattle.journal.proofs.CallLaws.{lawful, size_same}
use Rattle.journal.proofs.Openings.{end_inside}
use Rattle.journal.proofs.Appends.{append_long, append_inside, to_refused}
use Rattle.recorder.proofs.RecordSteps.{record_size_lem, record_bytes}

-- what an answer says: the code's answer and the buffer after it
pub record Says (b : List ℕ) (c : Call) (a : Appending CallFault) (r : Result AppendedRecord AppendFault) (after : List ℕ) : Type 0 where
  pub answer : r ≡ append_answer a
  pub bytes : after ≡ written_by calls b c a

says_same : {b : List ℕ} {c : Call} {a e : Appending CallFault} {r : Result AppendedRecord AppendFault} {after : List ℕ} → Says b c a r after → e ≡ a → Says b c e r after
says_same {b} {c} {a} {e} {r} {after} said h = record {
  answer = said.answer ∙ ap append_answer (sym h);
  bytes = said.bytes ∙ ap (written_by calls b c) (sym h);
}

-- bytes that are put in the place of as many go over them
put_over : (b text : List ℕ) (at past : ℕ) → past ≡ at + length text → put_mid at (past - at) b text ≡ overwritten b at text
put_over b text at past e =
    ap (λ (l : List ℕ). take at b ++ (text ++ l)) (drop-drop (past - at) at b ∙ ap (λ (n : ℕ). drop n b) (omega (arith, e)))
    ∙ sym (append_assoc (take at b) text (drop (at + length text) b))

-- the room
module _ (b : List ℕ) (end : ℕ) (c : Call) (inside : end ≤ length b) (r : CallRecord) (is : r ≡ record_of c) where
  pub no_room : length b - end < r.size → Says b c (room_for calls (length b) end c) (Err (AppendFault.NoRoom end)) b
  unfolding room_for written_by
  no_room h =
      let full : room_for calls (length b) end c ≡ NoRoom end =
      rw (lt-ltb (length b) (end + size calls c) (omega (arith, size_same c, record_size_lem r c is)), room_for) in
      record { answer = ap append_answer (sym full); bytes = ap (written_by calls b c) (sym full) }

  pub has_room : (put : List ℕ)
      → r.size ≤ length b - end
      → put ≡ take r.size r.bytes
      → Says b c (room_for calls (length b) end c) (Ok (record { at = end; len = end + r.size })) (put_mid end (end + r.size - end) b put)
  unfolding room_for written_by
  has_room put h e =
      let fits : room_for calls (length b) end c ≡ Appended end (end + size calls c) =
      rw (le-ltb (length b) (end + size calls c) (omega (arith, size_same c, record_size_lem r c is)), room_for) in
      let sum : end + r.size ≡ end + size calls c = omega (arith, size_same c, record_size_lem r c is) in
      record {
        answer = ap (λ (n : ℕ). Ok (record { at = end; len = n })) sum ∙ ap append_answer (sym fits);
        bytes =
            ap (λ (l : List ℕ). put_mid end (end + r.size - end) b l) (e ∙ record_bytes r c is)
            ∙ put_over b (call_bytes c) end (end + r.size) sum
            ∙ ap (written_by calls b c) (sym fits);
      }

-- the call
module _ (s : State) (c : Call) (room end : ℕ) where
  to_room : (left : ℕ) → call_fault s c ≡ none → append_to calls room c (Opens s end left) ≡ room_for calls room end c
  unfolding append_to
  to_room left h = rw (h, append_to)

not_turned : (s : State) (c : Call) → ((f : CallFault) → (call s c).answer ≡ Answer.TurnedDown f → ⊥) → call_fault s c ≡ none
not_turned s c h = go (call_fault s c) refl
  where
    go : (q : Option CallFault) → call_fault s c ≡ q → call_fault s c ≡ none
    go none e = e
    go (some f) e = absurd (h f (fault_answer s c f e))

module _ (b : List ℕ) (end : ℕ) (s : State) (c : Call) (r : Reply) (is : r ≡ call s c) where
  abbrev to : Appending CallFault
  to = append_to calls (length b) c (Opens s end 0)

  pub is_taken : (x : Result AppendedRecord AppendFault) (after : List ℕ)
      → ((f : CallFault) → r.answer ≡ Answer.TurnedDown f → ⊥)
      → Says b c (room_for calls (length b) end c) x after
      → Says b c to x after
  is_taken x after h said =
      says_same said (to_room s c (length b) end 0 (not_turned s c (λ f e. h f (ap (λ (q : Reply). q.answer) is ∙ e))))

  pub is_turned : (f : CallFault) → r.answer ≡ Answer.TurnedDown f → Says b c to (Err (AppendFault.TurnedDown f end)) b
  unfolding written_by
  is_turned f h =
      says_same {a = TurnedDown f end} (record { answer = refl; bytes = refl })
      (to_refused calls (length b) c s end 0 f ((answer_fault s c f).0 (ap (λ (q : Reply). q.answer) (sym is) ∙ h)))

not_opened : {f : JournalFault} {x : Opened} → ◌≡◌ {A = Result Opened JournalFault} (Err f) (Ok x) → ⊥
not_opened {f} {x} h = let z : ◌≡◌ {A = ℕ} 0 1 = cc in omega arith

-- which opening it was
module _ (o : Opening State) (j : Journal) (is : j ≡ journal_read o) where
  pub was_opened : (x : Opened) → j.verdict ≡ Ok x → o ≡ Opens j.state x.end x.left
  was_opened x h = go o is
    where
      go : (o : Opening State) → j ≡ journal_read o → o ≡ Opens j.state x.end x.left
      go (Opens s n l) e =
          let v : Ok (record { end = n; left = l }) ≡ Ok x = sym (ap (λ (y : Journal). y.verdict) e) ∙ h in
          let p : record { end = n; left = l } ≡ x = cc in
          ap {B = Opening State} (λ (t : State). Opens t n l) (sym (ap (λ (y : Journal). y.state) e))
          ∙ ap {B = Opening State} (λ (y : Opened). Opens j.state y.end y.left) p
      go (Broken s n) e = absurd (not_opened (sym (ap (λ (y : Journal). y.verdict) e) ∙ h))
      go (Unread f n) e = absurd (not_opened (sym (ap (λ (y : Journal). y.verdict) e) ∙ h))

  pub was_broken : (at : ℕ) → j.verdict ≡ Err (JournalFault.Broken at) → o ≡ Broken j.state at
  was_broken at h = go o is
    where
      go : (o : Opening State) → j ≡ journal_read o → o ≡ Broken j.state at
      go (Broken s n) e =
          let v : Err (JournalFault.Broken n) ≡ Err (JournalFault.Broken at) = sym (ap (λ (y : Journal). y.verdict) e) ∙ h in
          let p : n ≡ at = cc in
          ap {B = Opening State} (λ (t : State). Broken t n) (sym (ap (λ (y : Journal). y.state) e)) ∙ rw p
      go (Opens s n l) e = absurd (not_opened (sym (sym (ap (λ (y : Journal). y.verdict) e) ∙ h)))
      go (Unread f n) e =
          absurd (let v : Err (JournalFault.Unread (refusal f n)) ≡ Err (JournalFault.Broken at) = sym (ap (λ (y : Journal). y.verdict) e) ∙ h in let z : ◌≡◌ {A = ℕ} 0 1 = cc in omega arith)

-- the whole
module _ (b : List ℕ) (len : ℕ) (c : Call) where
  pub too_long : length b < len → Says b c (append calls b len c) (Err AppendFault.TooLong) b
  unfolding written_by
  too_long h = says_same {a = TooLong} (record { answer = refl; bytes = refl }) (append_long calls b len c (lt-ltb (length b) len h))

  module _ (stated : len ≤ length b) (j : Journal) (is : j ≡ journal_read (open_journal calls (take len b))) where
    abbrev opening : Opening State
    opening = open_journal calls (take len b)

    told : append calls b len c ≡ append_to calls (length b) c opening
    told = append_inside calls b len c (le-ltb (length b) len stated)

    module _ (x : Opened) (h : j.verdict ≡ Ok x) where
      pub opens_inside : x.end ≤ length b
      opens_inside =
          omega (arith, end_inside calls lawful (take len b) j.state x.end x.left (was_opened opening j is x h), length-take-le len b stated)

      pub is_opened : (r : Result AppendedRecord AppendFault) (after : List ℕ)
          → Says b c (append_to calls (length b) c (Opens j.state x.end 0)) r after
          → Says b c (append calls b len c) r after
      unfolding append_to
      is_opened r after said =
          let e : append calls b len c ≡ append_to calls (length b) c (Opens j.state x.end 0) =
          told ∙ ap (append_to calls (length b) c) (was_opened opening j is x h) in
          says_same said e

    pub is_unopened : (f : JournalFault) → j.verdict ≡ Err f → Says b c (append calls b len c) (Err (AppendFault.Unopened f)) b
    unfolding append_to written_by
    is_unopened f h = says_same (go opening (sym (ap (λ (y : Journal). y.verdict) is) ∙ h)) told
      where
        go : (o : Opening State) → (journal_read o).verdict ≡ Err f → Says b c (append_to calls (length b) c o) (Err (AppendFault.Unopened f)) b
        go (Opens s n l) e = absurd (not_opened (sym e))
        go (Broken s n) e =
            let same : JournalFault.Broken n ≡ f = cc in
            record { answer = ap (λ (f : JournalFault). Err (AppendFault.Unopened f)) (sym same); bytes = refl }
        go (Unread g n) e =
            let same : JournalFault.Unread (refusal g n) ≡ f = cc in
            record { answer = ap (λ (f : JournalFault). Err (AppendFault.Unopened f)) (sym same); bytes = refl }
