-- Appending: what is written opens to the state after the call, and nothing else changes. What a host keeps always opens
-- to the state after the calls that are not lost.
use Prim.Native.Nat.{ℕ, ◌+◌, ◌-◌, ◌≤◌, ◌<◌}
use native.Mathlib.Omega.{arith}
use borrow.Author.Tests.{ltb-false, le-ltb}
use mathlib.Core.Bool.{Bool, true, false}
use mathlib.Core.List.{List, [], ◌∷◌, ◌++◌, append_assoc, append-nil}
use Rattle.std.specs.declared.option.Option.{Option}
use Rattle.std.specs.declared.option.Option.TheVariants.{None as none, Some as some}
use mathlib.Core.Path.{◌≡◌, refl, sym, ◌∙◌, ap, subst}
use lib.Dec.{ltb}
use lib.ListN.{length, take, drop, length-append, length-drop}
use lib.Seq.{drop_at, take_at, length-take-le, take-take, take-append-add}
use Rattle.plan.specs.Sheets.{whole, read_plan}
use Rattle.journal.specs.Types.{Plan, SheetFault}
use Rattle.journal.specs.Records.{Keeping, stopped, further, size, front, run, records, made, Recorded, Accepted, AllRecorded}
use Rattle.journal.specs.Journals.{Opening, Opens, Broken, Unread, opened_at, Appending, Appended, TooLong, BadSheet, BadRecord, TurnedDown, NoRoom, overwritten, journal_of, open_journal, room_for, append_to, append, written_by, buffer_after}
use Rattle.journal.specs.Claims.{is_appended, opens_after, ExactlyWhole, AppendsCall, Kept, fresh, appended, lost, cut_back}
use Rattle.journal.proofs.Fronts.{Lawful, front_cut}
use Rattle.journal.proofs.Runs.{run_short, run_record}
use Rattle.journal.proofs.Openings.{opened_good, opens_state, opens_end, end_inside, open_goes_on}
use Rattle.journal.proofs.Cuts.{nothing, exactly_unique, Stored, stored_opens, stored_lost}

-- bytes with others written over them
module _ (b : List ℕ) (at : ℕ) (r : List ℕ) (fits : at + length r ≤ length b) where
  front_long : length (take at b ++ r) ≡ at + length r
  front_long = length-append (take at b) r ∙ ap (λ (n : ℕ). n + length r) (length-take-le at b (omega arith))

  as_two : overwritten b at r ≡ (take at b ++ r) ++ drop (at + length r) b
  as_two = refl

  over_take : take (at + length r) (overwritten b at r) ≡ take at b ++ r
  over_take = ap (take (at + length r)) as_two ∙ take_at (take at b ++ r) (drop (at + length r) b) (at + length r) front_long

  over_drop : drop (at + length r) (overwritten b at r) ≡ drop (at + length r) b
  over_drop = ap (drop (at + length r)) as_two ∙ drop_at (take at b ++ r) (drop (at + length r) b) (at + length r) front_long

  over_long : length (overwritten b at r) ≡ length b
  over_long =
      ap length as_two
      ∙ length-append (take at b ++ r) (drop (at + length r) b)
      ∙ omega (arith, front_long, length-drop (at + length r) b)

module _ {S C F : Type 0} (k : Keeping S C F) where
  -- the branches of appending
  pub append_long : (buffer : List ℕ) (len : ℕ) (c : C) → ltb (length buffer) len ≡ true → append k buffer len c ≡ TooLong
  unfolding append
  append_long buffer len c h = rw (h, append)

  pub append_inside : (buffer : List ℕ) (len : ℕ) (c : C)
      → ltb (length buffer) len ≡ false
      → append k buffer len c ≡ append_to k (length buffer) c (open_journal k (take len buffer))
  unfolding append
  append_inside buffer len c h = rw (h, append)

  module _ (room : ℕ) (c : C) where
    pub to_unread : (f : SheetFault) (at : ℕ) → append_to k room c (Unread f at) ≡ BadSheet f at
    unfolding append_to
    to_unread f at = refl

    pub to_broken : (s : S) (at : ℕ) → append_to k room c (Broken s at) ≡ BadRecord at
    unfolding append_to
    to_broken s at = refl

    module _ (s : S) (end left : ℕ) where
      pub to_refused : (f : F) → k.fault s c ≡ some f → append_to k room c (Opens s end left) ≡ TurnedDown f end
      unfolding append_to
      to_refused f h = rw (h, append_to)

      pub to_full : k.fault s c ≡ none → ltb room (end + size k c) ≡ true → append_to k room c (Opens s end left) ≡ NoRoom end
      unfolding append_to room_for
      to_full h e = rw (h, append_to, e, room_for)

      pub to_appended : k.fault s c ≡ none
          → ltb room (end + size k c) ≡ false
          → append_to k room c (Opens s end left) ≡ Appended end (end + size k c)
      unfolding append_to room_for
      to_appended h e = rw (h, append_to, e, room_for)

  -- the buffer after it
  after_appended : (buffer : List ℕ) (len : ℕ) (c : C) (end n : ℕ)
      → append k buffer len c ≡ Appended end n
      → buffer_after k buffer len c ≡ overwritten buffer end (k.bytes c)
  unfolding written_by
  after_appended buffer len c end n h = ap (written_by k buffer c) h

  -- whatever is turned down, nothing is written
  pub untouched : (buffer : List ℕ) (len : ℕ) (c : C)
      → is_appended (append k buffer len c) ≡ false
      → buffer_after k buffer len c ≡ buffer
  unfolding written_by
  untouched buffer len c h = go (append k buffer len c) refl
    where
      go : (a : Appending F) → append k buffer len c ≡ a → buffer_after k buffer len c ≡ buffer
      go (Appended at n) e = absurd (let z : true ≡ false = sym (ap is_appended e) ∙ h in let y : ◌≡◌ {A = ℕ} 0 1 = cc in omega arith)
      go TooLong e = ap (written_by k buffer c) e
      go (BadSheet f at) e = ap (written_by k buffer c) e
      go (BadRecord at) e = ap (written_by k buffer c) e
      go (TurnedDown f at) e = ap (written_by k buffer c) e
      go (NoRoom at) e = ap (written_by k buffer c) e

  -- what was tested where a record is appended
  record Tested (buffer : List ℕ) (len : ℕ) (c : C) (end n : ℕ) : Type 0 where
    state : S
    left : ℕ
    opens : open_journal k (take len buffer) ≡ Opens state end left
    accepted : k.fault state c ≡ none
    length_is : n ≡ end + size k c
    stated : len ≤ length buffer
    fits : end + size k c ≤ length buffer

  appended_offset : {l m n o : ℕ} → ◌≡◌ {A = Appending F} (Appended l m) (Appended n o) → l ≡ n
  appended_offset {l} {m} {n} {o} e = cc

  appended_length : {l m n o : ℕ} → ◌≡◌ {A = Appending F} (Appended l m) (Appended n o) → m ≡ o
  appended_length {l} {m} {n} {o} e = cc

  tested : (buffer : List ℕ) (len : ℕ) (c : C) (at n : ℕ) → append k buffer len c ≡ Appended at n → Tested buffer len c at n
  tested buffer len c at n h = stating (ltb (length buffer) len) refl
    where
      room : ℕ
      room = length buffer

      wrong : (a : Appending F) → append k buffer len c ≡ a → is_appended a ≡ false → Tested buffer len c at n
      wrong a e nope = absurd (let z : true ≡ false = sym (ap is_appended (sym e ∙ h)) ∙ nope in let y : ◌≡◌ {A = ℕ} 0 1 = cc in omega arith)

      stating : (t : Bool) → ltb (length buffer) len ≡ t → Tested buffer len c at n
      stating true t = wrong TooLong (append_long buffer len c t) refl
      stating false t = opening (open_journal k (take len buffer)) refl
        where
          tells : (o : Opening S) → open_journal k (take len buffer) ≡ o → append k buffer len c ≡ append_to k room c o
          tells o e = append_inside buffer len c t ∙ ap (append_to k room c) e

          opening : (o : Opening S) → open_journal k (take len buffer) ≡ o → Tested buffer len c at n
          opening (Unread f o) e = wrong (BadSheet f o) (tells (Unread f o) e ∙ to_unread room c f o) refl
          opening (Broken s o) e = wrong (BadRecord o) (tells (Broken s o) e ∙ to_broken room c s o) refl
          opening (Opens s end left) e = judging (k.fault s c) refl
            where
              judging : (q : Option F) → k.fault s c ≡ q → Tested buffer len c at n
              judging (some f) q = wrong (TurnedDown f end) (tells (Opens s end left) e ∙ to_refused room c s end left f q) refl
              judging none q = fitting (ltb room (end + size k c)) refl
                where
                  fitting : (u : Bool) → ltb room (end + size k c) ≡ u → Tested buffer len c at n
                  fitting true u = wrong (NoRoom end) (tells (Opens s end left) e ∙ to_full room c s end left q u) refl
                  fitting false u =
                      let same = sym h ∙ tells (Opens s end left) e ∙ to_appended room c s end left q u in
                      let place : end ≡ at = sym (appended_offset same) in
                      record {
                        state = s;
                        left = left;
                        opens = e ∙ ap (λ (i : ℕ). Opens s i left) place;
                        accepted = q;
                        length_is = omega (arith, appended_length same, place);
                        stated = ltb-false (length buffer) len t;
                        fits = omega (arith, ltb-false room (end + size k c) u, place);
                      }

  module _ (w : Lawful k) where
    -- a record behind the last whole one
    pub open_next : (b : List ℕ) (s : S) (end left : ℕ) (c : C)
        → open_journal k b ≡ Opens s end left
        → k.fault s c ≡ none
        → Recorded k c
        → open_journal k (take end b ++ k.bytes c) ≡ Opens (k.make s c) (end + size k c) 0
    unfolding front
    open_next b s end left c h f o =
        let t = k.make s c in
        let ran : run k s (k.bytes c) ≡ record { state = t; used = size k c + 0; bad = false } =
        ap (run k s) (sym (append-nil (k.bytes c)))
        ∙ run_record k w s c [] f o
        ∙ ap (further (size k c)) (run_short k w t [] refl) in
        open_goes_on k w b s end left h (k.bytes c)
        ∙ ap (opened_at end (end + size k c)) ran
        ∙ opened_good end (end + size k c) (record { state = t; used = size k c + 0; bad = false }) refl
        ∙ ap (λ (n : ℕ). Opens t n (end + size k c - n)) {x = end + (size k c + 0)} {y = end + size k c} (omega arith)
        ∙ ap (Opens t (end + size k c)) (omega arith)

    -- while it is being stored, behind a journal that was cut back: with part of it there the state is the one before
    pub open_torn : (b : List ℕ) (s : S) (end left : ℕ) (c : C) (n : ℕ)
        → open_journal k b ≡ Opens s end left
        → n < size k c
        → open_journal k (take end b ++ take n (k.bytes c)) ≡ Opens s end n
    open_torn b s end left c n h part =
        let r = take n (k.bytes c) in
        let len : length r ≡ n = length-take-le n (k.bytes c) (omega arith) in
        let place : end + 0 ≡ end = omega arith in
        let rest : end + length r - end ≡ n = omega arith in
        open_goes_on k w b s end left h r
        ∙ ap (opened_at end (end + length r)) (run_short k w s r (front_cut k w c n part))
        ∙ opened_good end (end + length r) (stopped s false) refl
        ∙ ap (λ (i : ℕ). Opens s i (end + length r - i)) place
        ∙ ap (Opens s end) rest

    -- a journal that is cut back to its last whole record opens the same, with nothing left over
    pub open_again : (b : List ℕ) (s : S) (end left : ℕ) → open_journal k b ≡ Opens s end left → open_journal k (take end b) ≡ Opens s end 0
    unfolding front
    open_again b s end left h =
        let place : end + 0 ≡ end = omega arith in
        let none_left : end + 0 - end ≡ 0 = omega arith in
        ap (open_journal k) (sym (append-nil (take end b)))
        ∙ open_goes_on k w b s end left h []
        ∙ ap (opened_at end (end + 0)) (run_short k w s [] refl)
        ∙ opened_good end (end + 0) (stopped s false) refl
        ∙ ap (λ (i : ℕ). Opens s i (end + 0 - i)) place
        ∙ ap (Opens s end) none_left

    -- opening what was written equals making the call
    pub appends_call : (buffer : List ℕ) (len : ℕ) (c : C) (end n : ℕ)
        → Recorded k c
        → append k buffer len c ≡ Appended end n
        → AppendsCall k buffer len c end n
    appends_call buffer len c end n o h =
        let t = tested buffer len c end n h in
        let new : n ≡ end + size k c = t.length_is in
        let after : buffer_after k buffer len c ≡ overwritten buffer end (k.bytes c) = after_appended buffer len c end n h in
        let inside : end ≤ length (take len buffer) = end_inside k w (take len buffer) t.state end t.left t.opens in
        let within : end ≤ len = omega (arith, length-take-le len buffer t.stated) in
        let cut : take end (take len buffer) ≡ take end buffer = take-take end len buffer within in
        let long : length (take end buffer) ≡ end = length-take-le end buffer (omega (arith, t.fits)) in
        let written : take n (buffer_after k buffer len c) ≡ take end buffer ++ k.bytes c =
        ap (take n) after ∙ ap (λ (i : ℕ). take i (overwritten buffer end (k.bytes c))) new ∙ over_take buffer end (k.bytes c) t.fits in
        record {
          state = t.state;
          left = t.left;
          opens = t.opens;
          accepted = t.accepted;
          length_is = new;
          fits = omega (arith, t.fits);
          reopens =
              ap (open_journal k) written
              ∙ ap (λ (x : List ℕ). open_journal k (x ++ k.bytes c)) (sym cut)
              ∙ open_next (take len buffer) t.state end t.left c t.opens t.accepted o
              ∙ ap (λ (i : ℕ). Opens (k.make t.state c) i 0) (sym new);
          torn = λ m from below.
              let j = m - end in
              let sum : m ≡ end + j = omega arith in
              let part : take m (buffer_after k buffer len c) ≡ take end buffer ++ take j (k.bytes c) =
              sym (take-take m n (buffer_after k buffer len c) (omega arith))
              ∙ ap (take m) written
              ∙ ap (λ (i : ℕ). take i (take end buffer ++ k.bytes c)) (sum ∙ ap (λ (i : ℕ). i + j) (sym long))
              ∙ take-append-add (take end buffer) (k.bytes c) j in
              ap (open_journal k) part
              ∙ ap (λ (x : List ℕ). open_journal k (x ++ take j (k.bytes c))) (sym cut)
              ∙ open_torn (take len buffer) t.state end t.left c j t.opens (omega arith);
          written = written;
          beyond =
              ap (drop n) after
              ∙ ap (λ (i : ℕ). drop i (overwritten buffer end (k.bytes c))) new
              ∙ over_drop buffer end (k.bytes c) t.fits
              ∙ ap (λ (i : ℕ). drop i buffer) (sym new);
          as_long = ap length after ∙ over_long buffer end (k.bytes c) t.fits;
        }

    -- one call more at the end
    accepted_snoc : (s : S) (cs : List C) (c : C) → Accepted k s cs → k.fault (made k s cs) c ≡ none → Accepted k s (cs ++ (c ∷ []))
    unfolding made
    accepted_snoc s [] c a f = (f, tt)
    accepted_snoc s (d ∷ cs) c a f = (a.0, accepted_snoc (k.make s d) cs c a.1 f)

    recorded_snoc : (cs : List C) (c : C) → AllRecorded k cs → Recorded k c → AllRecorded k (cs ++ (c ∷ []))
    recorded_snoc [] c a o = (o, tt)
    recorded_snoc (d ∷ cs) c a o = (a.0, recorded_snoc cs c a.1 o)

    records_snoc : (cs : List C) (c : C) → records k (cs ++ (c ∷ [])) ≡ records k cs ++ k.bytes c
    unfolding records
    records_snoc [] c = append-nil (k.bytes c)
    records_snoc (d ∷ cs) c =
        ap (λ (x : List ℕ). k.bytes d ++ x) (records_snoc cs c) ∙ sym (append_assoc (k.bytes d) (records k cs) (k.bytes c))

    module _ (sheet : List ℕ) (p : Plan) (h : read_plan sheet ≡ whole p (length sheet)) where
      abbrev St : List ℕ → List C → Type 0
      St b cs = Stored k w sheet p h b cs

      -- up to the last whole record
      stored_end : {b : List ℕ} {cs : List C} → St b cs → take (length (journal_of k sheet cs)) b ≡ journal_of k sheet cs
      stored_end {b} {cs} st =
          ap (take (length (journal_of k sheet cs))) st.parts
          ∙ take_at (journal_of k sheet cs) st.rest (length (journal_of k sheet cs)) refl

      stored_cut_back : {b : List ℕ} {cs : List C}
          → St b cs
          → (s : S) (end left : ℕ)
          → open_journal k b ≡ Opens s end left
          → St (take end b) cs
      stored_cut_back {b} {cs} st s end left o =
          let e : end ≡ length (journal_of k sheet cs) = opens_end (sym o ∙ stored_opens k w sheet p h st) in
          record {
            accepted = st.accepted;
            recorded = st.recorded;
            rest = [];
            is_rest = nothing;
            parts = ap (λ (i : ℕ). take i b) e ∙ stored_end st ∙ sym (append-nil (journal_of k sheet cs));
          }

      stored_appended : {b : List ℕ} {cs : List C}
          → St b cs
          → (rest : List ℕ) (c : C) (at n : ℕ)
          → Recorded k c
          → append k (b ++ rest) (length b) c ≡ Appended at n
          → St (take n (buffer_after k (b ++ rest) (length b) c)) (cs ++ (c ∷ []))
      stored_appended {b} {cs} st rest c at n o a =
          let m = appends_call (b ++ rest) (length b) c at n o a in
          let j = journal_of k sheet cs in
          let opens : open_journal k b ≡ Opens m.state at m.left =
          ap (open_journal k) (sym (take_at b rest (length b) refl)) ∙ m.opens in
          let e = sym opens ∙ stored_opens k w sheet p h st in
          let end : at ≡ length j = opens_end e in
          let all : b ++ rest ≡ j ++ (st.rest ++ rest) =
          ap (λ (x : List ℕ). x ++ rest) st.parts ∙ append_assoc j st.rest rest in
          record {
            accepted = accepted_snoc (k.first p) cs c st.accepted (ap (λ (s : S). k.fault s c) (sym (opens_state e)) ∙ m.accepted);
            recorded = recorded_snoc cs c st.recorded o;
            rest = [];
            is_rest = nothing;
            parts =
                m.written
                ∙ ap (λ (i : ℕ). take i (b ++ rest) ++ k.bytes c) end
                ∙ ap (λ (x : List ℕ). take (length j) x ++ k.bytes c) all
                ∙ ap (λ (x : List ℕ). x ++ k.bytes c) (take_at j (st.rest ++ rest) (length j) refl)
                ∙ append_assoc sheet (records k cs) (k.bytes c)
                ∙ ap (λ (x : List ℕ). sheet ++ x) (sym (records_snoc cs c))
                ∙ sym (append-nil (journal_of k sheet (cs ++ (c ∷ []))));
          }

      empty_journal : sheet ≡ journal_of k sheet [] ++ []
      unfolding records
      empty_journal = sym (append-nil (journal_of k sheet []) ∙ append-nil sheet)

      -- whatever is kept
      pub kept_stored : {b : List ℕ} {cs : List C} → Kept k sheet b cs → St b cs
      kept_stored fresh = record {
        accepted = tt;
        recorded = tt;
        rest = [];
        is_rest = nothing;
        parts = empty_journal;
      }
      kept_stored (appended kp rest c at n o a) = stored_appended (kept_stored kp) rest c at n o a
      kept_stored (lost kp n fits) = stored_lost k w sheet p h (kept_stored kp) n fits
      kept_stored (cut_back kp s end left o) = stored_cut_back (kept_stored kp) s end left o

      pub kept_opens : {b : List ℕ} {cs : List C} → Kept k sheet b cs → open_journal k b ≡ opens_after k b sheet (k.first p) cs
      kept_opens kp = stored_opens k w sheet p h (kept_stored kp)

      -- storing a record byte by byte: what is kept is cut back first. With j bytes of the record there it still stands
      -- for the same calls; with all of them for one more
      module _ {b : List ℕ} {cs : List C} (kp : Kept k sheet b cs) (s : S) (end left : ℕ) (o : open_journal k b ≡ Opens s end left) (c : C) (f : k.fault s c ≡ none) (rd : Recorded k c) where
        abbrev back : List ℕ
        back = take end b

        back_long : length back ≡ end
        back_long = length-take-le end b (end_inside k w b s end left o)

        end_is : end ≡ length (journal_of k sheet cs)
        end_is = opens_end (sym o ∙ kept_opens kp)

        back_opens : open_journal k back ≡ Opens s end 0
        back_opens = open_again b s end left o

        abbrev with_record : List ℕ
        with_record = back ++ k.bytes c

        record_long : length with_record ≡ end + size k c
        record_long = length-append back (k.bytes c) ∙ ap (λ (i : ℕ). i + size k c) back_long

        is_appended_lem : append k with_record (length back) c ≡ Appended end (end + size k c)
        is_appended_lem =
            append_inside with_record (length back) c (le-ltb (length with_record) (length back) (omega (arith, record_long, back_long)))
            ∙ ap (append_to k (length with_record) c) (ap (open_journal k) (take_at back (k.bytes c) (length back) refl) ∙ back_opens)
            ∙ to_appended (length with_record) c s end 0 f (le-ltb (length with_record) (end + size k c) (omega (arith, record_long)))

        stored_bytes : take (end + size k c) (buffer_after k with_record (length back) c) ≡ with_record
        stored_bytes =
            (appends_call with_record (length back) c end (end + size k c) rd is_appended_lem).written
            ∙ ap (λ (l : List ℕ). l ++ k.bytes c) (take_at back (k.bytes c) end back_long)

        pub kept_record : Kept k sheet with_record (cs ++ (c ∷ []))
        kept_record =
            subst (λ (l : List ℕ). Kept k sheet l (cs ++ (c ∷ []))) stored_bytes
            (appended (cut_back kp s end left o) (k.bytes c) c end (end + size k c) rd is_appended_lem)

        pub kept_half : (j : ℕ) → j < size k c → Kept k sheet (back ++ take j (k.bytes c)) cs
        kept_half j part =
            let whole_long : length (journal_of k sheet cs) ≡ length sheet + length (records k cs) = length-append sheet (records k cs) in
            let fits : length sheet ≤ end + j = omega (arith, end_is) in
            let bytes : take (end + j) with_record ≡ back ++ take j (k.bytes c) =
            ap (λ (i : ℕ). take (i + j) with_record) (sym back_long) ∙ take-append-add back (k.bytes c) j in
            let exact : ExactlyWhole k (end + j - length sheet) (cs ++ (c ∷ [])) cs = record {
              lost = c ∷ [];
              first = refl;
              whole = omega (arith, end_is);
              no_more = λ d more e. let same : c ≡ d = cc in omega (arith, end_is, ap (size k) same);
            } in
            subst (λ (l : List ℕ). Kept k sheet l cs) bytes
            (subst (Kept k sheet (take (end + j) with_record)) (sym (exactly_unique k w (end + j - length sheet) (cs ++ (c ∷ [])) cs exact))
            (lost kept_record (end + j) fits))
