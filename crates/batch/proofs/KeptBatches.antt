-- A batch on a kept state: what the code reads and writes of it, and the theorems for hosts.
use Prim.Native.Nat.{ℕ, ◌≤◌}
use mathlib.Core.Logic.{◌≢◌, inl, inr}
use Rattle.std.specs.declared.option.Option.{Option}
use Rattle.std.specs.declared.option.Option.TheVariants.{None as none, Some as some}
use lib.ListN.{length}
use mathlib.Core.Bool.{true, false, cond}
use mathlib.Core.List.{List, ◌++◌}
use mathlib.Core.Path.{◌≡◌, refl, sym, ◌∙◌, ap}
use Rattle.batch.specs.Types.{Call, CallFault, Incoherent, State, Reply, BatchEntry}
use Rattle.plan.specs.Faults.{answer_number, is_turned_down}
use Rattle.plan.proofs.Tests.{clash, either}
use Rattle.scheduler.specs.Coherent.{coherent}
use Rattle.scheduler.specs.Lists.{scheduler, after}
use Rattle.scheduler.specs.Sheet.{read_sheet, admitted}
use Rattle.image.specs.Layout.{image_of, state_in, is_image, Whole}
use Rattle.image.proofs.Images.{image_is, read_back, write_back}
use Rattle.image.proofs.ImageCalls.{turned_down_lem, images_after_lem, after_whole, admitted_whole, hosts}
use Rattle.batch.specs.Batch.{calls_of, batch_fault, batch_reply, batch_entries}
use Rattle.batch.specs.Kept.{batch_number_on, image_after_batch, entries_on, HostedBatch}
use Rattle.batch.specs.Internal.Turns.{overfull, kept_state}
use Rattle.batch.proofs.Verdicts.{fault_incoherent, reply_some, reply_none, entries_some}
use Rattle.batch.proofs.Batches.{extends}

-- the state that the code reads
module _ (b : List ℕ) where
  pub kept_image : is_image b ≡ true → kept_state b ≡ state_in b
  unfolding kept_state
  kept_image h = rw h

  pub kept_other : is_image b ≡ false → kept_state b ≡ overfull (state_in b)
  unfolding kept_state
  kept_other h = rw h

  module _ (t : State) (same : t ≡ state_in b) where
    pub kept_spoilt : false ≡ is_image b → overfull t ≡ kept_state b
    kept_spoilt h = ap overfull same ∙ sym (kept_other (sym h))

    pub kept_read : true ≡ is_image b → t ≡ kept_state b
    kept_read h = same ∙ sym (kept_image (sym h))

-- it fails number 12 where the bytes are no image
overfull_fails : (s : State) → coherent (overfull s) ≡ false
unfolding coherent
overfull_fails s = refl

-- the branches of a batch on bytes
module _ (b : List ℕ) (es : List BatchEntry) where
  pub number_other : is_image b ≡ false → batch_number_on b es ≡ 12
  unfolding batch_number_on
  number_other h = rw h

  pub bytes_other : is_image b ≡ false → image_after_batch b es ≡ b
  unfolding image_after_batch
  bytes_other h = rw h

  pub entries_other : is_image b ≡ false → entries_on b es ≡ es
  unfolding entries_on
  entries_other h = rw h

  pub number_image : is_image b ≡ true → batch_number_on b es ≡ answer_number (batch_reply (state_in b) es).answer
  unfolding batch_number_on
  number_image h = rw h

  pub bytes_image : is_image b ≡ true → image_after_batch b es ≡ image_of (batch_reply (state_in b) es).state
  unfolding image_after_batch
  bytes_image h = rw h

  pub entries_image : is_image b ≡ true → entries_on b es ≡ batch_entries (state_in b) es
  unfolding entries_on
  entries_image h = rw h

-- a batch turned down gives back the state and the entries
pub turned_down_same : (s : State) (es : List BatchEntry)
    → is_turned_down (batch_reply s es).answer ≡ true
    → ((batch_reply s es).state ≡ s) × (batch_entries s es ≡ es)
turned_down_same s es t = go (batch_fault s (length es)) refl
  where
    go : (q : Option CallFault) → batch_fault s (length es) ≡ q → ((batch_reply s es).state ≡ s) × (batch_entries s es ≡ es)
    go (some f) h = (ap (λ (r : Reply). r.state) (reply_some s es f h), entries_some s es f h)
    go none h = absurd (clash t (ap (λ (r : Reply). is_turned_down r.answer) (reply_none s es h)))

-- what the code comes to: the batch on the state that it reads, noted in the bytes
abbrev pub noted : List ℕ → Reply → List ℕ
noted b r = cond (is_turned_down r.answer) b (image_of r.state)

abbrev pub OnBytes : List ℕ → List BatchEntry → Reply → List BatchEntry → Type 0
OnBytes b es r zs =
    (answer_number r.answer ≡ batch_number_on b es) × (noted b r ≡ image_after_batch b es) × (zs ≡ entries_on b es)

pub on_bytes : (b : List ℕ) (es : List BatchEntry)
    → length b ≡ 384
    → OnBytes b es (batch_reply (kept_state b) es) (batch_entries (kept_state b) es)
on_bytes b es z = elim (either (is_image b)) [
  | inl h ↦ rw (kept_image b h) (sym (number_image b es h), image h ∙ sym (bytes_image b es h), sym (entries_image b es h))
  | inr h ↦
      let r = reply_some (overfull (state_in b)) es Incoherent fails in
      let e = entries_some (overfull (state_in b)) es Incoherent fails in
      rw (kept_other b h, r, e) (sym (number_other b es h), sym (bytes_other b es h), sym (entries_other b es h))
]
  where
    fails : batch_fault (overfull (state_in b)) (length es) ≡ some Incoherent
    fails = fault_incoherent (overfull (state_in b)) (length es) (overfull_fails (state_in b))

    image : is_image b ≡ true → noted b (batch_reply (state_in b) es) ≡ image_of (batch_reply (state_in b) es).state
    image h = elim (either (is_turned_down (batch_reply (state_in b) es).answer)) [
      | inl d ↦ rw d (sym (ap image_of (turned_down_same (state_in b) es d).0 ∙ write_back b z h))
      | inr d ↦ rw d
    ]

-- a batch turned down leaves the bytes and the entries
pub batch_leaves : (b : List ℕ) (es : List BatchEntry)
    → length b ≡ 384
    → batch_number_on b es ≢ 0
    → (image_after_batch b es ≡ b) × (entries_on b es ≡ es)
batch_leaves b es z n = elim (either (is_image b)) [
  | inl h ↦
      let t = turned_down_same (state_in b) es (turned_down_lem (batch_reply (state_in b) es).answer (λ e. n (number_image b es h ∙ e))) in
      (bytes_image b es h ∙ ap image_of t.0 ∙ write_back b z h, entries_image b es h ∙ t.1)
  | inr h ↦ (bytes_other b es h, entries_other b es h)
]

-- an image stays one, and other bytes do not become one
pub batch_image : (b : List ℕ) (es : List BatchEntry) → is_image (image_after_batch b es) ≡ is_image b
batch_image b es = elim (either (is_image b)) [
  | inl h ↦ ap is_image (bytes_image b es h) ∙ image_is (batch_reply (state_in b) es).state ∙ sym h
  | inr h ↦ ap is_image (bytes_other b es h)
]

-- a batch on the image of a state
module _ (s : State) (es : List BatchEntry) (w : Whole s) where
  pub image_number : batch_number_on (image_of s) es ≡ answer_number (batch_reply s es).answer
  image_number =
      number_image (image_of s) es (image_is s)
      ∙ ap (λ (t : State). answer_number (batch_reply t es).answer) (read_back s w)

  pub image_after_lem : image_after_batch (image_of s) es ≡ image_of (batch_reply s es).state
  image_after_lem = bytes_image (image_of s) es (image_is s) ∙ ap (λ (t : State). image_of (batch_reply t es).state) (read_back s w)

  pub image_entries : entries_on (image_of s) es ≡ batch_entries s es
  image_entries = entries_image (image_of s) es (image_is s) ∙ ap (λ (t : State). batch_entries t es) (read_back s w)

-- a host that opens an admitted sheet, makes any calls on the bytes and then a batch has what the list of all these calls
-- gives. As what it has then are the bytes after a list again, batches and calls may follow one another
pub hosts_batch : (sheet : List ℕ) (s : State) (cs : List Call) (es : List BatchEntry)
    → read_sheet sheet ≡ admitted s
    → length es ≤ 64
    → HostedBatch s cs es
hosts_batch sheet s cs es h few =
    let w = admitted_whole sheet s h in
    let t = after_whole s cs w in
    let b = images_after_lem s cs w in
    let x = extends sheet s cs es h few in
    record {
      number =
          ap (λ (l : List ℕ). batch_number_on l es) b
          ∙ image_number (after scheduler s cs) es t
          ∙ ap (λ (r : Reply). answer_number r.answer) x.reply;
      bytes =
          ap (λ (l : List ℕ). image_after_batch l es) b
          ∙ image_after_lem (after scheduler s cs) es t
          ∙ ap (λ (r : Reply). image_of r.state) x.reply
          ∙ sym (images_after_lem s (cs ++ calls_of es) w);
      entries = ap (λ (l : List ℕ). entries_on l es) b ∙ image_entries (after scheduler s cs) es t ∙ x.entries;
      hosted = hosts sheet s (cs ++ calls_of es) h;
    }
