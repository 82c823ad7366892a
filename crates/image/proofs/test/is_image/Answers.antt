-- `is_image` meets its contract.
use Rattle.std.proofs.Common.{◌+◌, eqb, ltb, rules}
use mathlib.Core.Bool.{and-true}
use Rattle.image.specs.Layout.{shut_at, spare_at, byte_at, place_ok, is_image}
use Rattle.image.proofs.Words.{words_pass}
use Rattle.image.proofs.test.is_image.Goals as goal

pub returns : goal.returns
unfolding is_image
returns c =
    let b = c.args.image.now in
    let places = c.all_pass.ensures (place_ok b) (λ i x lt k. search rules) in
    let closings = c.all_pass-2.ensures (λ k. ltb (byte_at b (shut_at + k)) 2) (λ i x lt k. search rules) in
    let spare = c.all_pass-3.ensures (λ k. eqb (byte_at b (spare_at + k)) 0) (λ i x lt k. search rules) in
    simp (places, closings, spare, words_pass b c.fits-image, and-true)
