-- `state_in` meets its contract.
use Rattle.std.proofs.Common.{◌+◌, false, eqb, rules}
use Rattle.plan.specs.Fates.{blank_standing}
use Rattle.plan.specs.Histories.{blank_entry}
use Rattle.image.specs.Layout.{mark_at, shut_at, byte_at, standing_in, entry_in, state_in}
use Rattle.image.proofs.Made.{made}
use Rattle.image.proofs.read.state_in.Goals as goal

pub returns : goal.returns
unfolding state_in
returns c =
    let b = c.args.image.now in
    let standings = made c.from_fn.ensures.items (standing_in b) blank_standing (λ i y q lt k. search rules) in
    let broken = made c.from_fn-2.ensures.items (λ i. eqb (byte_at b (mark_at + i)) 1) false (λ i y q lt k. search rules) in
    let closed = made c.from_fn-3.ensures.items (λ i. eqb (byte_at b (shut_at + i)) 1) false (λ i y q lt k. search rules) in
    let history = made c.from_fn-4.ensures.items (entry_in b) blank_entry (λ i y q lt k. search rules) in
    let minute = c.word_in.ensures in
    simp (c.plan_in.ensures, standings, broken, closed, history, minute)
