-- The lowest event of a set: the zeros below the lowest bit of its number.
use Prim.Native.Nat.{ℕ, ◌^◌, ◌<◌, zero-le}
use native.Mathlib.Omega.{arith}
use borrow.Author.Tests.{lt-ltb}
use mathlib.Core.Path.{◌≡◌}
use mir.Syntax.{w16}
use lib.Count.{count_trailing_zeros}
use Rattle.std.proofs.lemmas.Nat.Bits.{bit_at-trailing_zeros}
use Rattle.plan.specs.Base.{lowest}
use Rattle.orders.proofs.Lowest.{first_at, first_nowhere}
use Rattle.members.specs.Prelude.{none, some}
use Rattle.members.specs.Sets.{in_set}
use Rattle.members.proofs.Bits.{in_zero}

pub lowest_empty : lowest 16 (in_set 0) ≡ none
unfolding lowest
lowest_empty = first_nowhere 16 0 _ (λ j lo hi. rw (in_zero j))

pub lowest_zeros : (set : ℕ) → 0 < set → set < 2 ^ 16 → lowest 16 (in_set set) ≡ some (count_trailing_zeros 16 set)
unfolding lowest in_set
lowest_zeros set more fits =
    let h = bit_at-trailing_zeros w16 set more fits in
    first_at 16 0 _ (count_trailing_zeros 16 set) _ zero-le h.0
    (rw (lt-ltb _ 16 h.0, h.1))
    (λ j lo hi. rw (lt-ltb j 16 (omega (arith, h.0)), h.2 j hi))
