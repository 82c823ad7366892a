-- `search` meets its contract.
use native.Mathlib.Omega.{arith}
use Rattle.std.proofs.Common.{rules}
use mathlib.Core.Bool.{Bool}
use mathlib.Core.Path.{sym, ◌∙◌, ap, ap₂}
use Rattle.std.specs.declared.option.Option.{Option}
use Rattle.std.specs.declared.option.Option.TheVariants.{Some as some}
use Rattle.scheduler.specs.declared.order.Found.{Found}
use Rattle.scheduler.specs.Prelude.{Fate}
use Rattle.plan.specs.Fates.{is_open, done_as}
use Rattle.orders.proofs.Lowest.{lowest_some}
use Rattle.scheduler.specs.State.{fate_of, settle_as, Sized}
use Rattle.scheduler.proofs.SearchLoops.{with_event, lowest_missing, ground_one, search_end, search_more, search_full, search_stuck, search_took}
use Rattle.scheduler.proofs.order.+search.Goals as goal
use Rattle.scheduler.proofs.order.+search.Goals.{then-is_some+in_ok-found, else-is_some}

pub returns-then-is_none : goal.returns-then-is_none
returns-then-is_none t c =
    ap {B = Option Found} some c.blank_order.ensures
    ∙ search_end c.args.s.now c.args.left c.args.at c.args.places (sym c.lowest_of.ensures ∙ lowest_missing _ c.if-is_none.ensures)

pub returns-then-places-eq0 : goal.returns-then-places-eq0
returns-then-places-eq0 t c =
    search_full c.args.s.now c.args.left c.args.at c.args.places
    (search_more c.args.s.now c.args.left c.args.at c.args.places (rw c.lowest_of.ensures at c.if-is_none.ensures))
    c.if-places-eq0.true

pub returns-in_err-x : goal.returns-in_err-x
returns-in_err-x t c =
    let s = c.args.s.now in
    c.from_residual.ensures
    ∙ search_stuck s c.args.left c.args.at c.args.places _ _
    (c.blocked.ensures s.plan s.broken (fate_of s) c.requires.grounds)
    c.without.ensures
    (search_more s c.args.left c.args.at c.args.places (rw c.lowest_of.ensures at c.if-is_none.ensures))
    c.if-places-eq0.false
    (sym c.in_err-x.ensures)

pub search-requires : goal.search-requires
search-requires t c =
    let s = c.args.s.now in
    let x = c.in_ok-x.x in
    let z : Sized s = record { standings_len = omega arith; broken_len = omega arith; closed_len = omega arith; history_len = omega arith } in
    let lt = (lowest_some 16 _ x (sym c.in_ok-x.ensures)).below in
    let told = c.is_open-opened.ensures ∙ ap is_open c.fate.ensures in
    let made = c.settle_as.ensures ∙ ap (λ (f : Fate). settle_as f s x) (c.done_as.ensures ∙ ap done_as told) in (
      omega (arith, c.if-places-eq0.false),
      (
        omega (arith, c.requires.fits, c.if-places-eq0.false),
        rw made (ground_one s x c.after.result z lt (c.after.ensures s.plan s.broken (fate_of s) lt c.requires.grounds)),
      ),
    )

pub returns-in_err-found : goal.returns-in_err-found
returns-in_err-found t c =
    let s = c.args.s.now in
    let x = c.in_ok-x.x in
    let told = c.is_open-opened.ensures ∙ ap is_open c.fate.ensures in
    let made = c.settle_as.ensures ∙ ap (λ (f : Fate). settle_as f s x) (c.done_as.ensures ∙ ap done_as told) in
    let z : Sized s = record { standings_len = omega arith; broken_len = omega arith; closed_len = omega arith; history_len = omega arith } in
    let took = search_took s c.args.left c.args.at c.args.places _ _
    (c.blocked.ensures s.plan s.broken (fate_of s) c.requires.grounds)
    c.without.ensures
    (search_more s c.args.left c.args.at c.args.places (rw c.lowest_of.ensures at c.if-is_none.ensures))
    c.if-places-eq0.false
    x
    (sym c.in_ok-x.ensures)
    z
    _ _ c.with_if.ensures c.without-rest.ensures _ told in
    c.from_residual-in_err-found.ensures ∙ took.miss (rw made at c.in_err-found.ensures)

pub returns : goal.returns
returns t c =
    let s = c.args.s.now in
    let x = c.in_ok-x.x in
    let z : Sized s = record { standings_len = omega arith; broken_len = omega arith; closed_len = omega arith; history_len = omega arith } in
    let told = c.is_open-opened.ensures ∙ ap is_open c.fate.ensures in
    let took = search_took s c.args.left c.args.at c.args.places _ _
    (c.blocked.ensures s.plan s.broken (fate_of s) c.requires.grounds)
    c.without.ensures
    (search_more s c.args.left c.args.at c.args.places (rw c.lowest_of.ensures at c.if-is_none.ensures))
    c.if-places-eq0.false
    x
    (sym c.in_ok-x.ensures)
    z
    _ _ c.with_if.ensures c.without-rest.ensures _ told in
    elim c.if-is_some.branch [
      | then-is_some+in_ok-found w ↦
          let made = w.settle_as.ensures ∙ ap (λ (f : Fate). settle_as f s x) (w.done_as.ensures ∙ ap done_as told) in
          ap₂ (λ (r : Found) (b : Bool). some (with_event r c.args.at x b)) w.found-is (search rules)
          ∙ took.hit _ (rw made at w.in_ok-found.ensures)
      | else-is_some w ↦
          ap₂ (λ (r : Found) (b : Bool). some (with_event r c.args.at x b)) (w.found-is ∙ c.blank_order-found.ensures) (search rules)
          ∙ took.last (sym c.lowest_of-3.ensures ∙ lowest_missing _ (sym w.if-is_some.ensures))
    ]
