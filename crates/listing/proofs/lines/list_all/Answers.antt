-- `listing::lines::list_all` meets its contract: its loop is a listing under way, and a turn is one call of the taker. Assumes nothing.
use Prim.Native.Nat.{ℕ, ◌+◌, ◌≤◌}
use mathlib.Core.Path.{◌≡◌, ap, subst, sym}
use mathlib.Core.List.{List, [], ◌∷◌}
use native.Mathlib.Omega.{arith}
use lib.ListN.{length}
use lib.Seq.{length-take-le}
use borrow.Author.Rules.{part_to_end, rules}
use borrow.Author.Tests.{tests}
use Rattle.checks.specs.Numbers.{answer, done}
use Rattle.listing.proofs.Going.{Going, begun, counted_within, ended, moved, rest_fits, taken_some, taken_within}
use Rattle.listing.proofs.lines.list_all.Goals as goal

pub loop-rest-init : goal.loop-rest-init
loop-rest-init c =
    begun c.args.input.now c.args.out.now c.args.receiver (λ i. (c.type_inv.input i).fits) c.requires.1
    (record { sized = search rules; fits = c.requires.0 })

pub list_next-turn-requires : goal.list_next-turn-requires
list_next-turn-requires c = (c.loop-rest.invariant.fits.fits, rest_fits c.loop-rest.invariant)

pub slice_bounds-rest-count : goal.slice_bounds-rest-count
slice_bounds-rest-count c = taken_within c.loop-rest.invariant c.list_next-turn.ensures

pub slice_bounds-rest-start : goal.slice_bounds-rest-start
slice_bounds-rest-start c =
    let h = taken_within c.loop-rest.invariant c.list_next-turn.ensures in
    search rules

pub overflow_add-packets : goal.overflow_add-packets
overflow_add-packets c =
    let h = counted_within c.loop-rest.invariant c.list_next-turn.ensures in
    search rules

pub loop-rest-smaller : goal.loop-rest-smaller
loop-rest-smaller c =
    let rest = c.loop-rest.rest.now in
    let some : 1 ≤ length rest = search (rules, tests) in
    omega (
      arith,
      ap length (part_to_end rest c.list_next-turn.result.taken),
      taken_some c.loop-rest.invariant c.list_next-turn.ensures some,
      taken_within c.loop-rest.invariant c.list_next-turn.ensures,
    )

pub loop-rest-preserved : goal.loop-rest-preserved
loop-rest-preserved c =
    subst
    (λ (xs : List ℕ). Going c.args.input.now c.args.out.now c.args.receiver c.list_next-turn.new.out c.list_next-turn.result.state xs
    c.list_next-turn.result.used (c.loop-rest.packets + c.list_next-turn.result.packets))
    (sym (part_to_end c.loop-rest.rest.now c.list_next-turn.result.taken)) (moved c.loop-rest.invariant c.list_next-turn.ensures)

pub returns : goal.returns
returns c =
    let l = c.loop-rest in
    let none : length l.rest.now ≡ 0 = search (rules, tests) in
    let e = ended l.invariant none in
    let room : l.used ≤ length l.out = omega (arith, e.0, l.invariant.room, l.invariant.sized) in
    record {
      answer_value = ap (λ (n : ℕ). answer done (n ∷ [])) e.0;
      within = (room, sym (length-take-le _ l.out room));
      packets_value = e.1;
      state_value = e.2;
      out_after = e.3;
    }
