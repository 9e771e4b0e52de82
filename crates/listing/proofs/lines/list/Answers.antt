-- `listing::list` meets its contract: its tests are the definitions', in their order, and with the room that is asked the text fits. Assumes nothing.
use mathlib.Core.Path.{◌∙◌, sym}
use native.Mathlib.Omega.{arith}
use lib.ListN.{length}
use borrow.Author.Rules.{rules}
use borrow.Author.Tests.{leb-true}
use Rattle.serial.specs.Consistency.{Consistent}
use Rattle.listing.specs.Listing.{room_for}
use Rattle.listing.proofs.Room.{text_fits}
use Rattle.listing.proofs.lines.list.Goals as goal

pub list_all-requires : goal.list_all-requires
list_all-requires c =
    let consistent = sym c.consistent.ensures ∙ c.if-not-consistent.false in
    let roomy = sym c.has_room.ensures ∙ c.if-not-has_room.false in
    let state : Consistent c.args.receiver = record { sized = search rules; fits = consistent } in
    let fits = text_fits c.args.receiver c.args.input.now state (λ i. (c.type_inv.input i).fits) in
    (consistent, omega (arith, fits, leb-true (room_for (length c.args.input.now)) (length c.args.out.now) roomy))
