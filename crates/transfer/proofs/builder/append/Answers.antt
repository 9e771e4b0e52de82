-- `append` meets its contract: its tests are the definition's, and what `put` writes into the part behind the used bytes is written there in the
-- output. Assumes nothing.
use Prim.Native.Nat.{ℕ, ◌+◌, ◌-◌, ◌≤◌, ◌<◌, min}
use mathlib.Core.Path.{◌≡◌, ◌∙◌, ap, ap₂, refl, sym}
use mathlib.Core.Bool.{Bool, true, false, cond, not, ◌&&◌}
use mathlib.Core.List.{List, []}
use native.Mathlib.Omega.{arith}
use lib.Dec.{eqb, leb}
use lib.ListN.{drop, length, length-drop, take}
use borrow.Author.Tests.{le-leb, leb-true, lt-leb}
use borrow.Author.Rules.{part_to_end}
use borrow.Rule.Slice.PartMut.{put_mid}
use Rattle.checks.specs.Numbers.{Answer, answer, done}
use Rattle.checks.specs.Output.{at_start, put_at}
use Rattle.checks.proofs.Choice.{and}
use Rattle.checks.proofs.Output.{put_lent}
use Rattle.usb.specs.Header.{framed, header_size, packet_most, sendable}
use Rattle.usb.specs.Numbers.{bad_packet, no_room}
use Rattle.transfer.specs.Builder.{append_answer, append_output, fits, limit, transfer_most, used_after}
use Rattle.transfer.proofs.Limit.{limit_min, limit_room}
use Rattle.transfer.proofs.builder.append.Goals as goal
use Rattle.transfer.proofs.builder.append.Goals.{then-used-most-via-then-used-most, then-used-most-via-else-used-most+then-most-used}

-- the two tests below a limit are one
below : (used size most : ℕ) → used + size ≤ most → (leb used most && leb size (most - used)) ≡ true
below used size most h = and (le-leb used most (omega arith)) (le-leb size (most - used) (omega arith))

not-below : (used size most : ℕ) → most < used + size → (leb used most && leb size (most - used)) ≡ false
not-below used size most h = go (leb used most) refl
  where
    go : (t : Bool) → leb used most ≡ t → (t && leb size (most - used)) ≡ false
    go true e = lt-leb size (most - used) (omega (arith, leb-true used most e))
    go false e = refl

-- an answer, a used count and an output are what the definitions say
abbrev Leaves : List ℕ → List ℕ → ℕ → Answer → ℕ → List ℕ → Type 0
Leaves packet out used a n after = (a ≡ append_answer (length packet) used (length out))
    × ((n ≡ used_after (length packet) used (length out)) × (after ≡ append_output packet used out))

-- the count and the output go by the answer
by_answer : (packet out : List ℕ) (used : ℕ) (a : Answer) → a ≡ append_answer (length packet) used (length out)
    → Leaves packet out used a (cond (eqb a.number done) (used + (length packet + header_size)) used)
    (cond (eqb a.number done) (put_at used (framed packet) out) out)
unfolding used_after append_output
by_answer packet out used a e = (
  e,
  (
    ap (λ (b : Answer). cond (eqb b.number done) (used + (length packet + header_size)) used) e,
    ap (λ (b : Answer). cond (eqb b.number done) (put_at used (framed packet) out) out) e,
  ),
)

-- and the answer by the two tests, on the packet and on the room
by_tests : (size used room : ℕ) (s f : Bool) → sendable size ≡ s → fits size used room ≡ f
    → cond (not s) (answer bad_packet []) (cond (not f) (answer no_room []) (answer done [])) ≡ append_answer size used room
unfolding append_answer
by_tests size used room s f h k =
    ap₂ (λ (x y : Bool). cond (not x) (answer bad_packet []) (cond (not y) (answer no_room []) (answer done []))) (sym h) (sym k)

without_room : (packet out : List ℕ) (used : ℕ) → length packet ≤ packet_most → limit (length out) < used + (length packet + header_size)
    → Leaves packet out used (answer no_room []) used out
without_room packet out used small full =
    by_answer packet out used (answer no_room [])
    (by_tests (length packet) used (length out) true false (le-leb (length packet) packet_most small)
    (not-below used (length packet + header_size) (limit (length out)) full))

-- what is written into the part behind the used bytes is written there in the output
with-room : (packet out : List ℕ) (used : ℕ) (back : List ℕ) → length packet ≤ packet_most
    → used + (length packet + header_size) ≤ limit (length out) → back ≡ at_start (framed packet) (take (length out - used) (drop used out))
    → Leaves packet out used (answer done []) (used + (length packet + header_size)) (put_mid used (length out - used) out back)
with-room packet out used back small room written =
    let free = below used (length packet + header_size) (limit (length out)) room in
    let e = by_tests (length packet) used (length out) true true (le-leb (length packet) packet_most small) free in
    let all = by_answer packet out used (answer done []) e in
    (all.0, (all.1.0, put_lent used (framed packet) out back (omega (arith, limit_room (length out))) written ∙ all.1.1))

pub returns-then-packet-gt-MCTP_USB_MTU_MAX : goal.returns-then-packet-gt-MCTP_USB_MTU_MAX
returns-then-packet-gt-MCTP_USB_MTU_MAX c =
    let a = c.args in
    let all =
    by_answer a.packet.now a.out.now a.used.now (answer bad_packet [])
    (by_tests (length a.packet.now) a.used.now (length a.out.now) false _ (lt-leb _ _ c.if-packet-gt-MCTP_USB_MTU_MAX.true) refl)
    in
    record { answer_value = all.0; used_value = all.1.0; out_after = all.1.1 }

-- what `min` gave is the limit
most : (n room : ℕ) → n ≡ min room transfer_most → n ≡ limit room
most n room e = e ∙ limit_min room

pub returns-then-used-most : goal.returns-then-used-most
returns-then-used-most c =
    let a = c.args in
    let limited = most c.min-most.result (length a.out.now) c.min-most.ensures in
    let all = without_room a.packet.now a.out.now a.used.now (omega arith) (elim c.then-used-most.branch [
      | then-used-most-via-then-used-most w ↦ omega (arith, limited)
      | then-used-most-via-else-used-most+then-most-used w ↦ omega (arith, limited)
    ]) in
    record { answer_value = all.0; used_value = all.1.0; out_after = all.1.1 }

-- the used bytes end within the output
pub put-requires : goal.put-requires
put-requires c =
    let out = c.args.out.now in
    let used = c.args.used.now in (
      omega arith,
      omega (arith, most c.min-most.result (length out) c.min-most.ensures, limit_room (length out), ap length (part_to_end out used), length-drop used out),
    )

pub returns : goal.returns
returns c =
    let a = c.args in
    let limited = most c.min-most.result (length a.out.now) c.min-most.ensures in
    let all =
    with-room a.packet.now a.out.now a.used.now c.put.new.part (omega arith) (omega (arith, limited)) c.put.ensures
    in
    record { answer_value = all.0; used_value = all.1.0; out_after = all.1.1 }
