-- `framing::frame_to_serial` meets its contract: its tests are the definition's, in the definition's order, since the length that it computes
-- is the frame's. Assumes nothing.
use Rattle.std.proofs.Common.{◌≡◌, ◌≤◌, ◌<◌, [], ◌∷◌, ap, arith, false, leb, length, List, refl, rules, true, ℕ}
use borrow.Author.Tests.{le-leb, leb-true, lt-leb}
use Rattle.checks.specs.Numbers.{answer, done, short_output}
use Rattle.checks.proofs.Choice.{right}
use Rattle.framing.specs.Frame.{frame, packet_least, packet_most}
use Rattle.framing.specs.Numbers.{bad_length}
use Rattle.framing.specs.Writer.{output_of, sendable, writer_answer}
use Rattle.framing.proofs.FrameLaws.{escapes_most, frame_length}
use Rattle.framing.proofs.Writer.{le_tested}
use Rattle.framing.proofs.frame.frame_to_serial.Goals as goal

sendable_few : (packet : List ℕ) → sendable packet ≡ true → length packet ≤ packet_most
sendable_few packet h = leb-true (length packet) packet_most (right (leb packet_least (length packet)) (leb (length packet) packet_most) h)

refused : (packet : List ℕ) (room : ℕ) → sendable packet ≡ false → answer bad_length [] ≡ writer_answer packet room
unfolding writer_answer
refused packet room h = simp h

no_room : (packet : List ℕ) (room : ℕ) → sendable packet ≡ true → room < length (frame packet) → answer short_output [] ≡ writer_answer packet room
unfolding writer_answer
no_room packet room h short = simp (h, lt-leb (length (frame packet)) room short)

with-room : (packet : List ℕ) (room n : ℕ) → sendable packet ≡ true → n ≡ length (frame packet) → n ≤ room
    → answer done (n ∷ []) ≡ writer_answer packet room
unfolding writer_answer
with-room packet room n h e fits =
    simp (h, le-leb (length (frame packet)) room (omega arith)) (ap (λ (m : ℕ). answer done (m ∷ [])) e)

pub returns-then-not-contains : goal.returns-then-not-contains
unfolding output_of
returns-then-not-contains c =
    let packet = c.args.packet.now in
    let not : sendable packet ≡ false = search (rules, le_tested) in
    record { result_value = refused packet _ not; out_after = refl }

pub overflow_add-len : goal.overflow_add-len
overflow_add-len c =
    let e = escapes_most c.args.packet.now in
    record { fits = omega arith }

pub overflow_add-len-2 : goal.overflow_add-len-2
overflow_add-len-2 c =
    let packet = c.args.packet.now in
    let sent : sendable packet ≡ true = search (rules, le_tested) in
    let few = sendable_few packet sent in
    let e = escapes_most packet in
    record { fits = omega arith }

pub returns-then-out-len : goal.returns-then-out-len
unfolding output_of
returns-then-out-len c =
    let packet = c.args.packet.now in
    let sent : sendable packet ≡ true = search (rules, le_tested) in
    let e = frame_length packet in
    record { result_value = no_room packet _ sent (omega arith); out_after = refl }

pub write_frame-requires : goal.write_frame-requires
write_frame-requires c =
    let packet = c.args.packet.now in
    let sent : sendable packet ≡ true = search (rules, le_tested) in
    let e = frame_length packet in
    (sendable_few packet sent, omega arith)

pub returns : goal.returns
unfolding output_of
returns c =
    let packet = c.args.packet.now in
    let sent : sendable packet ≡ true = search (rules, le_tested) in
    let e = frame_length packet in
    record { result_value = with-room packet _ _ sent (omega arith) (omega arith); out_after = c.write_frame.ensures }
