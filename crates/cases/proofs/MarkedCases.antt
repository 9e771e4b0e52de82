-- Every row of the table holds: it is computed from the port's definitions, rows of a kind together. For case C, which speaks of any packet
-- of a length, the frame's limit of 516 bytes is a law of the serial crate. Assumes nothing.
use Prim.Native.Nat.{ℕ, zero, suc}
use mathlib.Core.Path.{◌≡◌, ◌∙◌, ap, refl}
use mathlib.Core.Bool.{false}
use mathlib.Core.List.{List, [], ◌∷◌}
use native.Mathlib.Omega.{arith}
use lib.ListN.{length, drop_of_length-le}
use borrow.Author.Tests.{le-leb}
use Rattle.std.specs.Prelude.{Result, Ok, Err, ⊤}
use Rattle.checks.specs.Numbers.{Answer, answer, done}
use Rattle.checks.specs.Register.{bit_step, bit_steps, byte_step, check_from}
use Rattle.framing.specs.declared.error.FrameError.{FrameError}
use Rattle.framing.specs.declared.error.FrameError.TheVariants as writer
use Rattle.framing.specs.Writer.{writer_answer, written_answer}
use Rattle.framing.specs.Frame.{Sendable, escaped, escaped_all, frame}
use Rattle.serial.specs.Receiver.{agrees_of, consistent_of, fits_at, row_of, step_of}
use Rattle.serial.specs.Run.{outs_by, run_by}
use Rattle.framing.specs.Writer.{output_of, sendable}
use Rattle.framing.proofs.Answers.{same_written}
use Rattle.framing.proofs.FrameLaws.{frame_most}
use Rattle.i2c.specs.declared.encoder.EncodeError.{EncodeError}
use Rattle.i2c.specs.Decode.{body_answer, decode_answer as i2cAnswer, payload_part}
use Rattle.i2c.specs.Encode.{encode_answer, encode_output}
use Rattle.i2c.proofs.Answers.{same_encoded}
use Rattle.usb.specs.declared.head.HeaderError.{HeaderError}
use Rattle.usb.specs.declared.head.HeaderError.TheVariants.{BadPacket}
use Rattle.usb.specs.Decode.{decode_answer as usbAnswer}
use Rattle.usb.specs.Header.{headed_answer, header_answer, header_output}
use Rattle.usb.proofs.Answers.{same_headed}
use Rattle.transfer.specs.Builder.{append_answer, append_output, used_after}
use Rattle.cases.specs.Row.{Row, fits, given, refused}
use Rattle.cases.specs.Holds.{Holds, LettersCovered, MarkedCases, Writes, with_frame}
use Rattle.cases.specs.Table.{case_a, table}

-- ---- what is left in an output: an answer tells its result, so it is enough to look at what one result with the answer promised leaves

by_writer : (packet : List ℕ) (x : Result ℕ FrameError) (before : List ℕ) (r : Result ℕ FrameError) → written_answer r ≡ written_answer x
    → output_of r packet before ≡ output_of x packet before
by_writer packet x before r e = ap (λ (r : Result ℕ FrameError). output_of r packet before) (same_written r x e)

by_header : (size : ℕ) (x : Result ⊤ HeaderError) (before : List ℕ) (r : Result ⊤ HeaderError) → headed_answer r ≡ headed_answer x
    → header_output r size before ≡ header_output x size before
by_header size x before r e = ap (λ (r : Result ⊤ HeaderError). header_output r size before) (same_headed r x e)

-- ---- the rows, by their place in the table

-- the row at a place of a list holds
abbrev At : ℕ → List Row → Type 0
At n [] = Unit {0}
At zero (r ∷ rs) = Holds r.does r.comes
At (suc n) (r ∷ rs) = At n rs

-- and at a place of the table; the first has place 0
abbrev HoldsAt : ℕ → Type 0
HoldsAt n = At n table

-- a packet whose frame is written, since there is room
done_written : (packet : List ℕ) (room : ℕ) → writer_answer packet room ≡ answer done (length (frame packet) ∷ []) → Writes packet room (with_frame packet fits)
unfolding output_of
done_written packet room e = (
  ap (λ (a : Answer). given a.number a.values (frame packet) []) e,
  λ before k r p. by_writer packet (Ok (length (frame packet))) before r (p ∙ e),
)

-- A, and D where there is room
case_a_written : HoldsAt 0 × HoldsAt 8
unfolding writer_answer frame escaped_all escaped check_from byte_step bit_steps bit_step
case_a_written = (done_written case_a 516 refl, done_written case_a 12 refl)

case_d_11 : HoldsAt 7
unfolding writer_answer output_of frame escaped_all escaped
case_d_11 = (refl, λ before k. by_writer case_a (Err writer.ShortOutput) before)

-- C: a packet that is not sent, and one that is, for whose frame there is room
refused_any : (packet : List ℕ) → sendable packet ≡ false → Writes packet 516 (with_frame packet (refused 1))
unfolding writer_answer output_of
refused_any packet e = (rw e refl, λ before k r p. by_writer packet (Err writer.BadLength) before r (p ∙ rw e refl))

fits_any : (packet : List ℕ) → Sendable packet → Writes packet 516 (with_frame packet fits)
unfolding writer_answer
fits_any packet sent =
    done_written packet 516
    (simp (le-leb 5 (length packet) sent.1, le-leb (length packet) 255 sent.2, le-leb (length (frame packet)) 516 (frame_most packet sent)))

case_c : HoldsAt 3 × HoldsAt 4 × HoldsAt 5 × HoldsAt 6
case_c = (
  λ packet h e. refused_any packet (rw e refl),
  λ packet h e. refused_any packet (rw e refl),
  λ packet h e. fits_any packet (h, omega arith, omega arith),
  λ packet h e. fits_any packet (h, omega arith, omega arith),
)

-- what the receiver is fed: A's second row, B, E, F and N
cases_fed : HoldsAt 1 × HoldsAt 2 × HoldsAt 9 × HoldsAt 10 × HoldsAt 22
unfolding outs_by run_by step_of consistent_of fits_at row_of agrees_of check_from byte_step bit_steps bit_step
cases_fed = (refl, refl, refl, refl, refl)

case_g : HoldsAt 11
unfolding encode_answer encode_output
case_g = (refl, λ before k r p. ap (λ (r : Result ℕ EncodeError). encode_output r 0x20 0x1d false case_a before) (same_encoded r (Ok 9) p))

cases_h_i : HoldsAt 12 × HoldsAt 13
unfolding i2cAnswer body_answer payload_part
cases_h_i = (refl, refl)

cases_j_k : HoldsAt 14 × HoldsAt 15
unfolding usbAnswer
cases_j_k = (refl, refl)

case_l : HoldsAt 16 × HoldsAt 17
unfolding header_answer header_output
case_l = ((refl, λ before k r p. by_header 251 (Ok tt) before r p ∙ rw (drop_of_length-le before {i = 4} (omega arith))), (refl, λ before k. by_header 252 (Err BadPacket) before))

case_l_built : HoldsAt 18 × HoldsAt 19
unfolding append_answer append_output used_after
case_l_built = (λ packet before h e k. (rw e refl, rw (e, k) refl, rw e refl), λ packet before h e k. (rw e refl, rw e refl, rw e refl))

case_m : HoldsAt 20 × HoldsAt 21
unfolding check_from byte_step bit_steps bit_step
case_m = (refl, refl)

-- ---- every row

infixr 20 ◌then◌
-- a row, and those below it
◌then◌ : {P Q : Type 0} → P → Q → P × Q
p then q = (p, q)

pub marked_cases : MarkedCases
marked_cases =
    case_a_written.0 then cases_fed.0 then cases_fed.1 then case_c.0 then case_c.1 then case_c.2 then case_c.3 then case_d_11 then case_a_written.1
    then cases_fed.2 then cases_fed.3 then case_g then cases_h_i.0 then cases_h_i.1 then cases_j_k.0 then cases_j_k.1
    then case_l.0 then case_l.1 then case_l_built.0 then case_l_built.1 then case_m.0 then case_m.1 then cases_fed.4 then tt

pub letters_covered : LettersCovered
letters_covered = refl
