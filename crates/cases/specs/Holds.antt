-- What it means that a row of the table holds, and that all do. Each clause is an equation, or for any packet and any output an equation, between
-- what the port's definitions give, those that the functions' contracts name, and what comes out by the row. The proofs: `proofs/MarkedCases.antt`.
-- Assumes nothing.
use Rattle.std.specs.Prelude.{ℕ, zero, suc, ◌≡◌, false, List, [], ◌∷◌, ◌++◌, length}
use Rattle.checks.specs.FrameCheck.{frame_check}
use Rattle.checks.specs.Laws.{Bytes}
use Rattle.checks.specs.Numbers.{Answer}
use Rattle.checks.specs.Output.{at_start}
use Rattle.checks.specs.PacketErrorCode.{pec_of}
use Rattle.checks.specs.Part.{bytes_of}
use Rattle.framing.specs.Writer.{writer_answer, written_answer}
use Rattle.framing.specs.Frame.{frame}
use Rattle.serial.specs.Receiver.{fresh_of}
use Rattle.serial.specs.Run.{outs_of, run_of}
use Rattle.framing.specs.Writer.{output_of}
use Rattle.i2c.specs.Decode.{decode_answer as i2cAnswer, payload_part}
use Rattle.i2c.specs.Encode.{encode_answer, encode_output, encoded_answer}
use Rattle.usb.specs.Decode.{decode_answer as usbAnswer, packet_part, remainder_part}
use Rattle.usb.specs.Header.{headed_answer, header_answer, header_output}
use Rattle.transfer.specs.Builder.{append_answer, append_output, used_after}
use Rattle.cases.specs.Row.{Comes, Doing, Letter, Row, given, received, value}
use Rattle.cases.specs.Row.{A, B, C, D, E, F, G, H, I, J, K, L, M, N}
use Rattle.cases.specs.Row.{frame_check_over, frame_to_serial, frame_to_serial_any, pec_over, receiver_fed}
use Rattle.cases.specs.Row.{i2c_decode, i2c_encode, usb_append_any, usb_decode, usb_header}
use Rattle.cases.specs.Table.{table}

-- ---- answers and parts

-- an answer, with the bytes of one part or of two, is what comes out
abbrev pub Gives : Answer → List ℕ → List ℕ → Comes → Type 0
Gives a first second c = given a.number a.values first second ≡ c

-- ---- lent outputs

-- whatever an output of `room` bytes held, after a result that has the answer promised these bytes stand at its start, and the rest is as it was
abbrev pub Leaves : {Result : Type 0} → (Result → Answer) → Answer → ℕ → (Result → List ℕ → List ℕ) → List ℕ → Type 0
Leaves {Result} answer_of promised room after bytes =
    (before : List ℕ) → length before ≡ room → (r : Result) → answer_of r ≡ promised → after r before ≡ at_start bytes before

-- these where it is done, and none where it is refused
abbrev pub where_done : ℕ → List ℕ → List ℕ
where_done zero xs = xs
where_done (suc number) xs = []

-- the frame writer, on a packet, answers this and leaves these bytes
abbrev pub Writes : List ℕ → ℕ → Comes → Type 0
Writes packet room c =
    Gives (writer_answer packet room) c.bytes [] c
    × Leaves written_answer (writer_answer packet room) room (λ r before. output_of r packet before) c.bytes

-- what comes out for any packet, and where it is done this one's frame and the frame's length
abbrev pub with_frame : List ℕ → Comes → Comes
with_frame packet c =
    record {
      number = c.number;
      values = c.values ++ where_done c.number (length (frame packet) ∷ []);
      bytes = c.bytes ++ where_done c.number (frame packet);
      behind = c.behind;
      handed = c.handed;
      position = c.position;
    }

-- ---- a row holds

-- what comes out of what is done is c; the number of bytes that the builder has used is that of those it wrote
abbrev pub Holds : Doing → Comes → Type 0
Holds (frame_to_serial packet room) c = Writes packet room c
Holds (frame_to_serial_any size room) c = (packet : List ℕ) → Bytes packet → length packet ≡ size → Writes packet room (with_frame packet c)
Holds (receiver_fed stream) c = received (outs_of 0 fresh_of stream) (run_of fresh_of stream).position ≡ c
Holds (i2c_encode own dest payload room) c =
    let promised = encode_answer own dest false (length payload) room in
    Gives promised c.bytes [] c × Leaves encoded_answer promised room (λ r before. encode_output r own dest false payload before) c.bytes
Holds (i2c_decode input) c = Gives (i2cAnswer false input) (bytes_of (payload_part false input) input) [] c
Holds (usb_decode input) c = Gives (usbAnswer input) (bytes_of (packet_part input) input) (bytes_of (remainder_part input) input) c
Holds (usb_header size) c =
    Gives (header_answer size 4) c.bytes [] c × Leaves headed_answer (header_answer size 4) 4 (λ r before. header_output r size before) c.bytes
Holds (usb_append_any size) c = (packet before : List ℕ) → Bytes packet → length packet ≡ size → length before ≡ 512
    → Gives (append_answer (length packet) 0 512) c.bytes [] c
    × (append_output packet 0 before ≡ at_start (c.bytes ++ where_done c.number packet) before)
    × (used_after (length packet) 0 512 ≡ length (c.bytes ++ where_done c.number packet))
Holds (frame_check_over bytes) c = value (frame_check bytes) ≡ c
Holds (pec_over bytes) c = value (pec_of bytes) ≡ c

-- ---- all of them

-- every row of a list holds
abbrev EveryRow : List Row → Type 0
EveryRow [] = Unit {0}
EveryRow (r ∷ rs) = Holds r.does r.comes × EveryRow rs

-- the marked cases hold
abbrev pub MarkedCases : Type 0
MarkedCases = EveryRow table

-- the letters of rows
abbrev pub letters : List Row → List Letter
letters [] = []
letters (r ∷ rs) = r.letter ∷ letters rs

-- no case is left out: these are the table's letters in their order, each as often as the case has rows
abbrev pub LettersCovered : Type 0
LettersCovered = letters table
    ≡ A ∷ A ∷ B ∷ C ∷ C ∷ C ∷ C ∷ D ∷ D ∷ E ∷ F ∷ G ∷ H ∷ I ∷ J ∷ K ∷ L ∷ L ∷ L ∷ L ∷ M ∷ M ∷ N ∷ []

-- ---- a row says all

-- what comes out of what is done is one: a row with another number, value, byte, place or position does not hold. The proof: `proofs/Definite.antt`
abbrev pub Definite : Type 0
Definite = (d : Doing) (c c' : Comes) → Holds d c → Holds d c' → c ≡ c'
