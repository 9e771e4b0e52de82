-- What a row of the table of marked cases is: a letter, what is done, and what comes out of it. What it means that a row holds is in
-- `specs/Holds.antt`. Assumes nothing.
use Rattle.std.specs.Prelude.{ℕ, List, [], ◌∷◌}
use Rattle.serial.specs.declared.receiver.Position.{Position}

-- the letters of document 01's marked cases
pub data Letter : Type 0 where
  A B C D E F G H I J K L M N : Letter

-- ---- what is done

-- a call, or the bytes fed to a receiver
pub data Doing : Type 0 where
  -- the frame writer is called on this packet, with an output of so many bytes
  frame_to_serial : (packet : List ℕ) (room : ℕ) → Doing
  -- the frame writer is called on any packet of so many bytes, with an output of so many
  frame_to_serial_any : (size room : ℕ) → Doing
  -- a fresh receiver is fed these bytes
  receiver_fed : (stream : List ℕ) → Doing
  -- I2C encode without PEC, from our own address to a destination, with an output of so many bytes
  i2c_encode : (own dest : ℕ) (payload : List ℕ) (room : ℕ) → Doing
  -- I2C decode of these bytes, without PEC
  i2c_decode : (input : List ℕ) → Doing
  -- USB decode of these bytes
  usb_decode : (input : List ℕ) → Doing
  -- the USB header of a packet of so many bytes, into four bytes
  usb_header : (size : ℕ) → Doing
  -- the USB builder is given any packet of so many bytes, with 512 bytes of which none is used
  usb_append_any : (size : ℕ) → Doing
  -- the frame check of these bytes
  frame_check_over : (bytes : List ℕ) → Doing
  -- the PEC of these bytes
  pec_over : (bytes : List ℕ) → Doing

-- ---- what comes out

-- of a call its number and values and what it writes or finds, of a receiver packets and a position; what there is not is empty
pub record Comes : Type 0 where
  -- document 01's number, and the values that come with it: a length, an address, a check value
  pub number : ℕ
  pub values : List ℕ
  -- the bytes written at the output's start, or the payload, or the packet
  pub bytes : List ℕ
  -- the remainder
  pub behind : List ℕ
  -- the packets that a receiver hands out, each with the place of the byte on which it comes; the first byte has place 0
  pub handed : List (ℕ × List ℕ)
  -- and its position after the last byte; none where there is no receiver
  pub position : List Position

-- a number with its values, and bytes
abbrev pub given : ℕ → List ℕ → List ℕ → List ℕ → Comes
given n vs first second = record { number = n; values = vs; bytes = first; behind = second; handed = []; position = [] }

-- packets handed out, and a position
abbrev pub received : List (ℕ × List ℕ) → Position → Comes
received packets p = record { number = 0; values = []; bytes = []; behind = []; handed = packets; position = p ∷ [] }

-- ---- in the paper's words

-- a refusal: no value, no bytes, and nothing is written
abbrev pub refused : ℕ → Comes
refused n = given n [] [] []

-- done: these bytes are written, and their number is answered
abbrev pub written : ℕ → List ℕ → Comes
written n bytes = given 0 (n ∷ []) bytes []

-- done, for any packet: its frame is written, and the frame's length is answered
abbrev pub fits : Comes
fits = given 0 [] [] []

-- done: a header is written
abbrev pub headed : List ℕ → Comes
headed bytes = given 0 [] bytes []

-- a payload, from an address
abbrev pub payload_from : List ℕ → ℕ → Comes
payload_from payload source = given 0 (source ∷ []) payload []

-- a packet of so many bytes, and the remainder
abbrev pub packet_then : ℕ → List ℕ → List ℕ → Comes
packet_then n packet rest = given 0 (n ∷ []) packet rest

-- a check value
abbrev pub value : ℕ → Comes
value n = given 0 (n ∷ []) [] []

-- a packet is handed out on the byte at this place, and the receiver is in this position after the last byte
abbrev pub handed_at : ℕ → List ℕ → Position → Comes
handed_at place packet p = received ((place, packet) ∷ []) p

-- nothing is handed out, and the receiver is in this position after the last byte
abbrev pub nothing_then : Position → Comes
nothing_then p = received [] p

-- ---- a row

-- a letter, what is done, and what comes out
pub record Row : Type 0 where
  pub letter : Letter
  pub does : Doing
  pub comes : Comes

-- the same, as a line of the table
abbrev pub row : Letter → Doing → Comes → Row
row l d c = record { letter = l; does = d; comes = c }
