-- The marked cases of document 01, in its order, each below its sentence there. Every byte and number is written out by hand from the paper. What a
-- sentence leaves open is set so: the output of A has the 516 bytes of C, that of G the nine that are written; the positions in A and N are those
-- that the paper's table of the receiver leads to; the values of M stand under 'Check values'; L is said of the header and of the builder.
-- Assumes nothing.
use Rattle.std.specs.Prelude.{ℕ, List, [], ◌∷◌, ◌++◌}
use Rattle.serial.specs.declared.receiver.Position.TheVariants.{FrameSearch, SerialRevision}
use Rattle.cases.specs.Row.{Row, row, fits, handed_at, headed, nothing_then, packet_then, payload_from, refused, value, written}
use Rattle.cases.specs.Row.{A, B, C, D, E, F, G, H, I, J, K, L, M, N}
use Rattle.cases.specs.Row.{frame_check_over, frame_to_serial, frame_to_serial_any, pec_over, receiver_fed}
use Rattle.cases.specs.Row.{i2c_decode, i2c_encode, usb_append_any, usb_decode, usb_header}

-- case A's packet, and its frame
abbrev pub case_a : List ℕ
case_a = 0x01 ∷ 0x0a ∷ 0x09 ∷ 0xc8 ∷ 0x7e ∷ []

abbrev pub case_a_frame : List ℕ
case_a_frame = 0x7e ∷ 0x01 ∷ 0x05 ∷ 0x01 ∷ 0x0a ∷ 0x09 ∷ 0xc8 ∷ 0x7d ∷ 0x5e ∷ 0x2d ∷ 0xba ∷ 0x7e ∷ []

-- the digits 123456789
abbrev pub digits : List ℕ
digits = 0x31 ∷ 0x32 ∷ 0x33 ∷ 0x34 ∷ 0x35 ∷ 0x36 ∷ 0x37 ∷ 0x38 ∷ 0x39 ∷ []

-- case N's losing history
abbrev pub losing : List ℕ
losing = 0x7e ∷ 0x01 ∷ 0x05 ∷ 0x01 ∷ 0x0a ∷ 0x09 ∷ 0xc8 ∷ 0x00 ∷ []

-- the rows
abbrev pub table : List Row
table =
    -- A. Packet 01 0a 09 c8 7e has frame 7e 01 05 01 0a 09 c8 7d 5e 2d ba 7e.
    row A (frame_to_serial case_a 516) (written 12 case_a_frame)
    -- And under 'Program': of case A's frame the packet comes back.
    ∷ row A (receiver_fed case_a_frame) (handed_at 11 case_a FrameSearch)
    -- B. That frame with bb for ba: nothing, then FrameSearch.
    ∷ row B (receiver_fed (0x7e ∷ 0x01 ∷ 0x05 ∷ 0x01 ∷ 0x0a ∷ 0x09 ∷ 0xc8 ∷ 0x7d ∷ 0x5e ∷ 0x2d ∷ 0xbb ∷ 0x7e ∷ [])) (nothing_then FrameSearch)
    -- C. Lengths 4 and 256: 1. 5 and 255 fit in 516 bytes.
    ∷ row C (frame_to_serial_any 4 516) (refused 1)
    ∷ row C (frame_to_serial_any 256 516) (refused 1)
    ∷ row C (frame_to_serial_any 5 516) fits
    ∷ row C (frame_to_serial_any 255 516) fits
    -- D. Case A into 11 bytes: 2; into 12: done.
    ∷ row D (frame_to_serial case_a 11) (refused 2)
    ∷ row D (frame_to_serial case_a 12) (written 12 case_a_frame)
    -- E. 7e 01 00: nothing, FrameSearch.
    ∷ row E (receiver_fed (0x7e ∷ 0x01 ∷ 0x00 ∷ [])) (nothing_then FrameSearch)
    -- F. 7e 01 05 7d 41: nothing, FrameSearch.
    ∷ row F (receiver_fed (0x7e ∷ 0x01 ∷ 0x05 ∷ 0x7d ∷ 0x41 ∷ [])) (nothing_then FrameSearch)
    -- G. Own 0x20, destination 0x1d, case A's packet, no PEC: 3a 0f 06 41 01 0a 09 c8 7e.
    ∷ row G (i2c_encode 0x20 0x1d case_a 9) (written 9 (0x3a ∷ 0x0f ∷ 0x06 ∷ 0x41 ∷ 0x01 ∷ 0x0a ∷ 0x09 ∷ 0xc8 ∷ 0x7e ∷ []))
    -- H. I2C 3a 0f 01 41: empty payload from 0x20. I. 3a 0f 02 41: 5.
    ∷ row H (i2c_decode (0x3a ∷ 0x0f ∷ 0x01 ∷ 0x41 ∷ [])) (payload_from [] 0x20)
    ∷ row I (i2c_decode (0x3a ∷ 0x0f ∷ 0x02 ∷ 0x41 ∷ [])) (refused 5)
    -- J. USB 1a b4 00 04: empty packet, empty remainder. K. 1a b4 00 03: 7.
    ∷ row J (usb_decode (0x1a ∷ 0xb4 ∷ 0x00 ∷ 0x04 ∷ [])) (packet_then 0 [] [])
    ∷ row K (usb_decode (0x1a ∷ 0xb4 ∷ 0x00 ∷ 0x03 ∷ [])) (refused 7)
    -- L. USB packet of 251: length byte ff; of 252: 6.
    ∷ row L (usb_header 251) (headed (0x1a ∷ 0xb4 ∷ 0x00 ∷ 0xff ∷ []))
    ∷ row L (usb_header 252) (refused 6)
    ∷ row L (usb_append_any 251) (headed (0x1a ∷ 0xb4 ∷ 0x00 ∷ 0xff ∷ []))
    ∷ row L (usb_append_any 252) (refused 6)
    -- M. Both check values over 123456789.
    ∷ row M (frame_check_over digits) (value 0x6f91)
    ∷ row M (pec_over digits) (value 0xf4)
    -- N. The losing history: 7e 01 05 01 0a 09 c8 00, two flags, then case A's frame: nothing is handed out.
    ∷ row N (receiver_fed (losing ++ (0x7e ∷ 0x7e ∷ case_a_frame))) (nothing_then SerialRevision)
    ∷ []
