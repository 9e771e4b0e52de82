-- What is computed, step by step, from the definitions: transfers of no and of two packets and one that is cut off, packets appended, and every answer's
-- number and values. An error in a definition breaks these first. The proofs: `proofs/Computed.antt`. Assumes nothing.
use Rattle.std.specs.Prelude.{ℕ, ◌≡◌, List, [], ◌∷◌, ◌++◌, Some, None, Ok, Err, replicate}
use Rattle.checks.specs.Numbers.{answer, done}
use Rattle.usb.specs.Numbers.{bad_packet, no_room, rx_failure}
use Rattle.usb.specs.declared.decoder.DecodeError.TheVariants.{RxFailure}
use Rattle.transfer.specs.declared.builder.AppendError.TheVariants.{BadPacket, NoRoom}
use Rattle.transfer.specs.Builder.{append_answer, append_output, appended_answer, used_after}
use Rattle.transfer.specs.Walk.{stopped, walk_answer, walked_answer, whole_walk}

-- a transfer of two packets: one of two bytes, whose header has a third byte of ff, and one of none
abbrev pub two : List ℕ
two = 0x1a ∷ 0xb4 ∷ 0xff ∷ 0x06 ∷ 0x01 ∷ 0x02 ∷ 0x1a ∷ 0xb4 ∷ 0x00 ∷ 0x04 ∷ []

-- the same with one byte of a third header behind it
abbrev cut : List ℕ
cut = two ++ (0x1a ∷ [])

-- none, two, and two before a header that is cut off
abbrev pub TransfersWalked : Type 0
TransfersWalked = (whole_walk [] ≡ stopped [] 0 (answer done []))
    × (whole_walk two ≡ stopped ((0x01 ∷ 0x02 ∷ []) ∷ [] ∷ []) 10 (answer done []))
    × (whole_walk cut ≡ stopped ((0x01 ∷ 0x02 ∷ []) ∷ [] ∷ []) 10 (answer rx_failure []))
    × (walk_answer two 11 ≡ answer rx_failure [])

-- packets appended: at the end of the room, one byte short of it, beyond 512 and beyond the buffer; a refused one leaves all as it was. So a builder that
-- does not stop at 512 bytes is not this one
abbrev pub PacketsAppended : Type 0
PacketsAppended = (append_output (0x07 ∷ []) 1 (replicate 7 0x00) ≡ 0x00 ∷ 0x1a ∷ 0xb4 ∷ 0x00 ∷ 0x05 ∷ 0x07 ∷ 0x00 ∷ [])
    × (append_answer 1 2 7 ≡ answer done []) × (used_after 1 2 7 ≡ 7)
    × (append_answer 1 3 7 ≡ answer no_room []) × (used_after 1 3 7 ≡ 3) × (append_output (0x07 ∷ []) 3 (replicate 7 0x00) ≡ replicate 7 0x00)
    × (append_answer 0 508 600 ≡ answer done []) × (append_answer 0 509 600 ≡ answer no_room []) × (append_answer 0 8 7 ≡ answer no_room [])
    × (append_answer 252 8 7 ≡ answer bad_packet [])

-- what the builder answers, in document 01's numbers: a conversion to `u32` that tells any refusal by another number breaks its contract, so also one that tells
-- a missing room by a frame's number 2, or a packet over 251 bytes by 8
abbrev pub AppendedTold : Type 0
AppendedTold = (appended_answer (Ok tt) ≡ answer 0 []) × (appended_answer (Err BadPacket) ≡ answer 6 []) × (appended_answer (Err NoRoom) ≡ answer 8 [])

-- and the walker: of a packet its length comes with the number, and nothing with the end
abbrev pub WalkedTold : Type 0
WalkedTold = ((n : ℕ) → walked_answer (Ok (Some n)) ≡ answer 0 (n ∷ [])) × (walked_answer (Ok None) ≡ answer 0 [])
    × (walked_answer (Err RxFailure) ≡ answer 7 [])
