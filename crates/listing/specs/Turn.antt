-- What one call of the taker adds to a listing, for the contracts of private functions. Assumes nothing.
use Rattle.std.specs.Prelude.{ℕ, ◌+◌, List, [], ◌∷◌, Ok, Err, length, take}
use Rattle.io.specs.Counts.{IsPrefixLen}
use Rattle.framing.specs.Frame.{packet_most}
use Rattle.serial.specs.declared.receiver.Receiver.{Receiver}
use Rattle.serial.specs.declared.taker.Stop.TheVariants.{Packet, InputEnded, AllowanceSpent}
use Rattle.serial.specs.declared.taker.Taken.{Taken}
use Rattle.serial.specs.Run.{packet_in}
use Rattle.serial.specs.Taker.{Reason, taken_of}
use Rattle.listing.specs.declared.lines.Added.{Added}
use Rattle.listing.specs.declared.lines.Turn.{Turn}
use Rattle.listing.specs.Text.{lines_of}

-- a call that may take the whole input
abbrev pub next_taken : Receiver → List ℕ → Taken
next_taken s input = taken_of input (length input) packet_most s

-- the packet that was handed out, if one was
abbrev pub handed_out : Reason → Receiver → List (List ℕ)
handed_out (Ok (Packet n)) s = packet_in n s ∷ []
handed_out (Ok InputEnded) s = []
handed_out (Ok AllowanceSpent) s = []
handed_out (Err e) s = []

-- by that call
abbrev pub next_heard : Receiver → List ℕ → List (List ℕ)
next_heard s input = handed_out (next_taken s input).reason (next_taken s input).state

-- the same packet where the taker copied it: at the start of its output
abbrev pub copied_out : Reason → List ℕ → List (List ℕ)
copied_out (Ok (Packet n)) room = take n room ∷ []
copied_out (Ok InputEnded) room = []
copied_out (Ok AllowanceSpent) room = []
copied_out (Err e) room = []

-- it lies within it
abbrev pub CopiedWithin : Reason → List ℕ → Type 0
CopiedWithin (Ok (Packet n)) room = IsPrefixLen n room
CopiedWithin (Ok InputEnded) room = Unit {0}
CopiedWithin (Ok AllowanceSpent) room = Unit {0}
CopiedWithin (Err e) room = Unit {0}

-- the lines of packets behind `used` bytes of text
abbrev pub added : ℕ → List (List ℕ) → Added
added used ps = record { used = used + length (lines_of ps); packets = length ps }

-- what the call gives a listing that had `used` bytes of text
abbrev pub next_turn : Receiver → List ℕ → ℕ → Turn
next_turn s input used = record {
  taken = (next_taken s input).taken;
  used = (added used (next_heard s input)).used;
  packets = (added used (next_heard s input)).packets;
  state = (next_taken s input).state;
}
