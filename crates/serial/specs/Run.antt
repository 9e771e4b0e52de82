-- Steps over a list of bytes: the state after them, and the packets that they hand out. Assumes nothing.
use Rattle.std.specs.Prelude.{ℕ, ◌+◌, List, [], ◌∷◌, Some, None, Ok, Err, take, drop}
use Rattle.serial.specs.declared.receiver.Receiver.{Receiver}
use Rattle.serial.specs.declared.receiver.Stepped.{Stepped}
use Rattle.serial.specs.Receiver.{Outcome, step_of}

-- what a byte does to a state: our step, or any other that is held against it
abbrev pub Step : Type 0
Step = ℕ → Receiver → Stepped

-- the state after the bytes, by a step
unfoldable pub run_by : Step → Receiver → List ℕ → Receiver
run_by step s [] = s
run_by step s (b ∷ bs) = run_by step (step b s).state bs

abbrev pub run_of : Receiver → List ℕ → Receiver
run_of s bytes = run_by step_of s bytes

-- a packet of n bytes, handed out: the stored bytes 2 to 2 + n, the end excluded
abbrev pub packet_in : ℕ → Receiver → List ℕ
packet_in n s = take n (drop 2 s.stored)

-- what a step at place i hands out, if it does, before what follows
abbrev pub emit : Outcome → Receiver → ℕ → List (ℕ × List ℕ) → List (ℕ × List ℕ)
emit (Ok None) s i rest = rest
emit (Ok (Some n)) s i rest = (i, packet_in n s) ∷ rest
emit (Err e) s i rest = rest

-- the packets that the bytes hand out by a step, each with the place of the byte on which it comes; the first byte has place i
unfoldable pub outs_by : Step → ℕ → Receiver → List ℕ → List (ℕ × List ℕ)
outs_by step i s [] = []
outs_by step i s (b ∷ bs) = emit (step b s).outcome (step b s).state i (outs_by step (i + 1) (step b s).state bs)

abbrev pub outs_of : ℕ → Receiver → List ℕ → List (ℕ × List ℕ)
outs_of i s bytes = outs_by step_of i s bytes

-- packets without their places
unfoldable pub packets_of : List (ℕ × List ℕ) → List (List ℕ)
packets_of [] = []
packets_of (o ∷ os) = o.1 ∷ packets_of os

-- the packets that the bytes hand out
abbrev pub heard : Receiver → List ℕ → List (List ℕ)
heard s bytes = packets_of (outs_of 0 s bytes)
