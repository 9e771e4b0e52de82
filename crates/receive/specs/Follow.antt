-- What a read adds to the line that is followed. Assumes nothing.
use Rattle.std.specs.Prelude.{ℕ, ◌+◌, min, ◌≡◌, List, Result, MatchResult, length}
use Rattle.serial.specs.Run.{heard, run_of}
use Rattle.receive.specs.declared.Line.{Line}
use Rattle.receive.specs.declared.Reported.{Reported}

-- so many more, as far as 64 bits count
abbrev pub total_of : ℕ → ℕ → ℕ
total_of count more = min (count + more) 18446744073709551615

-- the bytes of a read, fed to the receiver that the last one left, and counted with the packets that they hand out
abbrev pub with_bytes : List ℕ → Line → Line
with_bytes input line = record {
  receiver = run_of line.receiver input;
  bytes = total_of line.bytes (length input);
  packets = total_of line.packets (length (heard line.receiver input));
}

-- after a failure the line is as it was
abbrev pub ListedOn : Line → List ℕ → Result (Unit {0}) Reported → Line → Type 0
ListedOn line input said after = MatchResult said (λ x. after ≡ with_bytes input line) (λ e. after ≡ line)
