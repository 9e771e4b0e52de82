-- Laws of the lines of packets: joined, of one packet and of none, and their length. The text tells the packets, since a line tells its bytes and what is
-- behind it. Assumes nothing.
use Prim.Native.Nat.{ℕ, ◌≤◌}
use mathlib.Core.Path.{◌≡◌, ◌∙◌, ap, ap₂, refl, sym}
use mathlib.Core.List.{List, [], ◌∷◌, ◌++◌, append_assoc, append-nil}
use native.Mathlib.Omega.{arith}
use lib.ListN.{length, length-append}
use Rattle.text.specs.Hex.{line_of}
use Rattle.text.proofs.HexBack.{line_tells}
use Rattle.text.proofs.HexLaws.{line_length}
use Rattle.listing.specs.Laws.{TextTells}
use Rattle.listing.specs.Text.{lines_of}

pub no_lines : lines_of [] ≡ []
unfolding lines_of
no_lines = refl

pub one_line : (packet : List ℕ) → lines_of (packet ∷ []) ≡ line_of packet
unfolding lines_of
one_line packet = append-nil (line_of packet)

pub lines_append : (ps qs : List (List ℕ)) → lines_of (ps ++ qs) ≡ lines_of ps ++ lines_of qs
unfolding lines_of
lines_append [] qs = refl
lines_append (p ∷ ps) qs =
    ap (λ (rest : List ℕ). line_of p ++ rest) (lines_append ps qs) ∙ sym (append_assoc (line_of p) (lines_of ps) (lines_of qs))

-- no packet without a line, and no line without a byte
pub lines_least : (ps : List (List ℕ)) → length ps ≤ length (lines_of ps)
unfolding lines_of
lines_least [] = omega arith
lines_least (p ∷ ps) = omega (arith, lines_least ps, line_length p, length-append (line_of p) (lines_of ps))

pub text_tells : TextTells
unfolding lines_of
text_tells [] [] hp hq e = refl
text_tells [] (q ∷ qs) hp hq e = absurd (omega (arith, lines_least (q ∷ qs), ap length e))
text_tells (p ∷ ps) [] hp hq e = absurd (omega (arith, lines_least (p ∷ ps), ap length e))
text_tells (p ∷ ps) (q ∷ qs) hp hq e =
    let both = line_tells p q (lines_of ps) (lines_of qs) hp.0 hq.0 e in
    ap₂ (λ (x : List ℕ) (xs : List (List ℕ)). x ∷ xs) both.0 (text_tells ps qs hp.1 hq.1 both.1)
