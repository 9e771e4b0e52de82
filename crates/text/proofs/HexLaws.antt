-- Hex as it is written: a digit's code by its two cases; the digits of bytes are those of each of them, two for each. Assumes nothing.
use Prim.Native.Nat.{ℕ, ◌+◌, ◌*◌, ◌≤◌, ◌<◌}
use mathlib.Core.Path.{◌≡◌, ◌∙◌, ap, refl}
use mathlib.Core.List.{List, [], ◌∷◌, ◌++◌}
use native.Mathlib.Omega.{arith}
use lib.ListN.{length, length-append}
use borrow.Author.Tests.{le-ltb, lt-ltb}
use Rattle.io.specs.Digits.{hex_digit_ascii}
use Rattle.text.specs.Hex.{hex_all, hex_of, line_feed, line_of}

pub numeral : (d : ℕ) → d < 10 → 48 + d ≡ hex_digit_ascii d
numeral d h = simp (lt-ltb d 10 h)

pub letter : (d : ℕ) → 10 ≤ d → 87 + d ≡ hex_digit_ascii d
letter d h = simp (le-ltb d 10 h)

pub hex_none : hex_all [] ≡ []
unfolding hex_all
hex_none = refl

pub hex_more : (b : ℕ) (bs : List ℕ) → hex_all (b ∷ bs) ≡ hex_of b ++ hex_all bs
unfolding hex_all
hex_more b bs = refl

pub hex_length : (bs : List ℕ) → length (hex_all bs) ≡ 2 * length bs
unfolding hex_all
hex_length [] = refl
hex_length (b ∷ bs) = let e = hex_length bs in omega arith

pub line_length : (bs : List ℕ) → length (line_of bs) ≡ 2 * length bs + 1
line_length bs = length-append (hex_all bs) (line_feed ∷ []) ∙ ap (λ (n : ℕ). n + 1) (hex_length bs)
