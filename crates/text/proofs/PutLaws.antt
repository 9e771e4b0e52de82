-- Laws of `put_end` and `put_text`: where the text fits they are the place behind it and a put; and puts that follow one another are one put of all their
-- bytes, into an output that keeps its length. Assumes nothing.
use Prim.Native.Nat.{ℕ, ◌+◌, ◌≤◌}
use mathlib.Core.Path.{◌≡◌, ◌∙◌, ap, ap₂}
use mathlib.Core.List.{List, ◌++◌}
use native.Mathlib.Omega.{arith}
use lib.ListN.{length, length-append}
use borrow.Author.Tests.{le-leb}
use Rattle.checks.specs.Output.{put_at}
use Rattle.checks.proofs.Output.{length_put, put_copied, put_next, put_put}
use Rattle.io.proofs.Counting.{prefix_len_of_le}
use Rattle.text.specs.Put.{put_end, put_text}
use Rattle.text.proofs.HexLaws.{hex_length, line_length}

-- where it fits
pub with_room : (place : ℕ) (text out : List ℕ) → place + length text ≤ length out
    → (put_end place text (length out) ≡ place + length text) × (put_text place text out ≡ put_at place text out)
unfolding put_end put_text
with_room place text out h = let e = le-leb (place + length text) (length out) h in (simp e, simp e)

-- what shows that a function puts a text: the text's length, the output's, what a copy and a store leave, and that the place lies within it
pub ruleset puts = (hex_length, line_length, length_put, put_copied, put_next, prefix_len_of_le)

-- ---- puts that follow one another

-- a place and an output are those behind bytes that were put into `out`
abbrev pub Behind : ℕ → List ℕ → List ℕ → ℕ → List ℕ → Type 0
Behind place bytes out next after = (next ≡ place + length bytes) × (after ≡ put_at place bytes out)

-- behind a text that fits
pub put_behind : (place : ℕ) (text out : List ℕ) (next : ℕ) (after : List ℕ) → place + length text ≤ length out
    → next ≡ put_end place text (length out) → after ≡ put_text place text out → Behind place text out next after
put_behind place text out next after room en ea =
    let same = with_room place text out room in
    (en ∙ same.0, ea ∙ same.1)

-- the output has kept its length
pub length_behind : (place : ℕ) (bytes out : List ℕ) {next : ℕ} (after : List ℕ) → place + length bytes ≤ length out → Behind place bytes out next after
    → length after ≡ length out
length_behind place bytes out after room b = ap length b.1 ∙ length_put place bytes out room

-- two, the second right behind the first
pub then_behind : (place : ℕ) (xs ys out : List ℕ) (middle next : ℕ) (before after : List ℕ) → place + length xs ≤ length out
    → Behind place xs out middle before → Behind middle ys before next after → Behind place (xs ++ ys) out next after
then_behind place xs ys out middle next before after room b c = (
  omega (arith, b.0, c.0, length-append xs ys),
  c.1 ∙ ap₂ (λ (n : ℕ) (d : List ℕ). put_at n ys d) b.0 b.1 ∙ put_put place xs ys out room,
)
