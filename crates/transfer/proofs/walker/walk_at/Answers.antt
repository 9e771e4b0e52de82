-- `walk_at` meets its contract: its answers stand behind the tests that the definition makes, in the same order, and what is decoded is the transfer from
-- the place on. Assumes nothing.
use Prim.Native.Nat.{ℕ, ◌-◌, ◌≤◌, ◌<◌}
use mathlib.Core.Path.{◌≡◌, ◌∙◌, ap, sym}
use mathlib.Core.Bool.{false≢true}
use mathlib.Core.List.{List, []}
use native.Mathlib.Omega.{arith}
use lib.ListN.{drop, length, length-drop, take}
use borrow.Author.Tests.{eq-eqb, le-ltb, ne_eqb}
use borrow.Author.Rules.{part_to_end}
use Rattle.std.specs.Prelude.{Option, Result, Ok, Err}
use Rattle.std.specs.Result.{IsErr, IsErrAnd}
use Rattle.checks.specs.Numbers.{Answer, answer, done}
use Rattle.usb.specs.declared.decoder.DecodeError.{DecodeError}
use Rattle.usb.specs.Decode.{decode_answer, decode_error_number}
use Rattle.transfer.specs.Walk.{walk_answer, walked_answer}
use Rattle.transfer.proofs.Transfers.{place_beyond}
use Rattle.transfer.proofs.walker.walk_at.Goals as goal

-- from a place within the transfer on, what is left has its length less the place
module _ (transfer : List ℕ) (place : ℕ) (within : place ≤ length transfer) where
  left : length (take (length transfer - place) (drop place transfer)) ≡ length transfer - place
  left = ap length (part_to_end transfer place) ∙ length-drop place transfer

  -- at its end nothing is left, and before it the answer is decode's of what is
  at-end : length (take (length transfer - place) (drop place transfer)) < 1 → answer done [] ≡ walk_answer transfer place
  unfolding walk_answer
  at-end none = simp (le-ltb (length transfer) place within, eq-eqb place (length transfer) (omega (arith, left)))

  decoded-there : (a : Answer) → 1 ≤ length (take (length transfer - place) (drop place transfer))
      → a ≡ decode_answer (take (length transfer - place) (drop place transfer)) → a ≡ walk_answer transfer place
  unfolding walk_answer
  decoded-there a some e =
      simp (le-ltb (length transfer) place within, ne_eqb place (length transfer) (λ q. omega (arith, left, q)))
      (e ∙ ap decode_answer (part_to_end transfer place))

-- a refusal is handed on
handed-on : (r : Result (Option ℕ) DecodeError) (refused : DecodeError) → IsErr r × IsErrAnd r (λ e. e ≡ refused)
    → walked_answer r ≡ answer (decode_error_number refused) []
handed-on (Ok found) refused h = absurd (false≢true h.0)
handed-on (Err e) refused h = ap (λ (e : DecodeError). answer (decode_error_number e) []) h.1

pub returns-then-place-transfer : goal.returns-then-place-transfer
returns-then-place-transfer c = sym (place_beyond c.args.transfer.now c.args.place c.if-place-transfer.true).0

pub returns-in-empty : goal.returns-in-empty
returns-in-empty c = at-end _ _ c.if-place-transfer.false c.in-empty.len_below

pub returns-in_ok-decode-in_default : goal.returns-in_ok-decode-in_default
returns-in_ok-decode-in_default c = decoded-there _ _ c.if-place-transfer.false _ c.in_default.len_at_least c.in_ok-decode-in_default.ensures

pub returns-in_err-decode-in_default : goal.returns-in_err-decode-in_default
returns-in_err-decode-in_default c =
    handed-on c.from_residual.result c.in_err-decode-in_default.field-0.0 c.from_residual.ensures
    ∙ decoded-there _ _ c.if-place-transfer.false _ c.in_default.len_at_least c.in_err-decode-in_default.ensures
