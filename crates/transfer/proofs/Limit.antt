-- The builder's limit: it is the smaller of two, so it is within the buffer. Assumes nothing.
use Prim.Native.Nat.{ℕ, ◌≤◌, min}
use mathlib.Core.Path.{◌≡◌}
use native.Mathlib.Omega.{arith}
use lib.Dec.{leb}
use borrow.Author.Tests.{leb-false, leb-true}
use Rattle.checks.proofs.Choice.{by_cond}
use Rattle.transfer.specs.Builder.{limit, transfer_most}

pub limit_min : (room : ℕ) → min room transfer_most ≡ limit room
limit_min room =
    by_cond (λ (n : ℕ). min room transfer_most ≡ n) (leb room transfer_most) room transfer_most
    (λ e. omega (arith, leb-true room transfer_most e)) (λ e. omega (arith, leb-false room transfer_most e))

pub limit_room : (room : ℕ) → limit room ≤ room
limit_room room = by_cond (λ (n : ℕ). n ≤ room) (leb room transfer_most) room transfer_most (λ e. omega arith) (λ e. omega (arith, leb-false room transfer_most e))
