-- Laws of a run: over two lists joined it goes on where the first one's ends, and so do the packets that it hands out, with their places and without.
-- Assumes nothing.
use Prim.Native.Nat.{ℕ, suc, ◌+◌}
use mathlib.Core.Path.{◌≡◌, ◌∙◌, ap, refl}
use mathlib.Core.List.{List, [], ◌∷◌, ◌++◌}
use native.Mathlib.Nat.{add-zero}
use native.Mathlib.Omega.{arith}
use lib.ListN.{length}
use Rattle.std.proofs.Common.{None, Some, Ok, Err}
use Rattle.serial.specs.declared.receiver.Receiver.{Receiver}
use Rattle.serial.specs.Receiver.{Outcome, step_of}
use Rattle.serial.specs.Run.{emit, heard, outs_by, outs_of, packet_in, packets_of, run_by, run_of}

pub run_append : (s : Receiver) (xs ys : List ℕ) → run_of s (xs ++ ys) ≡ run_of (run_of s xs) ys
unfolding run_by
run_append s [] ys = refl
run_append s (x ∷ xs) ys = run_append (step_of x s).state xs ys

emit_append : (o : Outcome) (s : Receiver) (i : ℕ) (outs more : List (ℕ × List ℕ))
    → emit o s i (outs ++ more) ≡ emit o s i outs ++ more
emit_append (Ok None) s i outs more = refl
emit_append (Ok (Some n)) s i outs more = refl
emit_append (Err e) s i outs more = refl

pub outs_append : (i : ℕ) (s : Receiver) (xs ys : List ℕ)
    → outs_of i s (xs ++ ys) ≡ outs_of i s xs ++ outs_of (i + length xs) (run_of s xs) ys
unfolding outs_by run_by
outs_append i s [] ys = rw add-zero
outs_append i s (x ∷ xs) ys =
    let next = (step_of x s).state in
    let place : i + 1 + length xs ≡ i + suc (length xs) = omega arith in
    ap (emit (step_of x s).outcome next i) (outs_append (i + 1) next xs ys)
    ∙ emit_append (step_of x s).outcome next i (outs_of (i + 1) next xs) (outs_of (i + 1 + length xs) (run_of next xs) ys)
    ∙ rw place

-- ---- packets, without their places

pub packets_append : (os ps : List (ℕ × List ℕ)) → packets_of (os ++ ps) ≡ packets_of os ++ packets_of ps
unfolding packets_of
packets_append [] ps = refl
packets_append (o ∷ os) ps = ap (λ (rest : List (List ℕ)). o.1 ∷ rest) (packets_append os ps)

emit_packets : (o : Outcome) (s : Receiver) (i j : ℕ) (os ps : List (ℕ × List ℕ)) → packets_of os ≡ packets_of ps
    → packets_of (emit o s i os) ≡ packets_of (emit o s j ps)
unfolding packets_of
emit_packets (Ok None) s i j os ps e = e
emit_packets (Ok (Some n)) s i j os ps e = ap (λ (rest : List (List ℕ)). packet_in n s ∷ rest) e
emit_packets (Err x) s i j os ps e = e

-- they don't depend on where the count of places begins
pub any_place : (i j : ℕ) (s : Receiver) (bytes : List ℕ) → packets_of (outs_of i s bytes) ≡ packets_of (outs_of j s bytes)
unfolding outs_by
any_place i j s [] = refl
any_place i j s (b ∷ bs) =
    emit_packets (step_of b s).outcome (step_of b s).state i j _ _ (any_place (i + 1) (j + 1) (step_of b s).state bs)

pub heard_append : (s : Receiver) (xs ys : List ℕ) → heard s (xs ++ ys) ≡ heard s xs ++ heard (run_of s xs) ys
heard_append s xs ys =
    ap packets_of (outs_append 0 s xs ys)
    ∙ packets_append (outs_of 0 s xs) _
    ∙ ap (λ (rest : List (List ℕ)). heard s xs ++ rest) (any_place _ 0 (run_of s xs) ys)
