-- `take_bytes` meets its contract. The loop's invariant: taking on from here is taking from the start, and the state stays consistent.
-- Assumes nothing.
use Prim.Native.Nat.{ℕ, ◌+◌, ◌-◌, ◌<◌, min}
use mathlib.Core.Path.{◌≡◌, ◌∙◌, ap, subst, sym}
use native.Mathlib.Nat.{sub-zero}
use native.Mathlib.Omega.{arith}
use lib.ListN.{drop, get_or, length, length-take, take}
use mathlib.Core.List.{List}
use Rattle.std.proofs.Common.{Ok, rules}
use Rattle.std.proofs.lemmas.List.{get_or-take}
use Rattle.serial.specs.declared.receiver.Receiver.{Receiver}
use Rattle.serial.specs.declared.receiver.Stepped.{Stepped}
use Rattle.serial.specs.declared.taker.Stop.TheVariants.{InputEnded, AllowanceSpent}
use Rattle.serial.specs.Consistency.{Consistent}
use Rattle.serial.specs.Receiver.{Outcome, step_of, stepped}
use Rattle.serial.specs.Taker.{after_step, stop, take_from}
use Rattle.serial.proofs.Keeps.{keeps}
use Rattle.serial.proofs.TakerLaws.{taken_ended, taken_next, taken_spent}
use Rattle.serial.proofs.receiver.Receiver.take_bytes.Goals as goal

-- a step on a byte of those allowed, by its outcome: taking on from behind it is taking on from it
module _ (input : List ℕ) (allowance end i : ℕ) (s t : Receiver) (o : Outcome) (least : end ≡ min (length input) allowance)
    (here : i < length (take end input)) (e : stepped o t ≡ step_of (get_or (take end input) i 0) s) where
  byte_step : stepped o t ≡ step_of (get_or input i 0) s
  byte_step = e ∙ ap (λ (b : ℕ). step_of b s) (get_or-take end input i 0 (omega (arith, length-take end input)))

  goes_on : after_step o t (i + 1) (take_from (drop (i + 1) input) (allowance - (i + 1)) t (i + 1)) ≡ take_from (drop i input) (allowance - i) s i
  goes_on = taken_next input allowance i s o t (omega (arith, length-take end input)) (omega (arith, length-take end input)) byte_step

  kept : Consistent s → get_or input i 0 < 256 → Consistent t
  kept c byte = subst (λ (x : Stepped). Consistent x.state) (sym byte_step) (keeps s (get_or input i 0) c byte)

pub loop-i-init : goal.loop-i-init
loop-i-init c = record {
  goes_on = ap (λ (k : ℕ). take_from c.args.input.now k c.args.self.now 0) (sub-zero c.args.allowance);
  consistent = record { sized = search rules; fits = c.requires };
}

pub loop-i-preserved : goal.loop-i-preserved
loop-i-preserved c =
    let e = c.in_default.ensures {u = tt} in
    record {
      goes_on = goes_on _ _ _ _ _ _ _ c.min-end.ensures c.loop-i-test.true e ∙ c.loop-i.invariant.goes_on;
      consistent = kept _ _ _ _ _ _ _ c.min-end.ensures c.loop-i-test.true e c.loop-i.invariant.consistent (c.type_inv.input c.loop-i.i).fits;
    }

pub returns-in-Some : goal.returns-in-Some
returns-in-Some c = goes_on _ _ _ _ _ _ _ c.min-end.ensures c.loop-i-test.true (c.in-Some.ensures {u = tt}) ∙ c.loop-i.invariant.goes_on

pub returns-then-end-input : goal.returns-then-end-input
returns-then-end-input c =
    let end : c.min-end.result ≡ c.loop-i.i = omega (arith, length-take c.min-end.result c.args.input.now) in
    ap (λ (k : ℕ). stop (Ok AllowanceSpent) k c.loop-i.self) end
    ∙ taken_spent c.args.input.now c.args.allowance c.loop-i.i c.loop-i.self (omega arith) (omega arith) ∙ c.loop-i.invariant.goes_on

pub returns-else-end-input : goal.returns-else-end-input
returns-else-end-input c =
    let end : c.min-end.result ≡ c.loop-i.i = omega (arith, length-take c.min-end.result c.args.input.now) in
    ap (λ (k : ℕ). stop (Ok InputEnded) k c.loop-i.self) end
    ∙ taken_ended c.args.input.now c.args.allowance c.loop-i.i c.loop-i.self (omega arith) ∙ c.loop-i.invariant.goes_on
