-- Each public function allows one result, and leaves one content in what it is lent, by its contract as the source states it (`Reads.Post`).
-- Assumes nothing.
use Prim.Native.Nat.{ℕ}
use mathlib.Core.Path.{◌≡◌, ◌∙◌, refl, sym}
use mathlib.Core.List.{List}
use Rattle.checks.specs.OneResult.{OneOutcome, OneResult}
use Rattle.state.proofs.buffer.load.Kinds as load
use Rattle.state.proofs.buffer.load.Reads as load-reads
use Rattle.state.proofs.buffer.store.Kinds as store
use Rattle.state.proofs.buffer.store.Reads as store-reads
use Rattle.state.proofs.kept.step.Kinds as step
use Rattle.state.proofs.kept.step.Reads as step-reads
use Rattle.state.proofs.kept.take.Kinds as take
use Rattle.state.proofs.kept.take.Reads as take-reads

pub load_one : OneResult 1 load.ps load.r load-reads.Post
load_one κs a x y e f p q = p ∙ sym q

-- it has no result but the buffer
pub store_one : OneOutcome 1 store.ps store.r (λ κs e. e.1.0.now) store-reads.Post
store_one κs a x y e f p q = (refl, p ∙ sym q)

pub step_one : OneOutcome 1 step.ps step.r (λ κs e. e.0.now) step-reads.Post
step_one κs a x y e f p q = (p.0 ∙ sym q.0, p.1.1 ∙ sym q.1.1)

pub take_one : OneOutcome 3 take.ps take.r {A = List ℕ × List ℕ} (λ κs e. (e.0.now, e.1.1.1.0.now)) take-reads.Post
take_one κs a x y e f p q =
    let first : e.0.now ≡ f.0.now = p.1.1.0 ∙ sym q.1.1.0 in
    let second : e.1.1.1.0.now ≡ f.1.1.1.0.now = p.1.1.1 ∙ sym q.1.1.1 in
    (p.0 ∙ sym q.0, λ i. (first i, second i))
