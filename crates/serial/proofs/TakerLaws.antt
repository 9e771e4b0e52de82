-- Laws of the taker's definition: a turn of its loop, where it stops, and the length of a packet that it hands out. Assumes nothing.
use Prim.Native.Nat.{ℕ, zero, suc, ◌+◌, ◌-◌, ◌≤◌, ◌<◌}
use mathlib.Core.Path.{◌≡◌, ◌∙◌, ap, refl, subst, sym}
use mathlib.Core.List.{List, [], ◌∷◌}
use native.Mathlib.Numerals.{add-one}
use native.Mathlib.Omega.{arith}
use lib.ListN.{length, drop, get_or, take, drop_of_length-le, length-drop}
use lib.Seq.{drop-cons, length-take-le, take-nil}
use Rattle.std.proofs.Common.{None, Some, Ok, Err}
use Rattle.checks.specs.Laws.{Bytes}
use Rattle.checks.specs.Numbers.{answer, done}
use Rattle.checks.proofs.Choice.{by_cond}
use Rattle.serial.specs.declared.receiver.Position.{Position}
use Rattle.serial.specs.declared.receiver.Position.TheVariants.{FrameSearch, SerialRevision, ByteCount, Data, DataEscaped, Check, FrameEnd}
use Rattle.serial.specs.declared.receiver.Receiver.{Receiver}
use Rattle.serial.specs.declared.receiver.Stepped.{Stepped}
use Rattle.serial.specs.declared.taker.Stop.{Stop}
use Rattle.serial.specs.declared.taker.Stop.TheVariants.{InputEnded, AllowanceSpent}
use Rattle.serial.specs.declared.taker.Taken.{Taken}
use Rattle.serial.specs.Answers.{first_length, reason_answer}
use Rattle.serial.specs.Consistency.{Consistent}
use Rattle.serial.specs.Receiver.{Outcome, hands_out, row_of, step_of, stepped}
use Rattle.serial.specs.Run.{emit, outs_by, outs_of, packet_in}
use Rattle.serial.specs.Taker.{IsPacketSize, Reason, after_step, stop, take_from}
use Rattle.serial.proofs.Consistent.{facts, row-of}
use Rattle.serial.proofs.Keeps.{keeps}

module _ (input : List ℕ) (allowance i : ℕ) (s : Receiver) where
  -- a step at place i, by its outcome
  pub taken_next : (o : Outcome) (t : Receiver) → i < length input → i < allowance → stepped o t ≡ step_of (get_or input i 0) s
      → after_step o t (i + 1) (take_from (drop (i + 1) input) (allowance - (i + 1)) t (i + 1))
      ≡ take_from (drop i input) (allowance - i) s i
  unfolding take_from
  taken_next o t h k e =
      let more : allowance - i ≡ suc (allowance - (i + 1)) = omega arith in
      ap (λ (x : Stepped). after_step x.outcome x.state (i + 1) (take_from (drop (i + 1) input) (allowance - (i + 1)) x.state (i + 1))) e
      ∙ ap (λ (n : ℕ). take_from (get_or input i 0 ∷ drop n input) (suc (allowance - (i + 1))) s i) (add-one i)
      ∙ rw (more, drop-cons input i 0)

  -- the input ends
  pub taken_ended : length input ≤ i → stop (Ok InputEnded) i s ≡ take_from (drop i input) (allowance - i) s i
  unfolding take_from
  taken_ended h = ap (λ (xs : List ℕ). take_from xs (allowance - i) s i) (sym (drop_of_length-le input {i = i} h))

  -- the allowance is spent before it
  pub taken_spent : i < length input → allowance ≤ i → stop (Ok AllowanceSpent) i s ≡ take_from (drop i input) (allowance - i) s i
  unfolding take_from
  taken_spent h k =
      let none : allowance - i ≡ 0 = omega arith in
      sym (rw (none, drop-cons input i 0 h))

-- ---- from a consistent state

-- a step gives a packet of at most 255 bytes or nothing, and no refusal
abbrev FairOutcome : Outcome → Type 0
FairOutcome (Ok None) = Unit {0}
FairOutcome (Ok (Some n)) = n ≤ 255
FairOutcome (Err x) = ⊥

fair_row : (p : Position) (b : ℕ) (s : Receiver) → s.count ≤ 255 → FairOutcome (row_of p b s).outcome
unfolding row_of
fair_row FrameSearch b s h = tt
fair_row SerialRevision b s h = tt
fair_row ByteCount b s h = tt
fair_row Data b s h = tt
fair_row DataEscaped b s h = tt
fair_row Check b s h = tt
fair_row FrameEnd b s h = by_cond (λ (r : Stepped). FairOutcome r.outcome) (hands_out b s) _ _ (λ e. h) (λ e. tt)

fair_step : (b : ℕ) (s : Receiver) → Consistent s → FairOutcome (step_of b s).outcome
fair_step b s c =
    subst (λ (r : Stepped). FairOutcome r.outcome) (sym (row-of s b c.fits))
    (fair_row s.position b s (facts s c.fits).count_most)

-- so a packet that the taker hands out has at most 255 bytes
abbrev pub Few : Reason → Type 0
Few (Ok why) = IsPacketSize why
Few (Err x) = Unit {0}

few_after : (o : Outcome) (s : Receiver) (n : ℕ) (more : Taken) → FairOutcome o → Few more.reason → Few (after_step o s n more).reason
few_after (Ok None) s n more h k = k
few_after (Ok (Some j)) s n more h k = h
few_after (Err x) s n more h k = tt

few : (input : List ℕ) (allowance : ℕ) (s : Receiver) (n : ℕ) → Consistent s → Bytes input → Few (take_from input allowance s n).reason
unfolding take_from
few [] allowance s n c h = tt
few (b ∷ bs) zero s n c h = tt
few (b ∷ bs) (suc allowance) s n c h =
    few_after (step_of b s).outcome (step_of b s).state (n + 1) (take_from bs allowance (step_of b s).state (n + 1)) (fair_step b s c)
    (few bs allowance (step_of b s).state (n + 1) (keeps s b c (h 0)) (λ i. h (suc i)))

-- a handed-out packet has as many bytes as is said
pub packet_length : (s : Receiver) (n : ℕ) → length s.stored ≡ 259 → n ≤ 255 → length (packet_in n s) ≡ n
packet_length s n sized few = length-take-le n (drop 2 s.stored) (omega (arith, length-drop 2 s.stored))

after_answer : (o : Outcome) (s : Receiver) (n i : ℕ) (more : Taken) (outs : List (ℕ × List ℕ)) → length s.stored ≡ 259 → FairOutcome o
    → reason_answer more.reason ≡ answer done (first_length outs)
    → reason_answer (after_step o s n more).reason ≡ answer done (first_length (emit o s i outs))
after_answer (Ok None) s n i more outs sized few h = h
after_answer (Ok (Some j)) s n i more outs sized few h = ap (λ (k : ℕ). answer done (k ∷ [])) (sym (packet_length s j sized few))
after_answer (Err x) s n i more outs sized few h = absurd few

-- the taker answers the first packet that one pass over the bytes allowed hands out
first_answer : (input : List ℕ) (allowance : ℕ) (s : Receiver) (n i : ℕ) → Consistent s → Bytes input
    → reason_answer (take_from input allowance s n).reason ≡ answer done (first_length (outs_of i s (take allowance input)))
unfolding take_from outs_by
first_answer [] allowance s n i c h = ap (λ (xs : List ℕ). answer done (first_length (outs_of i s xs))) (sym (take-nil allowance))
first_answer (b ∷ bs) zero s n i c h = refl
first_answer (b ∷ bs) (suc allowance) s n i c h =
    let next = (step_of b s).state in
    let kept = keeps s b c (h 0) in
    after_answer (step_of b s).outcome next (n + 1) i (take_from bs allowance next (n + 1)) (outs_of (i + 1) next (take allowance bs)) kept.sized (fair_step b s c)
    (first_answer bs allowance next (n + 1) (i + 1) kept (λ i. h (suc i)))

-- both, of what is taken from a state
pub record Took (input : List ℕ) (allowance : ℕ) (s : Receiver) (why : Stop) : Type 0 where
  pub few_bytes : IsPacketSize why
  pub first_packet : reason_answer (Ok why) ≡ answer done (first_length (outs_of 0 s (take allowance input)))

pub took : (input : List ℕ) (allowance : ℕ) (s : Receiver) (why : Stop) (n : ℕ) (t : Receiver) → Consistent s → Bytes input
    → stop (Ok why) n t ≡ take_from input allowance s 0 → Took input allowance s why
took input allowance s why n t c h e = record {
  few_bytes = subst (λ (x : Taken). Few x.reason) (sym e) (few input allowance s 0 c h);
  first_packet = ap (λ (x : Taken). reason_answer x.reason) e ∙ first_answer input allowance s 0 0 c h;
}
