-- A call's steps are those of a pass over the bytes that it took, and a pass goes on where it ended. Assumes nothing.
use Prim.Native.Nat.{ℕ, zero, suc, ◌+◌, ◌-◌, ◌≤◌, min, zero-le, suc-le-suc}
use mathlib.Core.Path.{◌≡◌, ◌∙◌, ap, refl, subst, sym}
use mathlib.Core.Bool.{Bool, cond}
use mathlib.Core.List.{List, [], ◌∷◌, ◌++◌}
use native.Mathlib.Nat.{le_refl, min-le_left, min-le_right, zero-add}
use native.Mathlib.Omega.{arith}
use lib.Dec.{ltb}
use Rattle.std.proofs.Common.{None, Some, Ok, Err}
use lib.ListN.{length, take, drop, length-take, take-append-drop}
use lib.Seq.{length-take-le, take-take}
use borrow.Author.Tests.{le-ltb}
use Rattle.checks.specs.Laws.{Bytes}
use Rattle.checks.proofs.Choice.{by_cond}
use Rattle.checks.proofs.Bytes.{bytes_take}
use Rattle.serial.specs.declared.receiver.Receiver.{Receiver}
use Rattle.serial.specs.declared.taker.TakeError.TheVariants.{ShortOutput, Inconsistent}
use Rattle.serial.specs.declared.taker.Taken.{Taken}
use Rattle.serial.specs.Consistency.{Consistent}
use Rattle.serial.specs.Receiver.{Outcome, fresh_of, step_of}
use Rattle.serial.specs.Run.{emit, outs_by, outs_of, run_by, run_of}
use Rattle.serial.specs.Steps.{Call, CountIsSteps, Steps, called, handed}
use Rattle.serial.specs.Taker.{after_step, stop, take_from, taken_of}
use Rattle.serial.proofs.Keeps.{run_keeps}
use Rattle.serial.proofs.Run.{outs_append, run_append}

-- ---- one call

-- m steps over the first of the bytes, on top of n
record Made (xs : List ℕ) (k : ℕ) (s : Receiver) (n : ℕ) (t : Taken) : Type 0 where
  m : ℕ
  count : t.taken ≡ n + m
  within : m ≤ length xs
  allowed : m ≤ k
  state : t.state ≡ run_of s (take m xs)
  outs : (i : ℕ) → outs_of i s (take m xs) ≡ handed t.reason t.state (i + m - 1) []

-- no step, and nothing handed out
none : (xs : List ℕ) (k : ℕ) (s : Receiver) (n : ℕ) (t : Taken) → t.taken ≡ n → t.state ≡ s
    → ((i : ℕ) → handed t.reason t.state i [] ≡ []) → Made xs k s n t
unfolding run_by outs_by
none xs k s n t e f g =
    record { m = 0; count = omega arith; within = zero-le; allowed = zero-le; state = f; outs = λ i. sym (g (i + 0 - 1)) }

-- a step, and what follows it
module _ (b : ℕ) (bs : List ℕ) (k : ℕ) (s : Receiver) (n : ℕ) (t : Taken) (d : Made bs k (step_of b s).state (n + 1) t) where
  one : (o : Outcome) (u : Taken) → (step_of b s).outcome ≡ o → u.taken ≡ n + 1 → u.state ≡ (step_of b s).state
      → ((i : ℕ) → emit o (step_of b s).state i [] ≡ handed u.reason u.state i []) → Made (b ∷ bs) (suc k) s n u
  unfolding run_by outs_by
  one o u f e g h = record {
    m = 1;
    count = e;
    within = suc-le-suc zero-le;
    allowed = suc-le-suc zero-le;
    state = g;
    outs = λ i.
        let place : i + 1 - 1 ≡ i = omega arith in
        ap (λ (x : Outcome). emit x (step_of b s).state i []) f ∙ h i ∙ ap (λ (j : ℕ). handed u.reason u.state j []) (sym place);
  }

  after : (o : Outcome) → (step_of b s).outcome ≡ o → Made (b ∷ bs) (suc k) s n (after_step o (step_of b s).state (n + 1) t)
  unfolding run_by outs_by
  after (Ok None) f = record {
    m = suc d.m;
    count = (let e = d.count in omega arith);
    within = suc-le-suc d.within;
    allowed = suc-le-suc d.allowed;
    state = d.state;
    outs = λ i.
        let place : i + 1 + d.m - 1 ≡ i + suc d.m - 1 = omega arith in
        ap (λ (x : Outcome). emit x (step_of b s).state i (outs_of (i + 1) (step_of b s).state (take d.m bs))) f
        ∙ d.outs (i + 1) ∙ ap (λ (j : ℕ). handed t.reason t.state j []) place;
  }
  after (Ok (Some j)) f = one (Ok (Some j)) _ f refl refl (λ i. refl)
  after (Err x) f = one (Err x) _ f refl refl (λ i. refl)

made : (xs : List ℕ) (k : ℕ) (s : Receiver) (n : ℕ) → Made xs k s n (take_from xs k s n)
unfolding take_from
made [] k s n = none [] k s n _ refl refl (λ i. refl)
made (b ∷ bs) zero s n = none (b ∷ bs) zero s n _ refl refl (λ i. refl)
made (b ∷ bs) (suc k) s n = after b bs k s n _ (made bs k (step_of b s).state (n + 1)) (step_of b s).outcome refl

steps : (xs : List ℕ) (k : ℕ) (s : Receiver) (t : Taken) → Made xs k s 0 t → Steps xs k s t
steps xs k s t d =
    let all : d.m ≡ t.taken = sym (d.count ∙ zero-add d.m) in
    record {
      within = subst (λ (j : ℕ). j ≤ length xs) all d.within;
      allowed = subst (λ (j : ℕ). j ≤ k) all d.allowed;
      state = d.state ∙ ap (λ (j : ℕ). run_of s (take j xs)) all;
      outs = λ i. subst (λ (j : ℕ). outs_of i s (take j xs) ≡ handed t.reason t.state (i + j - 1) []) all (d.outs i);
    }

-- from a consistent state the taker takes bytes, or has no room and takes none
pub count_is_steps : CountIsSteps
unfolding taken_of
count_is_steps input allowance room s c =
    subst (λ (t : Bool). Steps input allowance s (cond t (cond (ltb room 255) (stop (Err ShortOutput) 0 s) (take_from input allowance s 0)) (stop (Err Inconsistent) 0 fresh_of)))
    (sym c.fits)
    (by_cond (Steps input allowance s) (ltb room 255) (stop (Err ShortOutput) 0 s) (take_from input allowance s 0)
    (λ e. steps input allowance s _ (none input allowance s 0 _ refl refl (λ i. refl)))
    (λ e. steps input allowance s _ (made input allowance s 0)))

-- ---- a call on a stream

-- a call takes the stream's first bytes
module _ (c : Call) (s : Receiver) (stream : List ℕ) (fits : Consistent s) where
  abbrev taken : ℕ
  taken = (called c s stream).taken

  here : Steps (take c.offered stream) c.allowance s (called c s stream)
  here = count_is_steps (take c.offered stream) c.allowance c.room s fits

  least : min c.offered (length stream) ≤ c.offered
  least = min-le_left c.offered (length stream)

  same_bytes : take taken (take c.offered stream) ≡ take taken stream
  same_bytes = take-take taken c.offered stream (omega (arith, here.within, length-take c.offered stream, least))

  call_state : (called c s stream).state ≡ run_of s (take taken stream)
  call_state = here.state ∙ ap (run_of s) same_bytes

  call_outs : (i : ℕ) → outs_of i s (take taken stream) ≡ handed (called c s stream).reason (called c s stream).state (i + taken - 1) []
  call_outs i = ap (outs_of i s) (sym same_bytes) ∙ here.outs i

  pub within : taken ≤ length stream
  within = omega (arith, here.within, length-take c.offered stream, min-le_right c.offered (length stream))

  pub kept : Bytes stream → Consistent (called c s stream).state
  kept h = subst Consistent (sym call_state) (run_keeps s (take taken stream) fits (bytes_take taken stream h))

  -- and one pass goes on behind them
  pub goes_on : (i : ℕ) → outs_of i s stream
      ≡ handed (called c s stream).reason (called c s stream).state (i + taken - 1) [] ++ outs_of (i + taken) (called c s stream).state (drop taken stream)
  goes_on i =
      ap (outs_of i s) (sym (take-append-drop taken stream))
      ∙ outs_append i s (take taken stream) (drop taken stream)
      ∙ ap (λ (n : ℕ). outs_of i s (take taken stream) ++ outs_of (i + n) (run_of s (take taken stream)) (drop taken stream)) (length-take-le taken stream within)
      ∙ ap (λ (u : Receiver). outs_of i s (take taken stream) ++ outs_of (i + taken) u (drop taken stream)) (sym call_state)
      ∙ ap (λ (outs : List (ℕ × List ℕ)). outs ++ outs_of (i + taken) (called c s stream).state (drop taken stream)) (call_outs i)

  pub state_goes_on : run_of s stream ≡ run_of (called c s stream).state (drop taken stream)
  state_goes_on =
      ap (run_of s) (sym (take-append-drop taken stream)) ∙ run_append s (take taken stream) (drop taken stream)
      ∙ ap (λ (u : Receiver). run_of u (drop taken stream)) (sym call_state)

step_least : (o : Outcome) (s : Receiver) (n : ℕ) (t : Taken) → n ≤ t.taken → n ≤ (after_step o s n t).taken
step_least (Ok None) s n t h = h
step_least (Ok (Some k)) s n t h = le_refl n
step_least (Err x) s n t h = le_refl n

-- a willing call takes a byte where there is one
pub takes_one : (b : ℕ) (bs : List ℕ) (s : Receiver) (offered allowance room : ℕ) → Consistent s → 1 ≤ offered → 1 ≤ allowance → 255 ≤ room
    → 1 ≤ (taken_of (take offered (b ∷ bs)) allowance room s).taken
unfolding taken_of take_from
takes_one b bs s zero allowance room fits h k r = absurd (omega arith)
takes_one b bs s (suc offered) zero room fits h k r = absurd (omega arith)
takes_one b bs s (suc offered) (suc allowance) room fits h k r =
    let rest = take_from (take offered bs) allowance (step_of b s).state 1 in
    let d = made (take offered bs) allowance (step_of b s).state 1 in
    let least : 1 ≤ rest.taken = omega (arith, d.count) in
    simp (fits.fits, le-ltb room 255 r) (step_least (step_of b s).outcome (step_of b s).state 1 rest least)
