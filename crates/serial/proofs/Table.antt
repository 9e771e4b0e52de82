-- A run by the table alone, without the test whether the state is consistent. From a consistent state the test is always true, since a step
-- keeps a state consistent: so both runs are the same, and what is to be said of a run may be said of the table. Assumes nothing.
use Prim.Native.Nat.{ℕ, suc, ◌+◌}
use mathlib.Core.Path.{◌≡◌, ◌∙◌, ap, refl, sym}
use mathlib.Core.List.{List, [], ◌∷◌}
use Rattle.checks.specs.Laws.{Bytes}
use Rattle.serial.specs.declared.receiver.Receiver.{Receiver}
use Rattle.serial.specs.declared.receiver.Stepped.{Stepped}
use Rattle.serial.specs.Receiver.{row_of, step_of}
use Rattle.serial.specs.Run.{emit, outs_by, outs_of, run_by, run_of}
use Rattle.serial.specs.Consistency.{Consistent}
use Rattle.serial.proofs.Consistent.{row-of}
use Rattle.serial.proofs.Keeps.{keeps}

-- what a state's row leaves
abbrev table_step : ℕ → Receiver → Stepped
table_step b s = row_of s.position b s

unfoldable pub table_run : Receiver → List ℕ → Receiver
table_run s [] = s
table_run s (b ∷ bs) = table_run (table_step b s).state bs

unfoldable pub table_outs : ℕ → Receiver → List ℕ → List (ℕ × List ℕ)
table_outs i s [] = []
table_outs i s (b ∷ bs) =
    emit (table_step b s).outcome (table_step b s).state i (table_outs (i + 1) (table_step b s).state bs)

pub table-run : (s : Receiver) (xs : List ℕ) → Consistent s → Bytes xs → table_run s xs ≡ run_of s xs
unfolding table_run run_by
table-run s [] c bytes = refl
table-run s (b ∷ bs) c bytes =
    ap (λ (r : Stepped). table_run r.state bs) (sym (row-of s b c.fits))
    ∙ table-run (step_of b s).state bs (keeps s b c (bytes 0)) (λ i. bytes (suc i))

pub table-outs : (i : ℕ) (s : Receiver) (xs : List ℕ) → Consistent s → Bytes xs → table_outs i s xs ≡ outs_of i s xs
unfolding table_outs outs_by
table-outs i s [] c bytes = refl
table-outs i s (b ∷ bs) c bytes =
    ap (λ (r : Stepped). emit r.outcome r.state i (table_outs (i + 1) r.state bs)) (sym (row-of s b c.fits))
    ∙ ap (emit (step_of b s).outcome (step_of b s).state i)
    (table-outs (i + 1) (step_of b s).state bs (keeps s b c (bytes 0)) (λ i. bytes (suc i)))
