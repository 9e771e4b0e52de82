-- Laws of what a call gives, by the number that it took off an answer: what it answers, and what stands in its lent numbers and outputs where the number is
-- done and where it is not. Assumes nothing.
use Prim.Native.Nat.{ℕ}
use mathlib.Core.Path.{◌≡◌, ◌∙◌, ap, sym}
use mathlib.Core.List.{List}
use borrow.Author.Tests.{eq-eqb, ne_eqb}
use Rattle.checks.specs.Numbers.{Answer, done, value_of}
use Rattle.pulevago.specs.Lent.{given}

-- done: what is given stands there
pub given_done : {A : Type 0} (number : ℕ) (there what : A) → number ≡ done → what ≡ given number there what
given_done number there what e = simp (eq-eqb number done e)

-- refused: what was there
pub given_refused : {A : Type 0} (number : ℕ) (there what : A) → (number ≡ done → ⊥) → there ≡ given number there what
given_refused number there what h = simp (ne_eqb number done h)

-- the answer a of the function below, of which the number was taken, is the answer b that its contract names
module _ (a b : Answer) (number : ℕ) (taken : number ≡ a.number) (e : a ≡ b) where
  pub number_given : number ≡ b.number
  number_given = taken ∙ ap (λ (x : Answer). x.number) e

  -- an output that is left by the answer's number
  pub output_given : (made out what : List ℕ) → made ≡ given a.number out what → made ≡ given number out what
  output_given made out what h = h ∙ ap (λ (n : ℕ). given n out what) (sym taken)

  -- the answer's value, where it is done
  pub value_given : (value there : ℕ) → number ≡ done → value ≡ value_of a → value ≡ given number there (value_of b)
  value_given value there is-done h = h ∙ ap value_of e ∙ given_done number there (value_of b) is-done
