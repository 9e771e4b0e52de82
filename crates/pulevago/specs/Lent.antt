-- What a call leaves in the numbers and outputs that it is lent, by its answer (document 01, 'Numbers given back'). Assumes nothing.
use Rattle.std.specs.Prelude.{ℕ, cond, eqb}
use Rattle.checks.specs.Numbers.{done}

-- by the number that is answered: what is given where it is done; a refusal leaves what was there
abbrev pub given : {A : Type 0} → ℕ → A → A → A
given number there what = cond (eqb number done) what there
