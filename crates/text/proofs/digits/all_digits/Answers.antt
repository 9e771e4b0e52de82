-- `text::digits::all_digits` meets its contract: the test that the closure makes of each byte is the definition's. Assumes nothing.
use Rattle.std.proofs.Common.{◌≡◌, ◌∙◌, ℕ, ◌&&◌, List, refl, rules, ltb}
use Rattle.std.proofs.lemmas.Iterator.{YieldsList-from_slice}
use Rattle.std.proofs.lemmas.Iterator.Search.{all_from_yields_List}
use Rattle.std.proofs.lemmas.List.Recursion.{same_from_clauses}
use Rattle.std.specs.List.{list_all}
use borrow.Author.Tests.{tests}
use Rattle.text.specs.Read.{all_digits, digit_value}
use Rattle.text.proofs.digits.all_digits.Goals as goal

same_all : (base : ℕ) (text : List ℕ) → list_all (λ x. ltb (digit_value x) base) text ≡ all_digits base text
unfolding all_digits
same_all base text =
    same_from_clauses (list_all (λ x. ltb (digit_value x) base)) (all_digits base) (λ x rest. ltb (digit_value x) base && rest) refl (λ _ _. refl)
    (λ _ _. refl) text

pub returns : goal.returns
returns c =
    all_from_yields_List (λ x. ltb (digit_value x) c.args.base) _ _ _ c.all.ensures.ran (YieldsList-from_slice c.args.text.now cc)
    (λ x b q k. search (rules, tests)) ∙ same_all c.args.base c.args.text.now
