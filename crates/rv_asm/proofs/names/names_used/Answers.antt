use Rattle.std.proofs.Common.{◌∙◌, ◌++◌, ap, sym, List, ℕ, arith}
use Rattle.std.proofs.lemmas.Bool.Decides.{nat_tests}
use Rattle.std.proofs.lemmas.List.{append-nil}
use Rattle.rv_asm.specs.Names.{name_values}
use Rattle.rv_asm.proofs.NameLemmas.{no_names}
use Rattle.rv_asm.proofs.names.names_used.Goals as goal

pub returns : goal.returns
returns c =
    let none = no_names c.loop-rest.rest.now (grind (arith, nat_tests, c.is_empty.ensures, c.loop-rest-test.false)) in
    sym (append-nil (name_values c.loop-rest.names.items)) ∙ ap (λ (l : List (List ℕ)). name_values c.loop-rest.names.items ++ l) (sym none) ∙ c.loop-rest.invariant
