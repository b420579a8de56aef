use Rattle.std.proofs.Common.{◌∙◌, ◌++◌, ◌+◌, ◌*◌, ℕ, List, ap}
use Rattle.wf_tables.specs.Tables.{word_listed}
use Rattle.wf_tables.specs.declared.homes.Tenant.TheVariants.{Node}
use Rattle.wf_tables.proofs.PartLemmas.{below_none, below_some, leaves_all}
use Rattle.wf_tables.proofs.listing.push_lower.Goals as goal

pub returns-in_ok-push_leaves : goal.returns-in_ok-push_leaves
returns-in_ok-push_leaves c = λ homes is.
    below_some homes c.args.flat.now c.args.upper.generation 0 (c.args.upper.prefix * 512 + c.args.i) c.args.upper.frame c.args.i c.in-Some.frame c.home_of-home.result c.args.out.now.items c.push_word.new.out.items c.push_leaves.new.out.items
    (c.home_of-home.ensures ∙ is (Node c.args.upper.generation 0 (c.args.upper.prefix * 512 + c.args.i))) c.in-Some.is
    (c.in_ok-push_word.ensures ∙ ap (λ (word : ℕ). c.args.out.now.items ++ word_listed 1 c.args.upper.frame c.args.i word) c.pointer_to.ensures)
    (c.in_ok-push_leaves.ensures homes is ∙ ap (λ (ns : List ℕ). c.push_word.new.out.items ++ ns) (leaves_all homes c.args.flat.now c.args.upper.generation (c.args.upper.prefix * 512 + c.args.i) c.in-Some.frame))

pub returns-in_default : goal.returns-in_default
returns-in_default c = λ homes is.
    below_none homes c.args.flat.now c.args.upper.generation 0 (c.args.upper.prefix * 512 + c.args.i) c.args.upper.frame c.args.i c.home_of-home.result c.args.out.now.items c.push_word.new.out.items
    (c.home_of-home.ensures ∙ is (Node c.args.upper.generation 0 (c.args.upper.prefix * 512 + c.args.i))) c.in_default.is
    (c.in_ok-push_word.ensures ∙ ap (λ (word : ℕ). c.args.out.now.items ++ word_listed 1 c.args.upper.frame c.args.i word) c.pointer_to.ensures)
