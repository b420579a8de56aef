use Rattle.std.proofs.Common.{◌∙◌, ◌++◌, ℕ, List, ap}
use Rattle.wf_tables.specs.Tables.{word_listed}
use Rattle.wf_tables.specs.declared.homes.Tenant.TheVariants.{Node}
use Rattle.wf_tables.proofs.PartLemmas.{below_none, below_some, uppers_all}
use Rattle.wf_tables.proofs.listing.push_middle.Goals as goal

pub returns-in_ok-push_lowers : goal.returns-in_ok-push_lowers
returns-in_ok-push_lowers c = λ homes is.
    below_some homes c.args.flat.now c.args.generation 1 c.args.prefix c.args.frame c.args.prefix c.in-Some.lower c.home_of-home.result c.args.out.now.items c.push_word.new.out.items c.push_lowers.new.out.items
    (c.home_of-home.ensures ∙ is (Node c.args.generation 1 c.args.prefix)) c.in-Some.is
    (c.in_ok-push_word.ensures ∙ ap (λ (word : ℕ). c.args.out.now.items ++ word_listed 2 c.args.frame c.args.prefix word) c.pointer_to.ensures)
    (c.in_ok-push_lowers.ensures homes is ∙ ap (λ (ns : List ℕ). c.push_word.new.out.items ++ ns) (uppers_all homes c.args.flat.now c.args.generation 0 c.args.prefix c.in-Some.lower))

pub returns-in_default : goal.returns-in_default
returns-in_default c = λ homes is.
    below_none homes c.args.flat.now c.args.generation 1 c.args.prefix c.args.frame c.args.prefix c.home_of-home.result c.args.out.now.items c.push_word.new.out.items
    (c.home_of-home.ensures ∙ is (Node c.args.generation 1 c.args.prefix)) c.in_default.is
    (c.in_ok-push_word.ensures ∙ ap (λ (word : ℕ). c.args.out.now.items ++ word_listed 2 c.args.frame c.args.prefix word) c.pointer_to.ensures)
