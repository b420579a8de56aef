use Rattle.std.proofs.Common.{◌∙◌, ◌++◌, ℕ, List, sym, ap}
use Rattle.std.proofs.lemmas.List.{append-nil}
use Rattle.wf_tables.specs.Tables.{word_listed}
use Rattle.wf_tables.proofs.PartLemmas.{leaves_more, leaves_none}
use Rattle.wf_tables.proofs.listing.push_leaves.Goals as goal

pub loop-i-init : goal.loop-i-init
loop-i-init c = λ homes is.
    sym (append-nil c.args.out.now.items)
    ∙ ap (λ (ns : List ℕ). c.args.out.now.items ++ ns) (sym (leaves_none homes c.args.flat.now c.args.node.generation c.args.node.prefix c.args.node.frame))

pub loop-i-preserved : goal.loop-i-preserved
loop-i-preserved c = λ homes is.
    leaves_more homes c.args.flat.now c.args.node.generation c.args.node.prefix c.args.node.frame c.loop-i.i c.args.out.now.items c.loop-i.out.items c.push_word.new.out.items
    (c.loop-i.invariant homes is)
    (c.in_ok-push_word.ensures ∙ ap (λ (word : ℕ). c.loop-i.out.items ++ word_listed 0 c.args.node.frame c.loop-i.i word) (c.leaf_for-word.ensures homes is))
