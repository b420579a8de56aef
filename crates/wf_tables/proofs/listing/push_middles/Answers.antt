use Rattle.std.proofs.Common.{◌≡◌, ◌∙◌, ◌++◌, ◌+◌, ℕ, List, sym, ap, arith}
use Rattle.wf_tables.specs.Parts.{below_listed}
use Rattle.std.proofs.lemmas.List.{append-nil}
use Rattle.wf_tables.proofs.PartLemmas.{uppers_more, uppers_none}
use Rattle.wf_tables.proofs.listing.push_middles.Goals as goal

pub loop-i-init : goal.loop-i-init
loop-i-init c = λ homes is.
    sym (append-nil c.args.out.now.items)
    ∙ ap (λ (ns : List ℕ). c.args.out.now.items ++ ns) (sym (uppers_none homes c.args.flat.now c.args.generation 1 0 c.args.frame))

pub loop-i-preserved : goal.loop-i-preserved
loop-i-preserved c = λ homes is.
    let same : c.loop-i.i ≡ 0 + c.loop-i.i = omega arith in
    uppers_more homes c.args.flat.now c.args.generation 1 0 c.args.frame c.loop-i.i c.args.out.now.items c.loop-i.out.items c.push_middle.new.out.items
    (c.loop-i.invariant homes is)
    (c.in_ok-push_middle.ensures homes is ∙ ap (λ (prefix : ℕ). c.loop-i.out.items ++ below_listed homes c.args.flat.now c.args.generation 1 prefix c.args.frame c.loop-i.i) same)
