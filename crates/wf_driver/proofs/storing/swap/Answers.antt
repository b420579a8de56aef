use Rattle.std.proofs.Common.{◌%◌, ap, Some}
use Rattle.wf_flat.specs.State.{FlatState}
use Rattle.wf_outside.specs.Pages.{page_of}
use Rattle.wf_flat.specs.Changes.{swapped_by}
use Rattle.wf_flat.specs.Memory.{data_in, number_in}
use Rattle.wf_driver.specs.declared.actions.Write.TheVariants.{Swap}
use Rattle.wf_driver.specs.Stepping.{store_at}
use Rattle.wf_driver.proofs.AccessLemmas.{value_there}
use Rattle.wf_driver.proofs.MakingLemmas.{ends_changed, swap_made, wrote_acts, wrote_held, swap_answers, done}
use Rattle.wf_flat.proofs.ChangeLemmas.{hart_there}
use Rattle.wf_driver.proofs.ServingLemmas.{store_access, swap_may}
use Rattle.wf_driver.proofs.storing.swap.Goals as goal

pub swap-requires-clause-there : goal.swap-requires-clause-there
swap-requires-clause-there c = hart_there c.args.flat.now c.args.access.now.hart _ c.requires.ready

pub end-requires-clause-acts : goal.end-requires-clause-acts
end-requires-clause-acts c =
    wrote_acts c.args.flat.now c.swap.new.self c.args.access.now.hart (page_of c.args.access.now.operand.va) (c.args.access.now.operand.va % 4096) c.args.access.now.operand.width c.amo-new.result (swapped_by c.data_value-old.result) (Some c.args.page) c.requires.acts c.swap.ensures.state c.swap.ensures.ordered

pub end-requires-clause-done : goal.end-requires-clause-done
end-requires-clause-done c =
    done c.args.flat.now c.swap.new.self c.args.access.now.hart c.data_value-old.result (Some c.args.page) c.args.access.now.arch c.finished-next.result c.args.access.now.operand.inst (store_at c.args.access.now.operand) (swapped_by c.data_value-old.result) c.requires.ready
    (ap (λ (f : FlatState). f.harts) c.swap.ensures.state) (store_access c.args.access.now.arch c.args.access.now.operand (Swap c.args.op c.args.value) c.requires.store)
    (swap_answers c.data_value-old.result c.args.access.now.arch c.args.access.now.operand.inst (store_at c.args.access.now.operand))
    (wrote_held c.args.flat.now c.swap.new.self c.args.access.now.hart c.args.page (c.args.access.now.operand.va % 4096) c.args.access.now.operand.width c.amo-new.result (store_at c.args.access.now.operand) c.requires.held c.swap.ensures.page) c.finished-next.ensures

pub returns : goal.returns
returns c =
    ends_changed c.args.flat.now c.swap.new.self c.end.new.flat c.args.access.now.hart (swapped_by c.data_value-old.result) c.args.journal.now.items c.append.new.journal.items c.end.new.journal.items
    (λ s before b. swap_made s c.args.flat.now c.swap.new.self before c.args.journal.now.items c.append.new.journal.items c.args.access.now.hart c.args.access.now.operand.va c.args.access.now.operand.width c.data_value-old.result c.amo-new.result b c.requires.acts.no_one
    (swap_may c.args.flat.now c.args.access.now.hart c.args.page c.args.value c.data_value-old.result c.amo-new.result c.args.op c.args.access.now.arch c.args.access.now.operand c.requires.store c.requires.ready c.requires.held (value_there (λ page. number_in page.words (c.args.access.now.operand.va % 4096) c.args.access.now.operand.width) (data_in c.args.flat.now.pages (page_of c.args.access.now.operand.va)) c.data_value-old.result c.data_value-old.ensures) c.amo-new.ensures.value)
    c.swap.ensures.state c.append.ensures.items)
    (ap (λ (f : FlatState). f.harts) c.swap.ensures.state) c.end.ensures
