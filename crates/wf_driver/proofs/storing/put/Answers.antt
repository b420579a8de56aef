use Rattle.std.proofs.Common.{◌%◌, ap, Some}
use Rattle.wf_flat.specs.State.{FlatState}
use Rattle.wf_outside.specs.Pages.{page_of}
use Rattle.wf_flat.specs.Changes.{written_by}
use Rattle.wf_driver.specs.Stepping.{put_by, store_at}
use Rattle.wf_driver.proofs.MakingLemmas.{ends_changed, put_made, wrote_acts, wrote_held, put_answers, done}
use Rattle.wf_driver.proofs.ServingLemmas.{store_access, put_kind, put_may}
use Rattle.wf_driver.proofs.storing.put.Goals as goal

pub put_bytes-requires-clause-kind : goal.put_bytes-requires-clause-kind
put_bytes-requires-clause-kind c = put_kind c.args.flat.now c.args.access.now.hart c.args.value c.args.conditional c.args.access.now.arch c.args.access.now.operand c.requires.store c.requires.ready

pub end-requires-clause-acts : goal.end-requires-clause-acts
end-requires-clause-acts c =
    wrote_acts c.args.flat.now c.put_bytes.new.flat c.args.access.now.hart (page_of c.args.access.now.operand.va) (c.args.access.now.operand.va % 4096) c.args.access.now.operand.width c.low_bytes-low.result written_by (Some c.args.page) c.requires.acts c.put_bytes.ensures.state c.put_bytes.ensures.ordered

pub end-requires-clause-done : goal.end-requires-clause-done
end-requires-clause-done c =
    done c.args.flat.now c.put_bytes.new.flat c.args.access.now.hart 0 (Some c.args.page) c.args.access.now.arch c.finished-next.result c.args.access.now.operand.inst (store_at c.args.access.now.operand) written_by c.requires.ready (ap (λ (f : FlatState). f.harts) c.put_bytes.ensures.state)
    (store_access c.args.access.now.arch c.args.access.now.operand (put_by c.args.conditional c.args.value) c.requires.store) (put_answers c.args.access.now.arch c.args.access.now.operand.inst (store_at c.args.access.now.operand))
    (wrote_held c.args.flat.now c.put_bytes.new.flat c.args.access.now.hart c.args.page (c.args.access.now.operand.va % 4096) c.args.access.now.operand.width c.low_bytes-low.result (store_at c.args.access.now.operand) c.requires.held c.put_bytes.ensures.page) c.finished-next.ensures

pub returns : goal.returns
returns c =
    ends_changed c.args.flat.now c.put_bytes.new.flat c.end.new.flat c.args.access.now.hart written_by c.args.journal.now.items c.append.new.journal.items c.end.new.journal.items
    (λ s before b. put_made s c.args.flat.now c.put_bytes.new.flat before c.args.journal.now.items c.append.new.journal.items c.args.access.now.hart c.args.access.now.operand.va c.args.access.now.operand.width c.low_bytes-low.result b c.requires.acts.no_one
    (put_may c.args.flat.now c.args.access.now.hart c.low_bytes-low.result c.args.page c.args.value c.args.conditional c.args.access.now.arch c.args.access.now.operand c.requires.store c.requires.ready c.requires.held c.low_bytes-low.ensures) c.put_bytes.ensures.state c.append.ensures.items)
    (ap (λ (f : FlatState). f.harts) c.put_bytes.ensures.state) c.end.ensures
