use Rattle.std.proofs.Common.{◌<◌, ◌≤◌, ◌∙◌, sym, arith, length}
use Rattle.wf_mapping.proofs.LowLemmas.{found_low, lowest_all, lowest_done, lowest_next, none_lowest}
use Rattle.wf_mapping.specs.Layout.{free_in}
use Rattle.wf_mapping.proofs.frames.lowest_free.Goals as goal

pub loop-init : goal.loop-init
loop-init c = rw c.new-frames.ensures.items (none_lowest c.args.records.now.frames.frames)

pub returns-in_default : goal.returns-in_default
returns-in_default c = lowest_all (free_in c.args.records.now) c.loop.frames.items c.loop.from c.loop.counter c.loop.invariant (sym c.lowest.ensures ∙ c.in_default.is) c.args.n c.loop.auto.counter-end

pub overflow_add-from : goal.overflow_add-from
overflow_add-from c =
    let few : length c.args.records.now.frames.frames ≤ 65536 = rw (← c.count-count.ensures.value) c.count-count.ensures.most in
    let low : c.in-Some.frame < 65536 = found_low c.args.records.now.frames.frames c.loop.from c.in-Some.frame 65536 few (sym c.lowest.ensures ∙ c.in-Some.is) in
    omega arith

pub loop-preserved : goal.loop-preserved
loop-preserved c = lowest_next (free_in c.args.records.now) c.loop.frames.items c.loop.from c.loop.counter c.loop.invariant c.push.new.self.items c.in-Some.frame (sym c.lowest.ensures ∙ c.in-Some.is) c.in_ok-push.ensures.items

pub returns : goal.returns
returns c = lowest_done (free_in c.args.records.now) c.loop.frames.items c.loop.from c.loop.counter c.loop.invariant c.args.n (omega arith)
