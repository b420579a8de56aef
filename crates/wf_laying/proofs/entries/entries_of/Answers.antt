use Rattle.std.proofs.Common.{◌*◌, ◌+◌, ◌∙◌, ℕ, refl, ap, arith}
use Rattle.wf_start.specs.Layout.{first_entry}
use Rattle.wf_laying.proofs.EntryLemmas.{all_entries, entry_added}
use Rattle.wf_laying.proofs.entries.entries_of.Goals as goal

pub loop-i-preserved : goal.loop-i-preserved
loop-i-preserved c =
    entry_added c.args.view.now c.args.node c.loop-i.i (c.loop-i.i + 1) c.first_entry.result c.loop-i.words.items c.push.new.self.items c.loop-i.invariant refl
    (c.first_entry.ensures ∙ ap (λ (p : ℕ). first_entry c.args.view.now c.args.node.level (p * 512 + c.loop-i.i)) c.from.ensures) c.in_ok-push.ensures.items

pub returns : goal.returns
returns c = all_entries c.args.view.now c.args.node c.loop-i.i c.loop-i.words.items c.loop-i.invariant (omega arith)
