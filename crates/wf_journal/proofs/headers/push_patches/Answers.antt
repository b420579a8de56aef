use Rattle.wf_journal.proofs.LineLemmas.{patch_pushed, patches_all}
use Rattle.wf_journal.proofs.headers.push_patches.Goals as goal

pub loop-number-preserved : goal.loop-number-preserved
loop-number-preserved c =
    patch_pushed c.args.patches.now c.loop-number.number c.index-patches-number.result c.loop-number.out.items c.push_patch_line.new.out.items _ c.loop-number.invariant c.loop-number-test.true
    c.index-patches-number.is (rw c.bytes.ensures at c.in_ok-push_patch_line.ensures)

pub returns : goal.returns
returns c = patches_all c.args.patches.now c.loop-number.number c.loop-number.out.items _ c.loop-number.invariant c.loop-number-test.false
