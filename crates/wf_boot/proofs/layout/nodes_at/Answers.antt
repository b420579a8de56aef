use Rattle.std.proofs.Common.{◌+◌, ℕ, drop, refl}
use Rattle.std.proofs.lemmas.Option.{slice_get-get_or}
use Rattle.wf_views.specs.declared.view.NodeAt.{NodeAt}
use Rattle.wf_start.specs.Layout.{nodes_from}
use Rattle.wf_start.proofs.FirstLemmas.{from_next}
use Rattle.wf_boot.proofs.PageLemmas.{drop_next}
use Rattle.wf_boot.proofs.layout.nodes_at.Goals as goal

abbrev made : ℕ → ℕ × ℕ → NodeAt
made frame node = record { level = node.0; prefix = node.1; frame = frame }

pub loop-i-preserved : goal.loop-i-preserved
loop-i-preserved c =
    from_next made c.args.first c.loop-i.i (c.args.first + c.loop-i.i) c.loop-i.made.items c.push.new.self.items (nodes_from c.args.first c.args.nodes.now) _ (drop c.loop-i.i c.args.nodes.now) (drop (c.loop-i.i + 1) c.args.nodes.now)
    (drop_next c.args.nodes.now c.loop-i.i _ (slice_get-get_or c.args.nodes.now c.loop-i.i (0, 0) c.loop-i-test.true)) refl c.in_ok-push.ensures.items c.loop-i.invariant
