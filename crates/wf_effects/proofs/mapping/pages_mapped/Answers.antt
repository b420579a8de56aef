use Rattle.std.proofs.Common.{rules}
use Rattle.wf_flat.specs.State.{PageState}
use Rattle.wf_flat.proofs.SortLemmas.{IsRising-sorted_by}
use Rattle.wf_effects.proofs.MappedLemmas.{mapped_distinct}
use Rattle.wf_effects.proofs.mapping.pages_mapped.Goals as goal

pub add_mapped-requires-clause-distinct : goal.add_mapped-requires-clause-distinct
add_mapped-requires-clause-distinct c =
    mapped_distinct c.args.flat.now.pages c.in_ok-more.more.items _ c.args.run.write c.args.run.first _ c.args.run.count c.requires.ordered.pages c.requires.free c.in_ok-more.ensures

pub returns-clause-ordered : goal.returns-clause-ordered
returns-clause-ordered c =
    let apart = mapped_distinct c.args.flat.now.pages c.in_ok-more.more.items _ c.args.run.write c.args.run.first _ c.args.run.count c.requires.ordered.pages c.requires.free c.in_ok-more.ensures in
    let state = c.in_ok-add_mapped.ensures.state c.in_ok-numbers.numbers.items (search rules) in
    rw state (record {
      pages = IsRising-sorted_by (λ (p : PageState). p.number) _ apart;
      met = c.requires.ordered.met;
    })
