use Rattle.std.proofs.Common.{rules, ◌≡◌, ◌+◌, ◌∙◌, ℕ, List, Some, length, sym, ap, subst}
use Rattle.wf_outside.specs.Pages.{LimitsValue}
use Rattle.wf_views.specs.declared.view.NodeAt.{NodeAt}
use Rattle.wf_flat.specs.State.{FlatState}
use Rattle.wf_start.specs.Start.{nodes_first}
use Rattle.wf_boot.specs.Frames.{AreLaidOut}
use Rattle.wf_begin.proofs.RecordLemmas.{frames_at_start}
use Rattle.wf_begin.proofs.recording.first_records.Goals as goal

pub returns : goal.returns
returns c =
    let limits : c.flat.inside.limits ≡ c.args.flat.now.limits = ap (λ (s : FlatState). s.limits) c.flat.view_is in
    let nodes : c.as_slice.result.now ≡ c.args.view.nodes.items = search rules in
    let text : c.len-text.result ≡ length c.args.version.now.text = search rules in
    let count : c.len-count.result ≡ length c.args.flat.now.pages = search rules in
    let are : AreLaidOut c.in_ok-frames.frames c.args.flat.now.limits c.len-text.result c.len-count.result (length c.as_slice.result.now) =
    subst (λ (l : LimitsValue). AreLaidOut c.in_ok-frames.frames l c.len-text.result c.len-count.result (length c.as_slice.result.now)) limits c.in_ok-frames.ensures in
    record {
      limits = search rules;
      last_birth = are.last_birth;
      count = are.count;
      frames = frames_at_start c.args.flat.now c.args.version.now c.in_ok-frames.frames c.len-text.result c.len-count.result (length c.as_slice.result.now) are text count
          (c.requires.nodes ∙ ap (λ (ns : List NodeAt). nodes_first c.args.flat.now c.args.version.now + length ns) (sym nodes));
      views = search rules;
      last = c.in_ok-views.ensures.last ∙ ap (λ (n : ℕ). Some n) c.requires.first;
      pages = search rules;
      born = search rules;
      births = search rules;
    }
