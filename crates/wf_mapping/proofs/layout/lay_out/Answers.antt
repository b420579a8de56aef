use Rattle.std.proofs.Common.{rules, ◌≡◌, ◌+◌, ◌∙◌, ◌/◌, ap, List, ℕ, drop, length, take}
use Rattle.wf_mapping.specs.declared.nodes.MissingNode.{MissingNode}
use Rattle.wf_mapping.specs.Layout.{free_in, missing_for, pages_placed}
use Rattle.wf_mapping.specs.Nodes.{nodes_placed}
use Rattle.wf_mapping.proofs.LayoutLemmas.{nodes_laid, take_less}
use Rattle.wf_mapping.proofs.layout.lay_out.Goals as goal

pub returns : goal.returns
returns c =
    let m = c.args.mapping in
    let free = free_in c.args.records.now in
    let missing : c.in_ok-missing.missing.items ≡ missing_for c.args.records.now m = c.in_ok-missing.ensures in
    let counted : c.len.result ≡ length c.in_ok-missing.missing.items = search rules in
    let len : c.len.result ≡ length (missing_for c.args.records.now m) = counted ∙ ap (λ (ms : List MissingNode). length ms) missing in
    let frames : c.in_ok-frames.frames.items ≡ take (m.pages + length (missing_for c.args.records.now m)) free = c.in_ok-frames.ensures ∙ ap (λ (k : ℕ). take (m.pages + k) free) len in
    let first : c.first_frames-of_pages.result.now ≡ take m.pages free =
    c.first_frames-of_pages.ensures ∙ ap (take m.pages) (c.deref.ensures.value ∙ frames) ∙ take_less m.pages (length (missing_for c.args.records.now m)) free in
    let others : c.other_frames.result.now ≡ drop m.pages (take (m.pages + length (missing_for c.args.records.now m)) free) = c.other_frames.ensures ∙ ap (drop m.pages) (c.deref-3.ensures.value ∙ frames) in
    let nodes : c.deref-2.result.now ≡ missing_for c.args.records.now m = c.deref-2.ensures.value ∙ missing in
    record {
      need = ap (λ (k : ℕ). m.pages + k) len;
      pages = c.from_vec.ensures ∙ c.in_ok-pages.ensures ∙ ap (pages_placed m.write (m.va / 4096)) first;
      nodes =
          c.from_vec-2.ensures ∙ c.in_ok-nodes.ensures ∙ ap (λ (ms : List MissingNode). nodes_placed ms c.other_frames.result.now) nodes ∙ ap (nodes_placed (missing_for c.args.records.now m)) others
          ∙ nodes_laid (missing_for c.args.records.now m) m.pages free;
    }
