use Rattle.std.proofs.Common.{rules, ◌≡◌, ◌+◌, ◌∙◌, ℕ, List, ap, length, map}
use Rattle.wf_outside.specs.Images.{DeltaValue, data_numbers}
use Rattle.wf_mapping.specs.declared.nodes.NewNode.{NewNode}
use Rattle.wf_mapping.specs.Layout.{free_in}
use Rattle.wf_mapping.specs.Nodes.{missing_from, nodes_for}
use Rattle.wf_creating.specs.Layout.{root_of, texts_placed}
use Rattle.wf_patching.specs.Brought.{patched_numbers}
use Rattle.wf_patching.specs.Layout.{lacked_nodes, patched_nodes, table_with_patch, text_with_patch}
use Rattle.wf_patching.proofs.PlacedLemmas.{need_cong, nodes_cong, roomy_is, shared_cong, table_cong, view_is}
use Rattle.wf_patching.proofs.layout.lay_out_patch.Goals as goal

pub returns : goal.returns
returns c =
    let r = c.args.records.now in
    let parent : ℕ = c.args.parent in
    let delta : DeltaValue = c.args.delta.now in
    let free : List ℕ = free_in r in
    let n : c.in_ok-numbers.numbers.items ≡ patched_numbers r parent delta = c.in_ok-numbers.ensures in
    let p : c.delta.inside.shared.items ≡ delta.shared = ap (λ (d : DeltaValue). d.shared) c.delta.view_is in
    let sh : c.in_ok-shared.shared.items ≡ data_numbers delta.shared = c.in_ok-shared.ensures ∙ ap data_numbers (c.deref.ensures.value ∙ p) in
    let l : c.in_ok-lacked.lacked.items ≡ lacked_nodes r delta = c.in_ok-lacked.ensures ∙ ap (λ (ns : List ℕ). missing_from (nodes_for ns) r.views.views) (c.deref-4.ensures.value ∙ sh) in
    let o : c.in_ok-reach.own.items ≡ patched_nodes r parent delta = c.in_ok-reach.ensures.nodes in
    let dn : c.deref-5.result.now ≡ patched_numbers r parent delta = c.deref-5.ensures.value ∙ n in
    let dp : c.deref-6.result.now ≡ delta.shared = c.deref-6.ensures.value ∙ p in
    let dl : c.deref-7.result.now ≡ lacked_nodes r delta = c.deref-7.ensures.value ∙ l in
    let dw : c.deref-8.result.now ≡ patched_nodes r parent delta = c.deref-8.ensures.value ∙ o in
    let text : c.in_ok-text.text.items ≡ text_with_patch r parent delta = c.in_ok-text.ensures.text ∙ ap (λ (ns : List ℕ). texts_placed ns free) dn in
    let table : c.in_ok-text.table.items ≡ table_with_patch r parent delta = c.in_ok-text.ensures.table ∙ table_cong free _ _ _ _ _ _ _ _ dn dp dl dw in
    let nodes : c.from_vec.result.items ≡ map (λ (new : NewNode). new.node) (table_with_patch r parent delta) =
    c.from_vec.ensures.items ∙ c.in_ok-table_nodes.ensures ∙ ap (map (λ (new : NewNode). new.node)) (c.deref-9.ensures.value ∙ table) in
    let l1 : c.len.result ≡ length c.in_ok-numbers.numbers.items = search rules in
    let l2 : c.len-2.result ≡ length c.delta.inside.shared.items = search rules in
    let l3 : c.len-3.result ≡ length c.in_ok-lacked.lacked.items = search rules in
    let l4 : c.len-4.result ≡ length c.in_ok-reach.own.items = search rules in
    record {
      need = ap (λ (k : ℕ). k + c.len-2.result + c.len-3.result + c.len-4.result) l1 ∙ ap (λ (k : ℕ). length c.in_ok-numbers.numbers.items + k + c.len-3.result + c.len-4.result) l2
          ∙ ap (λ (k : ℕ). length c.in_ok-numbers.numbers.items + length c.delta.inside.shared.items + k + c.len-4.result) l3
          ∙ ap (λ (k : ℕ). length c.in_ok-numbers.numbers.items + length c.delta.inside.shared.items + length c.in_ok-lacked.lacked.items + k) l4
          ∙ need_cong _ _ _ _ _ _ _ _ n p l o;
      shared = c.from_vec-2.ensures ∙ c.in_ok-text.ensures.shared ∙ shared_cong free _ _ _ _ dn dp;
      nodes = c.from_vec-3.ensures ∙ c.in_ok-text.ensures.nodes ∙ nodes_cong free _ _ _ _ _ _ dn dp dl;
      table = c.from_vec-4.ensures ∙ table;
      view = view_is parent (c.args.patch + 1) _ _ _ _ _ _ _ _ _ _ _ _ _ _ _ c.in_ok-generation.ensures (c.root_of.ensures ∙ ap root_of (c.deref-10.ensures.value ∙ table))
          (roomy_is _ _ nodes c.from_vec.ensures.room) text c.in_ok-patched_jumps.ensures c.in_ok-reach.ensures.reach (roomy_is _ _ c.new.ensures.items c.new.ensures.room) (roomy_is _ _ c.new-2.ensures.items c.new-2.ensures.room);
    }
