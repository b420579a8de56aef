use Rattle.std.proofs.Common.{◌∙◌, ◌++◌, ◌+◌, ◌/◌, ◌∷◌, [], ℕ, List, Some, sym, ap, drop, get_or, map}
use Rattle.std.proofs.lemmas.List.{append-nil}
use Rattle.wf_homes.specs.Homes.{NodeOf}
use Rattle.wf_tables.specs.Nodes.{walked}
use Rattle.wf_tables.specs.Values.{tenant_value}
use Rattle.wf_tables.proofs.NodeLemmas.{one_more, two_more, walked_more, walked_first, walked_end}
use Rattle.wf_tables.proofs.tenants.push_walked.Goals.{then-not-is_below+in_ok-push_node, else-not-is_below}
use Rattle.wf_tables.proofs.tenants.push_walked.Goals as goal

pub loop-place-preserved : goal.loop-place-preserved
loop-place-preserved c =
    let g = c.args.generation in
    let i = c.loop-place.place-index in
    let reach = c.args.reach.now in
    let place = get_or reach i 0 in
    let before = map tenant_value c.loop-place.out.items in
    let after = map tenant_value c.push_node-in-loop-place.new.out.items in
    elim c.if-not-is_below.branch [
      | then-not-is_below+in_ok-push_node w ↦ (
          let rest = map (λ (node : ℕ × ℕ). NodeOf g node.0 node.1) (walked (Some (place / 512)) (drop (i + 1) reach)) in
          rw w.last-is (
          two_more before (map tenant_value w.push_node.new.out.items) after rest (NodeOf g 1 (place / 512)) (NodeOf g 0 place) w.in_ok-push_node.ensures
          (c.in_ok-push_node-2.ensures ∙ ap (λ (o : _). map tenant_value o.items ++ NodeOf g 0 place ∷ []) w.out-is)
          ∙ ap (λ (ns : List (ℕ × ℕ)). before ++ map (λ (node : ℕ × ℕ). NodeOf g node.0 node.1) ns)
          (sym (walked_first c.loop-place.last reach i 0 c.loop-place-test.true (sym c.is_below.ensures ∙ w.if-not-is_below.true)))
          ∙ c.loop-place.invariant))
      | else-not-is_below w ↦ (
          let rest = map (λ (node : ℕ × ℕ). NodeOf g node.0 node.1) (walked c.loop-place.last (drop (i + 1) reach)) in
          rw w.last-is (
          one_more before after rest (NodeOf g 0 place)
          (c.in_ok-push_node-2.ensures ∙ ap (λ (o : _). map tenant_value o.items ++ NodeOf g 0 place ∷ []) w.out-is)
          ∙ ap (λ (ns : List (ℕ × ℕ)). before ++ map (λ (node : ℕ × ℕ). NodeOf g node.0 node.1) ns)
          (sym (walked_more c.loop-place.last reach i 0 c.loop-place-test.true (sym c.is_below.ensures ∙ w.if-not-is_below.false)))
          ∙ c.loop-place.invariant))
    ]

pub returns : goal.returns
returns c =
    sym (append-nil (map tenant_value c.loop-place.out.items))
    ∙ ap (λ (ns : List (ℕ × ℕ)). map tenant_value c.loop-place.out.items ++ map (λ (node : ℕ × ℕ). NodeOf c.args.generation node.0 node.1) ns)
    (sym (walked_end c.loop-place.last c.args.reach.now c.loop-place.place-index c.loop-place-test.false))
    ∙ c.loop-place.invariant
