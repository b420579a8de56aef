use Rattle.std.proofs.Common.{◌∙◌, ◌<◌, ℕ, sym, ap, map, drop, length, not, arith}
use Rattle.std.specs.BTreeSet.{contains}
use Rattle.std.specs.Ordering.{nat_cmp}
use Rattle.std.proofs.lemmas.List.{map-append}
use Rattle.wf_tables.specs.Values.{home_value, tenant_value}
use Rattle.wf_tables.proofs.RenewalLemmas.{settle_end, settle_less, settle_more}
use Rattle.wf_tables.proofs.renewal.settle.Goals.{then-not-contains+in_ok-push, else-not-contains}
use Rattle.wf_tables.proofs.renewal.settle.Goals as goal

pub loop-frame-preserved : goal.loop-frame-preserved
loop-frame-preserved c =
    let free = λ (frame : ℕ). not (contains nat_cmp c.args.taken.now frame) in
    let at = c.loop-frame.at in
    let new = c.args.new.now in
    let within : at < length new = (let le = c.loop-frame.invariant.within in let ne = c.if-at-new.false in omega arith) in
    let before = map home_value c.loop-frame.homes.items in
    elim c.if-not-contains.branch [
      | then-not-contains+in_ok-push w ↦ (rw (w.homes-is, w.at-is) (record {
        within = omega arith;
        settled =
            settle_more free before (map home_value w.push.new.self.items) _ new at c.loop-frame.frame-counter c.args.count _ c.loop-frame-test.true within
            (ap not (sym c.contains.ensures ∙ w.if-not-contains.true))
            (ap (map home_value) w.in_ok-push.ensures.items ∙ map-append home_value c.loop-frame.homes.items _) c.loop-frame.invariant.settled;
      }))
      | else-not-contains w ↦ (rw (w.homes-is, w.at-is) (record {
        within = c.loop-frame.invariant.within;
        settled =
            settle_less free before _ (map tenant_value (drop at new)) c.loop-frame.frame-counter c.args.count c.loop-frame-test.true
            (ap not (sym c.contains.ensures ∙ w.if-not-contains.false)) c.loop-frame.invariant.settled;
      }))
    ]

pub returns : goal.returns
returns c =
    settle_end (λ (frame : ℕ). not (contains nat_cmp c.args.taken.now frame)) (map home_value c.loop-frame.homes.items) _ (map tenant_value (drop c.loop-frame.at c.args.new.now))
    c.loop-frame.frame-counter c.args.count c.loop-frame-test.false c.loop-frame.invariant.settled
