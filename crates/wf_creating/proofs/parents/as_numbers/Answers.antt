use Rattle.std.proofs.Common.{◌++◌, ◌+◌, ◌∙◌, ℕ, List, drop, sym, ap}
use Rattle.std.proofs.lemmas.Option.{slice_get-get_or}
use Rattle.wf_mapping.proofs.MapLemmas.{drop_next}
use Rattle.wf_creating.proofs.NumberLemmas.{put_next}
use Rattle.wf_creating.proofs.parents.as_numbers.Goals as goal

pub loop-number-preserved : goal.loop-number-preserved
loop-number-preserved c =
    let numbers = c.args.rising.now in
    let i = c.loop-number.number-index in
    let both = put_next numbers (drop (i + 1) numbers) _ c.loop-number.numbers c.put.new.self c.requires c.loop-number.invariant.room
    (sym (ap (λ (ns : List ℕ). c.loop-number.numbers.items ++ ns) (drop_next numbers i _ (slice_get-get_or numbers i 0 c.loop-number-test.true))) ∙ c.loop-number.invariant.whole) c.in_ok-put.ensures.ok in
    record { room = both.0; whole = both.1 }
