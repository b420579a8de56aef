use Rattle.std.proofs.Common.{◌≡◌, ◌↔◌, Bool, Some, IsTrue}
use Rattle.std.proofs.lemmas.Bool.{false≢true}
use Rattle.wf_verdict.specs.declared.requests.Request.TheVariants.{Deletes}
use Rattle.wf_verdict.specs.Verdict.{refusal_of}
use Rattle.wf_goes.specs.Refusing.{RefusesDelete}
use Rattle.wf_goes.proofs.RefusingLemmas.{deletes_none, deletes_one, ok_by}
use Rattle.wf_goes.proofs.refusing.refuses_delete.Goals as goal

pub returns-then-generation-ge-MOST_GENERATIONS : goal.returns-then-generation-ge-MOST_GENERATIONS
returns-then-generation-ge-MOST_GENERATIONS c = (
  λ t. absurd (false≢true t),
  λ r. absurd (deletes_none c.args.deltas.now c.args.flat.now c.args.reason c.in-Some.generation c.if-generation-ge-MOST_GENERATIONS.true c.in-Some.ensures r),
)

pub returns : goal.returns
returns c =
    let deltas = c.args.deltas.now in
    let s = c.args.flat.now in
    let reason = c.args.reason in
    let generation = c.in-Some.generation in
    ok_by c.is_refused.result (λ (b : Bool). IsTrue b ↔ (refusal_of deltas s 0 (Deletes generation) ≡ Some reason)) (λ (b : Bool). IsTrue b ↔ RefusesDelete deltas s reason)
    (λ b d. deletes_one deltas s reason generation b c.if-generation-ge-MOST_GENERATIONS.false c.in-Some.ensures d) c.is_refused.ensures
