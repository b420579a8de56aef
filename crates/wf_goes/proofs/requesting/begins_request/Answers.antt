use Rattle.std.proofs.Common.{◌↔◌, Bool, IsTrue}
use Rattle.std.proofs.lemmas.Bool.{false≢true}
use Rattle.wf_verdict.specs.Requests.{IsKernelRequest}
use Rattle.wf_verdict.specs.Work.{done_about}
use Rattle.wf_legal.specs.Calls.{BeginsRequest, IsNext}
use Rattle.wf_goes.proofs.RefusingLemmas.{ok_by}
use Rattle.wf_goes.proofs.RequestLemmas.{tells_exactly, tells_none}
use Rattle.wf_goes.proofs.requesting.begins_request.Goals as goal

pub returns-in-Some : goal.returns-in-Some
returns-in-Some c =
    let deltas = c.args.deltas.now in
    let s = c.args.flat.now in
    let event = c.args.event in
    let request = c.in-Some.request in
    ok_by c.begins_with.result (λ (b : Bool). IsTrue b ↔ (IsKernelRequest deltas request × IsNext s (done_about deltas s 0 request) event)) (λ (b : Bool). IsTrue b ↔ BeginsRequest deltas s event)
    (λ b d. tells_exactly deltas s event request b (λ reason e. c.in_default.not-Refused reason e) c.in-Some.ensures d) c.begins_with.ensures

pub returns-in-None : goal.returns-in-None
returns-in-None c = (
  λ t. absurd (false≢true t),
  λ begins. absurd (tells_none c.args.deltas.now c.args.flat.now c.args.event (λ reason e. c.in_default.not-Refused reason e) c.in-None.ensures begins),
)
