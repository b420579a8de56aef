use Rattle.wf_goes.proofs.RequestLemmas.{tells_other}
use Rattle.wf_goes.proofs.requesting.todo_with_request.Goals as goal

pub returns-else-is_kernel_request : goal.returns-else-is_kernel_request
returns-else-is_kernel_request c = λ begins. absurd (tells_other c.args.deltas.now c.args.flat.now c.args.event c.in-Some.request c.is_kernel_request.result c.in-Some.ensures c.if-is_kernel_request.false c.is_kernel_request.ensures begins)
