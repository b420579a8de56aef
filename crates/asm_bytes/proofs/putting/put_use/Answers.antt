use Rattle.std.proofs.Common.{◌∙◌, ap, Err}
use Rattle.std.proofs.lemmas.Result.{err_from_is_err_and}
use Rattle.asm_bytes.proofs.ReachLemmas.{far_branch, far_call, far_jal, far_la, is_refused}
use Rattle.asm_bytes.specs.Bytes.{use_bytes}
use Rattle.asm_bytes.proofs.putting.put_use.Goals as goal

pub returns-in_err-off-in-Branch : goal.returns-in_err-off-in-Branch
returns-in_err-off-in-Branch c =
    let p = err_from_is_err_and c.from_residual.result c.from_residual.ensures.1 in
    let given = c.in_err-off-in-Branch.ensures in
    let none = far_branch c.in-Branch.cond c.args.address c.args.target c.in-Branch.rs1 c.in-Branch.rs2 given.far in
    is_refused c.from_residual.result _ _ (p.1 ∙ ap Err (p.2 ∙ given.range)) (ap (use_bytes c.args.address c.args.target) c.in-Branch.is ∙ none)

pub returns-in_err-off-in-Jal : goal.returns-in_err-off-in-Jal
returns-in_err-off-in-Jal c =
    let p = err_from_is_err_and c.from_residual-in_err-off-in-Jal.result c.from_residual-in_err-off-in-Jal.ensures.1 in
    let given = c.in_err-off-in-Jal.ensures in
    let none = far_jal c.args.address c.args.target c.in-Jal.rd given.far in
    is_refused c.from_residual-in_err-off-in-Jal.result _ _ (p.1 ∙ ap Err (p.2 ∙ given.range)) (ap (use_bytes c.args.address c.args.target) c.in-Jal.is ∙ none)

pub returns-in_err-far-in-Call : goal.returns-in_err-far-in-Call
returns-in_err-far-in-Call c =
    let p = err_from_is_err_and c.from_residual-in_err-far-in-Call.result c.from_residual-in_err-far-in-Call.ensures.1 in
    let given = c.in_err-far-in-Call.ensures in
    let none = far_call c.args.address c.args.target given.far in
    is_refused c.from_residual-in_err-far-in-Call.result _ _ (p.1 ∙ ap Err (p.2 ∙ given.range)) (ap (use_bytes c.args.address c.args.target) c.in-Call.is ∙ none)

pub returns-in_err-far-in-La : goal.returns-in_err-far-in-La
returns-in_err-far-in-La c =
    let p = err_from_is_err_and c.from_residual-in_err-far-in-La.result c.from_residual-in_err-far-in-La.ensures.1 in
    let given = c.in_err-far-in-La.ensures in
    let none = far_la c.args.address c.args.target c.in-La.rd given.far in
    is_refused c.from_residual-in_err-far-in-La.result _ _ (p.1 ∙ ap Err (p.2 ∙ given.range)) (ap (use_bytes c.args.address c.args.target) c.in-La.is ∙ none)
