use Rattle.std.proofs.Common.{true, false, sym, ap, subst, ◌∙◌, Err, Result, refl}
use Rattle.std.proofs.lemmas.Result.{err_from_is_err_and}
use Rattle.rv_asm.specs.declared.fault.AsmFault.{AsmFault}
use Rattle.rv_asm.specs.Answers.{Becomes}
use Rattle.rv_asm.specs.SecondPass.{DraftValue}
use Rattle.rv_asm.proofs.DoneLemmas.{done_left, done_unknown, settled_as_shown, use_seen}
use Rattle.rv_asm.proofs.second_pass.Draft.put_use.Goals as goal

pub returns-then-not-is_settled : goal.returns-then-not-is_settled
returns-then-not-is_settled c =
    subst (λ (r : Result DraftValue AsmFault). Becomes c.put_left.result c.put_left.new.self r)
    (sym (done_left c.args.number c.args.what c.args.name.now c.args.self.now (settled_as_shown c.args.what c.args.name.now _ c.args.self.now c.is_settled.result c.home_of.result false c.self.view_is c.home_of.ensures c.is_settled.ensures c.if-not-is_settled.true)))
    c.put_left.ensures

pub returns-in_err-place : goal.returns-in_err-place
returns-in_err-place c =
    let p = err_from_is_err_and c.from_residual.result c.from_residual.ensures.1 in
    let settled = settled_as_shown c.args.what c.args.name.now _ c.args.self.now c.is_settled.result c.home_of.result true c.self.view_is c.home_of.ensures c.is_settled.ensures c.if-not-is_settled.false in
    rw (p.1 ∙ ap Err p.2, c.in_err-place.ensures.none) (done_unknown c.args.number c.args.what c.args.name.now c.args.self.now settled c.in_err-place.ensures.unknown)

pub returns : goal.returns
returns c =
    let settled = settled_as_shown c.args.what c.args.name.now _ c.args.self.now c.is_settled.result c.home_of.result true c.self.view_is c.home_of.ensures c.is_settled.ensures c.if-not-is_settled.false in
    subst (λ (r : Result DraftValue AsmFault). Becomes c.put.result c.put.new.self r)
    (sym (use_seen c.args.number c.args.what c.args.name.now _ c.args.self.now c.self.inside.symbols.items c.in_ok-place.place c.index.result.now c.requires settled c.self.view_is refl
    c.in_ok-place.ensures.found c.in_ok-place.ensures.within c.index.ensures))
    c.put.ensures
