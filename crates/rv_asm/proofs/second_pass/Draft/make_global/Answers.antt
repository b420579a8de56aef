use Rattle.std.proofs.Common.{sym, ap, ◌∙◌, Err, length, refl}
use Rattle.std.proofs.lemmas.Result.{err_from_is_err_and}
use Rattle.rv_asm.specs.SecondPass.{DraftValue}
use Rattle.asm_lines.specs.declared.statement.Use.TheVariants as use_
use Rattle.rv_asm.specs.SecondPass.{home_of}
use Rattle.rv_asm.proofs.DoneLemmas.{done_unknown, settled_nothing, draft_stays, globl_seen}
use Rattle.rv_asm.proofs.second_pass.Draft.make_global.Goals as goal

pub returns-in_err-place : goal.returns-in_err-place
returns-in_err-place c =
    let p = err_from_is_err_and c.from_residual.result c.from_residual.ensures.1 in
    rw (p.1 ∙ ap Err p.2, c.in_err-place.ensures.none) (done_unknown c.args.number use_.Globl c.args.name.now c.args.self.now (settled_nothing c.args.self.now.form c.args.self.now.section use_.Globl (home_of c.args.name.now c.args.self.now.symbols) refl) c.in_err-place.ensures.unknown)

pub invariant_of-self : goal.invariant_of-self
invariant_of-self c =
    draft_stays c.self.inside.sizes c.self.inside.labels c.self.inside.symbols.items (length c.args.self.now.symbols) c.in_ok-place.place c.index_mut.result.now _ c.self.invariant
    c.index_mut.ensures.value c.in_ok-place.ensures.within (ap (λ (d : DraftValue). length d.symbols) (sym c.self.view_is)) refl

pub returns : goal.returns
returns c =
    globl_seen c.args.number c.args.name.now _ c.args.self.now c.self.inside.symbols.items c.in_ok-place.place c.index_mut.result.now _ c.self.view_is refl
    c.in_ok-place.ensures.found c.in_ok-place.ensures.within c.index_mut.ensures.value refl
