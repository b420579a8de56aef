use Rattle.std.proofs.Common.{sym, ap, ◌∙◌, Err, length, refl}
use Rattle.std.proofs.lemmas.Result.{err_from_is_err_and}
use Rattle.rv_asm.specs.SecondPass.{DraftValue}
use Rattle.asm_lines.specs.declared.statement.Use.TheVariants as use_
use Rattle.rv_asm.specs.SecondPass.{home_of}
use Rattle.rv_asm.proofs.DoneLemmas.{done_unknown, settled_nothing, draft_stays, size_seen, size_seen_far}
use Rattle.rv_asm.proofs.second_pass.Draft.set_size.Goals as goal

pub returns-in_err-place : goal.returns-in_err-place
returns-in_err-place c =
    let p = err_from_is_err_and c.from_residual.result c.from_residual.ensures.1 in
    rw (p.1 ∙ ap Err p.2, c.in_err-place.ensures.none) (done_unknown c.args.number use_.Size c.args.name.now c.args.self.now (settled_nothing c.args.self.now.form c.args.self.now.section use_.Size (home_of c.args.name.now c.args.self.now.symbols) refl) c.in_err-place.ensures.unknown)

pub returns-then-not-stands_before : goal.returns-then-not-stands_before
returns-then-not-stands_before c =
    size_seen_far c.args.number c.args.name.now _ c.args.self.now c.self.inside.symbols.items c.in_ok-place.place c.index_mut-symbol.result.now c.here-here.result c.self.view_is refl
    c.in_ok-place.ensures.found c.in_ok-place.ensures.within c.index_mut-symbol.ensures.value (sym c.stands_before.ensures ∙ c.if-not-stands_before.true) c.here-here.ensures.value

pub invariant_of-self-2 : goal.invariant_of-self-2
invariant_of-self-2 c =
    draft_stays c.self.inside.sizes c.self.inside.labels c.self.inside.symbols.items (length c.args.self.now.symbols) c.in_ok-place.place c.index_mut-symbol.result.now _ c.self.invariant
    c.index_mut-symbol.ensures.value c.in_ok-place.ensures.within (ap (λ (d : DraftValue). length d.symbols) (sym c.self.view_is)) refl

pub returns : goal.returns
returns c =
    size_seen c.args.number c.args.name.now _ c.args.self.now c.self.inside.symbols.items c.in_ok-place.place c.index_mut-symbol.result.now _ c.here-here.result c.self.view_is refl
    c.in_ok-place.ensures.found c.in_ok-place.ensures.within c.index_mut-symbol.ensures.value (sym c.stands_before.ensures ∙ c.if-not-stands_before.false) c.here-here.ensures.value refl
