use Rattle.std.proofs.Common.{rules, ◌≡◌, ◌++◌, subst}
use Rattle.wf_outside.specs.Images.{text_numbers}
use Rattle.patch_build.specs.Areas.{AreaValue, IsArea}
use Rattle.patch_build.specs.Fits.{next_behind}
use Rattle.patch_build.proofs.AreaLemmas.{area_grows}
use Rattle.patch_build.proofs.area.Area.with.Goals as goal

pub invariant_of-result : goal.invariant_of-result
invariant_of-result c =
    let kept : IsArea c.args.self.next c.args.self.text = subst (λ (a : AreaValue). IsArea a.next a.text) c.self.view_is c.self.invariant in
    let next : c.next.result ≡ next_behind c.args.self.next c.args.built.now.delta = search rules in
    let text : c.push_text.new.numbers.items ≡ c.args.self.text ++ text_numbers c.args.built.now.delta.private = search rules in
    rw (next, text) (area_grows c.args.self c.args.built.now.delta kept c.requires.fits.pages)
