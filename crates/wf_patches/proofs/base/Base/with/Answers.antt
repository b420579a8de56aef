use Rattle.std.proofs.Common.{◌≡◌, rules}
use Rattle.elf_syms.specs.Names.{FindsAs, found_for, with_list}
use Rattle.patch_build.specs.Fits.{area_with}
use Rattle.wf_patches.proofs.BaseLemmas.{same_with}
use Rattle.wf_patches.proofs.base.Base.with.Goals as goal

pub returns-clause-base : goal.returns-clause-base
returns-clause-base c =
    let finds : FindsAs c.add.new.self (with_list c.args.built.names (found_for c.args.self.names)) = search rules in
    let area : c.in_ok-area.area ≡ area_with c.args.self.area c.args.built.delta = search rules in
    same_with c.args.self _ c.args.built finds area
