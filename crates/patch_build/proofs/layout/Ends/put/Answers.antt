use Rattle.std.proofs.Common.{sym, arith}
use Rattle.patch_build.specs.declared.region.Region.TheVariants.{Text, Constants, Data}
use Rattle.patch_build.proofs.PlaceLemmas.{room_at}
use Rattle.patch_build.proofs.layout.Ends.put.Goals as goal

pub put_behind-requires : goal.put_behind-requires
put_behind-requires c =
    let h = room_at Text c.args.self.now.text c.args.section.now c.requires.loaded (sym c.in-Text.ensures) (c.requires.room Text) in omega arith

pub put_behind-requires-in-Constants : goal.put_behind-requires-in-Constants
put_behind-requires-in-Constants c =
    let h = room_at Constants c.args.self.now.constants c.args.section.now c.requires.loaded (sym c.in-Constants.ensures) (c.requires.room Constants) in omega arith

pub put_behind-requires-in-Data : goal.put_behind-requires-in-Data
put_behind-requires-in-Data c =
    let h = room_at Data c.args.self.now.variables c.args.section.now c.requires.loaded (sym c.in-Data.ensures) (c.requires.room Data) in omega arith
