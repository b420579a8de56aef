use Rattle.std.proofs.Common.{◌≡◌, ◌-◌, take, drop, length-drop, arith, ◌∙◌}
use Rattle.std.proofs.lemmas.List.{take_all}
use Rattle.wf_text.specs.Numbers.{last_hex}
use Rattle.wf_text.proofs.WriteLemmas.{last_goes, last_ends, appended}
use Rattle.wf_text.proofs.writing.push_last_hex.Goals as goal

pub loop-place-preserved : goal.loop-place-preserved
loop-place-preserved c =
    let loop = c.loop-place in
    last_goes c.args.width c.args.n loop.left loop.place c.glyph.result loop.buffer loop.invariant c.loop-place-test.true c.requires c.glyph.ensures

pub returns : goal.returns
returns c =
    let loop = c.loop-place in
    let all : loop.place ≡ c.args.width = omega arith in
    let digits : drop (16 - c.args.width) loop.buffer ≡ last_hex c.args.width c.args.n = last_ends c.args.width c.args.n loop.left loop.place loop.buffer loop.invariant all in
    let part : take (16 - (16 - c.args.width)) (drop (16 - c.args.width) loop.buffer) ≡ last_hex c.args.width c.args.n =
    take_all (16 - (16 - c.args.width)) (drop (16 - c.args.width) loop.buffer) (omega (arith, length-drop (16 - c.args.width) loop.buffer, loop.invariant.long)) ∙ digits in
    appended c.extend_from_slice.result c.extend_from_slice.new.self.items c.args.out.now.items _ _ c.extend_from_slice.ensures.items part
