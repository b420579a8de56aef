use Rattle.std.proofs.Common.{◌≡◌, length, vec_len, arith, rules}
use Rattle.patch_build.proofs.LinkLemmas.{bytes-more, ends-more, ends-room-few, sized-length}
use Rattle.patch_build.proofs.paging.bytes_behind.Goals as goal

pub bounds-linked-number : goal.bounds-linked-number
bounds-linked-number c = let h = sized-length c.args.sections.now c.args.linked.now c.requires.sized in omega arith

pub put-requires : goal.put-requires
put-requires c =
    let v : vec_len c.loop-number.bytes ≡ length c.loop-number.bytes.items = search rules in
    ends-room-few c.args.region c.args.sections.now c.loop-number.number _ (length c.loop-number.bytes.items) _ c.requires.few c.loop-number-test.true v c.loop-number.invariant.ends

pub loop-number-preserved : goal.loop-number-preserved
loop-number-preserved c = record {
  bytes = bytes-more c.args.region c.args.sections.now c.args.linked.now c.loop-number.number _ c.index-linked-number.result c.loop-number.bytes.items c.put.new.bytes.items _
      c.loop-number-test.true (sized-length c.args.sections.now c.args.linked.now c.requires.sized) c.index-linked-number.is c.in_ok-put.ensures c.loop-number.invariant.bytes;
  ends = ends-more c.args.region c.args.sections.now c.args.linked.now c.loop-number.number _ c.index-linked-number.result c.loop-number.bytes.items c.put.new.bytes.items _
      c.requires.sized c.loop-number-test.true c.index-linked-number.is c.in_ok-put.ensures c.loop-number.invariant.ends;
}
