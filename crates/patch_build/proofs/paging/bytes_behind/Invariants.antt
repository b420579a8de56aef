use Rattle.std.proofs.Common.{◌≡◌, ◌≤◌, [], drop, length}
use Rattle.std.specs.List.{fold}
use Rattle.patch_build.specs.Layout.{region_end, end_with}
use Rattle.patch_build.specs.Pages.{bytes_behind}
use Rattle.patch_build.proofs.paging.bytes_behind.Given as goal

-- the sections that are left come behind the bytes so far, and end no higher than all do
abbrev pub invariant-loop-number : goal.invariant-loop-number
invariant-loop-number l = record {
  bytes : bytes_behind l.region l.bytes.items (drop l.number l.sections) (drop l.number l.linked) ≡ bytes_behind l.region [] l.sections l.linked;
  ends : fold (end_with l.region) (length l.bytes.items) (drop l.number l.sections) ≤ region_end l.region l.sections;
}
