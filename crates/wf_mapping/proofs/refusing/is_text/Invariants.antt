use Rattle.std.proofs.Common.{◌≡◌, drop, is_some}
use Rattle.std.specs.List.{list_any}
use Rattle.wf_homes.specs.Kept.{text_frame}
use Rattle.wf_mapping.proofs.refusing.is_text.Given as goal

abbrev pub invariant-loop-i : goal.invariant-loop-i
invariant-loop-i l = list_any (λ view. is_some (text_frame view l.page)) (drop l.i l.records.views.views) ≡ list_any (λ view. is_some (text_frame view l.page)) l.records.views.views
