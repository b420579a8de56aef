-- Texts that are changed keep the numbers of their pages.
use Rattle.std.proofs.Common.{◌≡◌, ◌+◌, ◌%◌, ℕ, List, take, drop, refl, ◌∙◌}
use Rattle.std.specs.Int.{w32, from_le_bytes}
use Rattle.wf_outside.specs.declared.image.Jump.{Jump}
use Rattle.wf_outside.specs.Images.{text_numbers}
use Rattle.wf_outside.specs.Pages.{PageValue, page_of}
use Rattle.wf_flat.proofs.FoundLemmas.{keys_changed}
use Rattle.wf_effects.specs.Texts.{page_with, text_with, with_jump}

-- where four bytes change
pub text_kept : (text : List PageValue) (at value : ℕ) → text_numbers (text_with text at value) ≡ text_numbers text
text_kept text at value = keys_changed (λ (p : PageValue). p.number) (page_with (at % 4096) value) text (page_of at) (λ p. refl)

-- where a jump is put
pub jump_kept : (text : List PageValue) (jump : Jump) → text_numbers (with_jump text jump) ≡ text_numbers text
jump_kept text jump =
    text_kept (text_with text jump.at (from_le_bytes w32 (take 4 jump.bytes))) (jump.at + 4) (from_le_bytes w32 (drop 4 jump.bytes))
    ∙ text_kept text jump.at (from_le_bytes w32 (take 4 jump.bytes))
