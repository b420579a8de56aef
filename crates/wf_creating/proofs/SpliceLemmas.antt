-- A patch, page by page.
use Rattle.std.proofs.Common.{◌≡◌, ◌+◌, ◌/◌, ◌%◌, ◌==◌, ℕ, List, [], ◌∷◌, true, false, map, refl, ap, ◌∙◌, inl, inr, take, drop}
use Rattle.std.specs.List.{fold}
use Rattle.std.specs.Int.{from_le_bytes, w32}
use Rattle.wf_outside.specs.declared.image.Jump.{Jump}
use Rattle.wf_outside.specs.Pages.{PageValue}
use Rattle.wf_effects.specs.Texts.{page_with, text_with, with_jump, with_pages}
use Rattle.wf_homes.proofs.ListLemmas.{true_or_false}
use Rattle.wf_homes.proofs.RecordedLemmas.{flip_test}
use Rattle.wf_space.specs.Pieces.{half_put, jump_put}
use Rattle.wf_creating.specs.Splices.{PagesArePut, page_put}

map_both : (f g h : PageValue → PageValue) → ((p : PageValue) → g (f p) ≡ h p) → (ps : List PageValue) → map g (map f ps) ≡ map h ps
map_both f g h same [] = refl
map_both f g h same (p ∷ ps) = ap (λ (x : PageValue). x ∷ map g (map f ps)) (same p) ∙ ap (λ (xs : List PageValue). h p ∷ xs) (map_both f g h same ps)

-- a page, where four bytes at an address are put over it
abbrev half : ℕ → ℕ → PageValue → PageValue
half at value page = record page { words = half_put page.number at value page.words }

half_text : (text : List PageValue) (at value : ℕ) → text_with text at value ≡ map (half at value) text
half_text [] at value = refl
half_text (p ∷ ps) at value = elim (true_or_false (p.number == at / 4096)) [
  | inl t ↦ (let u : (at / 4096 == p.number) ≡ true = flip_test p.number (at / 4096) true t in rw (t, u) (ap (λ (xs : List PageValue). page_with (at % 4096) value p ∷ xs) (half_text ps at value)))
  | inr t ↦ (let u : (at / 4096 == p.number) ≡ false = flip_test p.number (at / 4096) false t in rw (t, u) (ap (λ (xs : List PageValue). p ∷ xs) (half_text ps at value)))
]

-- and with one jump
abbrev one_put : Jump → PageValue → PageValue
one_put jump page = record page { words = jump_put page.number page.words jump }

jump_text : (text : List PageValue) (jump : Jump) → with_jump text jump ≡ map (one_put jump) text
jump_text text jump =
    half_text (text_with text jump.at (from_le_bytes w32 (take 4 jump.bytes))) (jump.at + 4) (from_le_bytes w32 (drop 4 jump.bytes))
    ∙ ap (map (half (jump.at + 4) (from_le_bytes w32 (drop 4 jump.bytes)))) (half_text text jump.at (from_le_bytes w32 (take 4 jump.bytes)))
    ∙ map_both (half jump.at (from_le_bytes w32 (take 4 jump.bytes))) (half (jump.at + 4) (from_le_bytes w32 (drop 4 jump.bytes))) (one_put jump) (λ p. refl) text

same_text : (text : List PageValue) → text ≡ map (page_put []) text
same_text [] = refl
same_text (p ∷ ps) = ap (λ (xs : List PageValue). p ∷ xs) (same_text ps)

jumps_text : (jumps : List Jump) (text : List PageValue) → fold with_jump text jumps ≡ map (page_put jumps) text
jumps_text [] text = same_text text
jumps_text (jump ∷ jumps) text =
    jumps_text jumps (with_jump text jump)
    ∙ ap (map (page_put jumps)) (jump_text text jump)
    ∙ map_both (one_put jump) (page_put jumps) (page_put (jump ∷ jumps)) (λ p. refl) text

pub pages_put : PagesArePut
pages_put text delta = jumps_text delta.jumps (with_pages text delta.private)
