-- Bytes of a frame are those of the page that lies there, and words of text are fetched.
use Rattle.std.proofs.Common.{◌≡◌, ◌<◌, ◌*◌, ◌/◌, ◌%◌, ◌^◌, ℕ, Bool, List, Some, None, sym, ap, ◌∙◌, arith}
use Rattle.std.specs.Option.{option_map}
use Rattle.wf_outside.specs.Pages.{PageValue, page_of}
use Rattle.wf_frames.specs.Layout.{WordsValue}
use Rattle.wf_views.specs.declared.records.Records.{Records}
use Rattle.wf_flat.specs.Accesses.{generation_text}
use Rattle.wf_flat.specs.Memory.{number_in, page_in, word_in}
use Rattle.wf_flat.proofs.ListLemmas.{some_and}
use Rattle.wf_homes.specs.Kept.{HasWords}
use Rattle.wf_translation.specs.declared.translation.Translation.TheVariants.{Text, Data, Missing}
use Rattle.wf_translation.specs.Readings.{FetchIsRight, frame_number}
use Rattle.wf_translation.specs.Translations.{AddressTold}

pub number_is : (words : WordsValue) (frame : ℕ) (page : List ℕ) (at width : ℕ) → HasWords words frame page → at < 4096 → frame_number words frame at width ≡ number_in page at width
number_is words frame page at width has lt = ap (λ (word : ℕ). word / 2 ^ (8 * (at % 8)) % 2 ^ (8 * width)) (has (at / 8) (omega arith))

pub text_fetched : (words : WordsValue) (r : Records) (g pc frame word : ℕ) → AddressTold words r g pc (Text frame) → word ≡ frame_number words frame (pc % 4096) 4 → FetchIsRight words r g pc (Some word)
text_fetched words r g pc frame word told is homes s st mapped =
    let page = some_and (page_in (generation_text s g) (page_of pc)) (λ (p : PageValue). HasWords words frame p.words) (told homes s st mapped) in
    let num : word ≡ word_in page.0.words (pc % 4096) = is ∙ number_is words frame page.0.words (pc % 4096) 4 page.2 (omega arith) in
    ap Some num ∙ sym (ap (option_map (λ (p : PageValue). word_in p.words (pc % 4096))) page.1)

pub data_fetched : (words : WordsValue) (r : Records) (g pc frame : ℕ) (write : Bool) → AddressTold words r g pc (Data frame write) → FetchIsRight words r g pc None
data_fetched words r g pc frame write told homes s st mapped = sym (ap (option_map (λ (p : PageValue). word_in p.words (pc % 4096))) (told homes s st mapped).no_text)

pub none_fetched : (words : WordsValue) (r : Records) (g pc : ℕ) → AddressTold words r g pc Missing → FetchIsRight words r g pc None
none_fetched words r g pc told homes s st mapped = sym (ap (option_map (λ (p : PageValue). word_in p.words (pc % 4096))) (told homes s st mapped).no_text)
