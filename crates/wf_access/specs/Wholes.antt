-- The states after whole accesses, each from its first entry to the end of its try.
use Rattle.std.specs.Prelude.{ℕ}
use Rattle.wf_outside.specs.Pages.{page_of}
use Rattle.wf_flat.specs.Changes.{bytes_put, bytes_swapped, change_hart, looked_with, page_taken, try_ended}
use Rattle.wf_flat.specs.State.{FlatState, HartState}

-- a hart that takes no page has the answer of its access, and its try ends
abbrev pub whole_answer : FlatState → ℕ → (HartState → HartState) → FlatState
whole_answer s h answer = try_ended (change_hart s h answer) h

-- a hart takes the page of an address, reads bytes there, and its try ends
abbrev pub whole_last_look : FlatState → ℕ → ℕ → ℕ → ℕ → FlatState
whole_last_look s h va width value =
    let taken = page_taken s h (page_of va) in
    whole_answer taken h (looked_with taken va width value)

-- a hart takes the page of an address, writes bytes there, and its try ends
abbrev pub whole_put : FlatState → ℕ → ℕ → ℕ → ℕ → FlatState
whole_put s h va width value =
    try_ended (bytes_put (page_taken s h (page_of va)) h va width value) h

-- a hart takes the page of an address, reads and writes bytes there, and its try ends
abbrev pub whole_swap : FlatState → ℕ → ℕ → ℕ → ℕ → ℕ → FlatState
whole_swap s h va width old new =
    try_ended (bytes_swapped (page_taken s h (page_of va)) h va width old new) h
