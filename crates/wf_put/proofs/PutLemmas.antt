-- Putting bytes in pieces.
use Rattle.std.proofs.Common.{◌≡◌, ◌+◌, ◌++◌, ℕ, List, Option, Some, None, [], ◌∷◌, refl, length, take, sym, ap, ◌∙◌, append_assoc, append-nil, arith}
use Rattle.std.proofs.Math.Seq.{take-append-add}
use Rattle.std.proofs.lemmas.List.{length-append, take-append-le, take_all}
use Rattle.wf_outside.specs.Puts.{Appends, AppendsPrefix}

-- What is sent, and what is left of the bytes.
pub record Sends (before now : Option (List ℕ)) (bytes rest : List ℕ) : Type 0 where
  pub sent : List ℕ
  pub is : bytes ≡ sent ++ rest
  pub came : Appends before now sent

-- nothing is sent yet
pub sends_none : (before : Option (List ℕ)) (bytes : List ℕ) → Sends before before bytes bytes
sends_none None bytes = record { sent = []; is = refl; came = refl }
sends_none (Some old) bytes = record { sent = []; is = refl; came = sym (ap Some (append-nil old)) }

came_more : (a b c : Option (List ℕ)) (sent piece : List ℕ) → Appends a b sent → Appends b c piece → Appends a c (sent ++ piece)
came_more None b c sent piece p q = rw p at q
came_more (Some old) b c sent piece p q = let r = rw p at q in r ∙ ap Some (append_assoc old sent piece)

-- the next piece
pub sends_more : (a b c : Option (List ℕ)) (bytes before piece rest : List ℕ)
    → Sends a b bytes before → before ≡ piece ++ rest → Appends b c piece → Sends a c bytes rest
sends_more a b c bytes before piece rest s cut q = record {
  sent = s.sent ++ piece;
  is = s.is ∙ ap (λ (xs : List ℕ). s.sent ++ xs) cut ∙ sym (append_assoc s.sent piece rest);
  came = came_more a b c s.sent piece s.came q;
}

front_more : (a b c : Option (List ℕ)) (sent piece rest : List ℕ) → Appends a b sent → AppendsPrefix b c piece → AppendsPrefix a c (sent ++ (piece ++ rest))
front_more None b c sent piece rest p q = rw p at q
front_more (Some old) b c sent piece rest p q =
    let r = rw p at q in (
      length sent + r.0,
      omega (arith, r.1, length-append sent (piece ++ rest), length-append piece rest),
      r.2 ∙ ap Some (append_assoc old sent (take r.0 piece)
          ∙ ap (λ (xs : List ℕ). old ++ (sent ++ xs)) (sym (take-append-le r.0 piece rest r.1))
          ∙ ap (λ (xs : List ℕ). old ++ xs) (sym (take-append-add sent (piece ++ rest) r.0))),
    )

-- a front of the next piece
pub prefix_more : (a b c : Option (List ℕ)) (bytes before piece rest : List ℕ)
    → Sends a b bytes before → before ≡ piece ++ rest → AppendsPrefix b c piece → AppendsPrefix a c bytes
prefix_more a b c bytes before piece rest s cut q =
    let e : bytes ≡ s.sent ++ (piece ++ rest) = s.is ∙ ap (λ (xs : List ℕ). s.sent ++ xs) cut in
    rw e (front_more a b c s.sent piece rest s.came q)

-- all is sent
pub sends_all : (a b : Option (List ℕ)) (bytes rest : List ℕ) → Sends a b bytes rest → length rest ≡ 0 → Appends a b bytes
sends_all a b bytes [] s none = let e : bytes ≡ s.sent = s.is ∙ append-nil s.sent in rw e s.came
sends_all a b bytes (byte ∷ rest) s none = absurd (omega (arith, none))

all_is_prefix : (a b : Option (List ℕ)) (bytes : List ℕ) → Appends a b bytes → AppendsPrefix a b bytes
all_is_prefix None b bytes p = p
all_is_prefix (Some old) b bytes p = (length bytes, omega arith, p ∙ ap Some (ap (λ (xs : List ℕ). old ++ xs) (sym (take_all (length bytes) bytes (omega arith)))))

pub sends_front : (a b : Option (List ℕ)) (bytes rest : List ℕ) → Sends a b bytes rest → length rest ≡ 0 → AppendsPrefix a b bytes
sends_front a b bytes rest s none = all_is_prefix a b bytes (sends_all a b bytes rest s none)
