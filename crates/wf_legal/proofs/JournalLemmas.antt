-- Legal journals, one after another, and who is inside the kernel.
use Rattle.std.proofs.Common.{◌≡◌, ◌++◌, ℕ, List, [], ◌∷◌, Some, true, refl, arith}
use Rattle.std.proofs.lemmas.Bool.Decides.{nat_tests}
use Rattle.wf_flat.specs.declared.event.Actor.TheVariants.{Hart}
use Rattle.wf_flat.specs.declared.event.Entry.{Entry}
use Rattle.wf_flat.specs.Steps.{is_inside}
use Rattle.wf_legal.specs.Legal.{Moment, IsLegal, after, end_of}

-- the moment after both
pub end_of-append : (m : Moment) (es fs : List Entry) → end_of m (es ++ fs) ≡ end_of (end_of m es) fs
end_of-append m [] fs = refl
end_of-append m (e ∷ es) fs = end_of-append (after m e.actor e.event) es fs

-- both are legal
pub legal-append : (m : Moment) (es fs : List Entry) → IsLegal m es → IsLegal (end_of m es) fs → IsLegal m (es ++ fs)
legal-append m [] fs p q = q
legal-append m (e ∷ es) fs p q = (p.0, legal-append (after m e.actor e.event) es fs p.1 q)

-- the front is legal
pub legal_front : (m : Moment) (es fs : List Entry) → IsLegal m (es ++ fs) → IsLegal m es
legal_front m [] fs p = tt
legal_front m (e ∷ es) fs p = (p.0, legal_front (after m e.actor e.event) es fs p.1)

-- the back is legal from the end of the front
pub legal_back : (m : Moment) (es fs : List Entry) → IsLegal m (es ++ fs) → IsLegal (end_of m es) fs
legal_back m [] fs p = p
legal_back m (e ∷ es) fs p = legal_back (after m e.actor e.event) es fs p.1

-- who is inside is itself
pub self_inside : (h : ℕ) → is_inside (Some (Hart h)) (Hart h) ≡ true
self_inside h = grind (arith, nat_tests)
