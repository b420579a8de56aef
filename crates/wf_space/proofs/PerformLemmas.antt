-- Pieces that are performed one after another.
use Rattle.std.proofs.Common.{◌≡◌, List, [], ◌∷◌, refl, sym, subst}
use Rattle.wf_frames.specs.Layout.{WordsValue}
use Rattle.wf_views.specs.declared.plan.Piece.{Piece}
use Rattle.wf_views.specs.declared.records.Records.{Records}
use Rattle.wf_space.specs.Pieces.{ArePerformed, MayPerform, MayPerformAll, Performs}

-- pieces are still to be performed
pub record AreToPerform (old now : WordsValue) (r q : Records) (rest all : List Piece) : Type 0 where
  pub may : MayPerformAll now q rest
  pub whole : (new : WordsValue) (p : Records) → ArePerformed now q rest new p → ArePerformed old r all new p

pub none_performed : (words : WordsValue) (r : Records) (all : List Piece) → MayPerformAll words r all → AreToPerform words words r r all all
none_performed words r all may = record { may = may; whole = λ new p done. done }

pub first_may : (old now : WordsValue) (r q : Records) (rest all more : List Piece) (piece : Piece) → AreToPerform old now r q rest all → rest ≡ piece ∷ more → MayPerform now q piece
first_may old now r q rest all more piece come e = (let k : MayPerformAll now q (piece ∷ more) = subst (MayPerformAll now q) e come.may in k.0)

pub rest_perform : (old now next : WordsValue) (r q p : Records) (rest all more : List Piece) (piece : Piece) → AreToPerform old now r q rest all → rest ≡ piece ∷ more → Performs now q piece next p → AreToPerform old next r p more all
rest_perform old now next r q p rest all more piece come e done =
    let k : MayPerformAll now q (piece ∷ more) = subst (MayPerformAll now q) e come.may in
    record {
      may = k.1 next p done;
      whole = λ new z performed. come.whole new z (subst (λ (pieces : List Piece). ArePerformed now q pieces new z) (sym e) (record { words = next; records = p; done = done; rest = performed }));
    }

pub all_performed : (old now : WordsValue) (r q : Records) (rest all : List Piece) → AreToPerform old now r q rest all → rest ≡ [] → ArePerformed old r all now q
all_performed old now r q rest all come e = come.whole now q (subst (λ (pieces : List Piece). ArePerformed now q pieces now q) (sym e) (refl, refl))
