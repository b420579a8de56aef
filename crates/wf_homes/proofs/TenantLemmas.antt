-- Tenants: when two are the same, and what a part of them has in common.
use Rattle.std.proofs.Common.{◌≡◌, ◌==◌, ◌&&◌, ℕ, Bool, true, sym, ap}
use Rattle.std.specs.Bool.{Decides}
use Rattle.std.specs.Cmp.{IsEquivalence}
use Rattle.std.proofs.lemmas.Bool.Decides.{Decides-and, Decides-eqb, Decides-like, same_from_decides}
use Rattle.wf_homes.specs.Homes.{DataOf, NodeOf, Tenant, TextOf, same_tenant}

pub same_is : (a b : Tenant) → Decides (same_tenant a b) (a ≡ b)
same_is (TextOf g page) (TextOf h other) = Decides-like ((g == h) && (page == other)) (λ p. cc) (λ e. (cc, cc)) (Decides-and (g == h) (page == other) (Decides-eqb g h) (Decides-eqb page other))
same_is (TextOf g page) (DataOf other) = (λ e. absurd cc, λ e. absurd cc)
same_is (TextOf g page) (NodeOf h level prefix) = (λ e. absurd cc, λ e. absurd cc)
same_is (DataOf page) (TextOf h other) = (λ e. absurd cc, λ e. absurd cc)
same_is (DataOf page) (DataOf other) = Decides-like (page == other) (λ e. ap DataOf e) (λ e. cc) (Decides-eqb page other)
same_is (DataOf page) (NodeOf h level prefix) = (λ e. absurd cc, λ e. absurd cc)
same_is (NodeOf g level prefix) (TextOf h other) = (λ e. absurd cc, λ e. absurd cc)
same_is (NodeOf g level prefix) (DataOf other) = (λ e. absurd cc, λ e. absurd cc)
same_is (NodeOf g level prefix) (NodeOf h other below) =
    Decides-like ((g == h) && (level == other) && (prefix == below)) (λ p. cc) (λ e. ((cc, cc), cc))
    (Decides-and ((g == h) && (level == other)) (prefix == below) (Decides-and (g == h) (level == other) (Decides-eqb g h) (Decides-eqb level other)) (Decides-eqb prefix below))

pub same_tenant_laws : IsEquivalence same_tenant
same_tenant_laws = record {
  refl = λ x. (same_is x x).1 (λ i. x);
  symm = λ x y. same_from_decides (same_tenant x y) (same_tenant y x) (same_is x y) (Decides-like (same_tenant y x) (λ e. sym e) (λ e. sym e) (same_is y x));
  congr = λ x y z e. ap (λ (w : Tenant). same_tenant w z) ((same_is x y).0 e);
}

-- a test says the same of the same tenants
pub same_test : (p : Tenant → Bool) (a b : Tenant) → same_tenant a b ≡ true → p a ≡ p b
same_test p a b e = ap p ((same_is a b).0 e)

-- what kind a tenant is of
abbrev pub kind_of : Tenant → ℕ
kind_of (TextOf g page) = 0
kind_of (DataOf page) = 1
kind_of (NodeOf g level prefix) = 2

-- the generation of a page of text and of a node, and the number of a page of data
abbrev pub owner_of : Tenant → ℕ
owner_of (TextOf g page) = g
owner_of (DataOf page) = page
owner_of (NodeOf g level prefix) = g

pub kind_tells : (a b : Tenant) → same_tenant a b ≡ true → kind_of a ≡ kind_of b
kind_tells a b e = ap kind_of ((same_is a b).0 e)

pub owner_tells : (a b : Tenant) → same_tenant a b ≡ true → owner_of a ≡ owner_of b
owner_tells a b e = ap owner_of ((same_is a b).0 e)
