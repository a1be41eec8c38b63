-- What a list keeps of a zone once a record joined it.
use Rattle.std.proofs.Common.{◌≡◌, ◌≢◌, Bool, true, false, cond, List, [], ◌∷◌, ◌++◌, Option, Some, None, refl, sym}
use Rattle.std.proofs.Common.{ap, ◌∙◌}
use Rattle.std.specs.Prelude.{is_some, option_and_then}
use Rattle.std.proofs.lemmas.List.Sums.{fold-append}
use Rattle.std.proofs.lemmas.Bool.{false≢true}
use Rattle.dz_name.specs.Words.{Name, Octets}
use Rattle.dz_name.specs.Name.{same_name, IsName}
use Rattle.dz_name.specs.Order.{same_decides}
use Rattle.dz_store.specs.Kept.{KeptZone, CanBeKept, payload_of, forgotten}
use Rattle.dz_store.specs.Payload.{kept_of, zone_of}
use Rattle.dz_store.specs.Store.{is_of, is_kept, step, counting, kept}
use Rattle.dz_store.proofs.PayloadLemmas.{kept_back, kept_zone, forgotten_not_kept, forgotten_zone}
use Rattle.dz_store.proofs.PlaceLemmas.{is_of_at}

same_itself : (a b : Name) → a ≡ b → same_name a b ≡ true
same_itself a b is = (same_decides a b).1 is

others_differ : (a b : Name) (t : Bool) → same_name a b ≡ t → (b ≡ a → ⊥) → t ≡ false
others_differ a b true is ne = absurd (ne (sym ((same_decides a b).0 is)))
others_differ a b false is ne = refl

joined : (zone z : Name) (list : List Octets) (p : Octets) → zone_of p ≡ Some z
    → kept zone (list ++ p ∷ [])
    ≡ option_and_then kept_of (cond (same_name z zone) (cond (is_kept p) (Some p) None) (counting zone list))
joined zone z list p is =
    ap (λ o. option_and_then kept_of o) (fold-append (step zone) None list (p ∷ [])
    ∙ ap (λ b. cond b (cond (is_kept p) (Some p) None) (counting zone list)) (is_of_at zone z p is))

of_another : (zone z : Name) (list : List Octets) (p : Octets) → zone_of p ≡ Some z → zone ≢ z
    → kept zone (list ++ p ∷ []) ≡ kept zone list
of_another zone z list p is ne =
    joined zone z list p is
    ∙ ap (λ b. option_and_then kept_of (cond b (cond (is_kept p) (Some p) None) (counting zone list)))
    (others_differ z zone (same_name z zone) refl ne)

of_it : (zone z : Name) (list : List Octets) (p : Octets) → zone_of p ≡ Some z → zone ≡ z
    → kept zone (list ++ p ∷ []) ≡ option_and_then kept_of (cond (is_kept p) (Some p) None)
of_it zone z list p is same =
    joined zone z list p is ∙ ap (λ b. option_and_then kept_of
    (cond b (cond (is_kept p) (Some p) None) (counting zone list))) (same_itself z zone (sym same))

is_kept_by : (p : Octets) (o : Option KeptZone) → kept_of p ≡ o → is_kept p ≡ is_some o
unfolding is_kept
is_kept_by p o is = ap (λ (x : Option KeptZone). is_some x) is

pub saved : (list : List Octets) (k : KeptZone) (zone : Name) → CanBeKept k
    → (zone ≡ k.zone → kept zone (list ++ payload_of k ∷ []) ≡ Some k)
    × (zone ≢ k.zone → kept zone (list ++ payload_of k ∷ []) ≡ kept zone list)
saved list k zone can = (
  λ same.
      of_it zone k.zone list (payload_of k) (kept_zone k can) same
      ∙ ap (λ b. option_and_then kept_of (cond b (Some (payload_of k)) None))
      (is_kept_by (payload_of k) (Some k) (kept_back k can)) ∙ kept_back k can,
  λ ne. of_another zone k.zone list (payload_of k) (kept_zone k can) ne,
)

pub gone : (list : List Octets) (z zone : Name) → IsName z
    → (zone ≡ z → kept zone (list ++ forgotten z ∷ []) ≡ None)
    × (zone ≢ z → kept zone (list ++ forgotten z ∷ []) ≡ kept zone list)
gone list z zone is = (
  λ same.
      of_it zone z list (forgotten z) (forgotten_zone z is) same
      ∙ ap (λ b. option_and_then kept_of (cond b (Some (forgotten z)) None))
      (is_kept_by (forgotten z) None (forgotten_not_kept z)),
  λ ne. of_another zone z list (forgotten z) (forgotten_zone z is) ne,
)
