-- Judge: the first octets of labels decide, unless they tie; labels that tie are one.
use Rattle.std.proofs.Common.{◌≡◌, ◌≢◌, refl, sym, ◌∙◌, ap}
use Rattle.std.specs.Ordering.{nat_cmp, ordering_reverse}
use Rattle.std.specs.Cmp.Lexicographic.{slice_cmp}
use Rattle.std.specs.FinMap.{slice_cmp-IsAntisymmetric, nat_cmp-IsAntisymmetric}
use Rattle.std.specs.declared.cmp.Ordering.{Ordering}
use Rattle.std.specs.declared.cmp.Ordering.TheVariants.{Less, Equal, Greater}
use Rattle.dz_name.specs.Name.{label_order}
use Rattle.dz_name.specs.Order.{label_total}
use Rattle.dz_name.specs.Words.{Octets}
use Rattle.dz_index.specs.Lead.{lead_of}
use Rattle.dz_index.proofs.LeadLemmas.{lead_less}

pub label_same : (a b : Octets) → label_order a b ≡ Equal → a ≡ b
label_same a b e = slice_cmp-IsAntisymmetric nat_cmp-IsAntisymmetric a b e

turned : (a b : Octets) → label_order a b ≡ Greater → label_order b a ≡ Less
turned a b g = label_total.antisymm b a ∙ ap ordering_reverse g

pub label_decides : (a b : Octets) → slice_cmp nat_cmp (lead_of 16 a) (lead_of 16 b) ≢ Equal
    → label_order a b ≡ slice_cmp nat_cmp (lead_of 16 a) (lead_of 16 b)
label_decides a b apart = go (slice_cmp nat_cmp (lead_of 16 a) (lead_of 16 b)) refl
  where
    go : (o : Ordering) → slice_cmp nat_cmp (lead_of 16 a) (lead_of 16 b) ≡ o
        → label_order a b ≡ slice_cmp nat_cmp (lead_of 16 a) (lead_of 16 b)
    go Less h = lead_less 16 a b h ∙ sym h
    go Equal h = absurd (apart h)
    go Greater h = label_total.antisymm a b
        ∙ (ap ordering_reverse (lead_less 16 b a (turned (lead_of 16 a) (lead_of 16 b) h)) ∙ sym h)
