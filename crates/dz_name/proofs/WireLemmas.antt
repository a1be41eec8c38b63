-- Octets that are the wire form of a name.
use Rattle.std.proofs.Common.{◌≡◌, ℕ, List, [], ◌++◌, length, refl, sym, ◌∙◌, ap}
use Rattle.std.proofs.lemmas.List.{append-nil}
use Rattle.dz_name.specs.Name.{wire_of, IsName, labels_in, labels_of, IsWire}
use Rattle.dz_name.proofs.KeptLemmas.{labels_in-wire_of, labels_le}

-- the labels are at the beginning of their wire form and what follows it
pub labels_front : (labels : List (List ℕ)) (more : List ℕ) (n : ℕ) → IsName labels → n ≡ length (wire_of labels)
    → labels_in n (wire_of labels ++ more) ≡ labels
labels_front labels more n name n_is = rw n_is (labels_in-wire_of labels _ more name.each (labels_le labels))

pub labels_of-wire : (labels : List (List ℕ)) (wire : List ℕ) → IsName labels → wire ≡ wire_of labels
    → labels_of wire ≡ labels
labels_of-wire labels wire name is =
    rw is (ap (λ xs. labels_in (length (wire_of labels)) xs) (sym (append-nil (wire_of labels)))
    ∙ labels_front labels [] (length (wire_of labels)) name refl)

pub is_wire : (labels : List (List ℕ)) (wire : List ℕ) → IsName labels → wire ≡ wire_of labels → IsWire wire
is_wire labels wire name is =
    let e = labels_of-wire labels wire name is in record { name = rw e name; wire_is = rw e is }
