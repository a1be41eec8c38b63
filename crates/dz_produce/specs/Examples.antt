-- Judge: lines that the checker computes.
use Rattle.std.specs.Prelude.{◌≡◌, refl, ℕ, List, [], ◌∷◌, Option, Some, None, codes}
use Rattle.dz_member.specs.declared.listing.Node.{Node}
use Rattle.dz_name.specs.Name.{wire_of}
use Rattle.dz_name.specs.Text.{items, labels_from, with_label, name_of_text}
use Rattle.dz_name.specs.Words.{Name, Octets}
use Rattle.dz_produce.specs.Lines.{groups_of, line_of}
use Rattle.dz_produce.specs.Producing.{first_turn, next_turn, begun, bad_turn, produce_turn}
use Rattle.dz_produce.specs.declared.line.Line.TheVariants.{Catalog, Member, Drop, Change}

-- the name example.
abbrev example : Name
example = codes "example" ∷ []

-- a node whose zone is example.
abbrev member_of : Octets → Option Name → List Octets → Node
member_of label coo groups = record { label = label; zone = example; coo = coo; groups = groups }

-- ---- catalogs
pub a_catalog : line_of (codes "catalog Cat1.example. 7") ≡ Some (Catalog (codes "cat1" ∷ example) 7)
unfolding line_of name_of_text items labels_from with_label wire_of
a_catalog = refl

pub last_serial : line_of (codes "catalog example 4294967295") ≡ Some (Catalog example 4294967295)
unfolding line_of name_of_text items labels_from with_label wire_of
last_serial = refl

pub past_the_last_serial : line_of (codes "catalog example 4294967296") ≡ None
unfolding line_of name_of_text items labels_from with_label wire_of
past_the_last_serial = refl

pub leading_zero : line_of (codes "catalog example 07") ≡ None
unfolding line_of name_of_text items labels_from with_label wire_of
leading_zero = refl

pub no_serial : line_of (codes "catalog example") ≡ None
unfolding line_of name_of_text items labels_from with_label wire_of
no_serial = refl

pub more_than_a_serial : line_of (codes "catalog example 7 8") ≡ None
unfolding line_of name_of_text items labels_from with_label wire_of
more_than_a_serial = refl

-- ---- members: each word becomes a character string
pub a_member : line_of (codes "member m1 example. -") ≡ Some (Member (member_of (codes "m1") None []))
unfolding line_of name_of_text items labels_from with_label wire_of groups_of
a_member = refl

pub with_words : line_of (codes "member m1 example. - edge x")
    ≡ Some (Member (member_of (codes "m1") None ((4 ∷ codes "edge") ∷ (1 ∷ codes "x") ∷ [])))
unfolding line_of name_of_text items labels_from with_label wire_of groups_of
with_words = refl

pub with_coo : line_of (codes "member M1. example. cat2.example.")
    ≡ Some (Member (member_of (codes "m1") (Some (codes "cat2" ∷ example)) []))
unfolding line_of name_of_text items labels_from with_label wire_of groups_of
with_coo = refl

pub without_coo : line_of (codes "member m1 example.") ≡ None
unfolding line_of name_of_text items labels_from with_label wire_of groups_of
without_coo = refl

pub a_label_of_two : line_of (codes "member m1.m2 example. -") ≡ None
unfolding line_of name_of_text items labels_from with_label wire_of groups_of
a_label_of_two = refl

pub the_root_as_a_label : line_of (codes "member . example. -") ≡ None
unfolding line_of name_of_text items labels_from with_label wire_of groups_of
the_root_as_a_label = refl

pub a_space_at_the_end : line_of (codes "member m1 example. - ") ≡ None
unfolding line_of name_of_text items labels_from with_label wire_of groups_of
a_space_at_the_end = refl

pub two_spaces : line_of (codes "member  m1 example. -") ≡ None
unfolding line_of name_of_text items labels_from with_label wire_of groups_of
two_spaces = refl

-- ---- changes
pub a_drop : line_of (codes "drop m1") ≡ Some (Drop (codes "m1"))
unfolding line_of name_of_text items labels_from with_label wire_of
a_drop = refl

pub a_drop_of_two : line_of (codes "drop m1 m2") ≡ None
unfolding line_of name_of_text items labels_from with_label wire_of
a_drop_of_two = refl

pub a_change : line_of (codes "change 8") ≡ Some (Change 8)
unfolding line_of
a_change = refl

pub no_change : line_of (codes "change") ≡ None
unfolding line_of
no_change = refl

pub another_word : line_of (codes "remove m1") ≡ None
unfolding line_of
another_word = refl

-- ---- turns
-- the first line must begin a catalog
pub a_member_first : (node : Node) → first_turn 1 (Member node) ≡ bad_turn None 1
unfolding first_turn
a_member_first node = refl

-- nothing is dropped from a catalog that has none before it
pub a_drop_without_a_change : (label : Octets)
    → next_turn (begun example 7) 2 (Drop label) ≡ bad_turn (Some (begun example 7)) 2
unfolding next_turn
a_drop_without_a_change label = refl

-- a second catalog is bad
pub a_second_catalog : (apex : Name) (serial : ℕ)
    → next_turn (begun example 7) 2 (Catalog apex serial) ≡ bad_turn (Some (begun example 7)) 2
unfolding next_turn
a_second_catalog apex serial = refl

-- a change without a serial is bad, and writes no line before
pub a_change_without_a_serial : produce_turn (Some (begun example 7)) 2 (codes "change")
    ≡ bad_turn (Some (begun example 7)) 2
unfolding produce_turn line_of
a_change_without_a_serial = refl
