-- Judge: which slot answers for a name, and a slot put among others, computed by the checker.
use Rattle.std.specs.Prelude.{◌≡◌, refl, ℕ, true, false, List, [], ◌∷◌, Some, None, codes}
use Rattle.dz_name.specs.Words.{Name}
use Rattle.dz_name.specs.Name.{upward}
use Rattle.dz_name.specs.Numbers.{number_of_four}
use Rattle.dz_name.specs.declared.dns.TheConstants.{TYPE_SOA}
use Rattle.dz_table.specs.Slot.{SlotOf, is_live}
use Rattle.dz_table.specs.Table.{put, without, first_held, closest}

-- a slot of a zone, refreshed at a moment, without a version
abbrev slot : Name → ℕ → SlotOf
slot zone moment = record { zone = zone; refreshed = moment; version = None }

-- `example.`
abbrev example : Name
example = codes "example" ∷ []

-- `sub.example.`
abbrev sub : Name
sub = codes "sub" ∷ example

-- example., sub.example. and other., in an order that no table has
abbrev slots : List SlotOf
slots = slot sub 1 ∷ slot (codes "other" ∷ []) 2 ∷ slot example 3 ∷ []

pub itself : closest slots sub ≡ Some (slot sub 1)
unfolding closest first_held upward
itself = refl

pub below : closest slots (codes "a" ∷ codes "b" ∷ sub) ≡ Some (slot sub 1)
unfolding closest first_held upward
below = refl

-- labels count, and not octets
pub longer_label : closest slots (codes "xsub" ∷ example) ≡ Some (slot example 3)
unfolding closest first_held upward
longer_label = refl

pub outside : closest slots (codes "sub" ∷ []) ≡ None
unfolding closest first_held upward
outside = refl

pub root_of_none : closest slots [] ≡ None
unfolding closest first_held upward
root_of_none = refl

-- the zone of the root encloses all names
pub root_zone : closest (slot [] 4 ∷ slots) (codes "org" ∷ []) ≡ Some (slot [] 4)
unfolding closest first_held upward
root_zone = refl

-- a slot takes the place of the one of its zone, or its own place among the others
pub in_place : put (slot example 1 ∷ slot sub 2 ∷ []) (slot sub 3) ≡ slot example 1 ∷ slot sub 3 ∷ []
unfolding put
in_place = refl

pub between : put (slot example 1 ∷ slot (codes "z" ∷ example) 2 ∷ []) (slot sub 3)
    ≡ slot example 1 ∷ slot sub 3 ∷ slot (codes "z" ∷ example) 2 ∷ []
unfolding put
between = refl

-- the slots of the other zones, those below the zone among them
pub taken_out : without slots example ≡ slot sub 1 ∷ slot (codes "other" ∷ []) 2 ∷ []
unfolding without
taken_out = refl

pub not_there : without slots (codes "org" ∷ []) ≡ slots
unfolding without
not_there = refl

-- EXPIRE, the fourth number of the SOA, is 3: a slot refreshed at 100 is live at 102 and not at 103
abbrev expiring : SlotOf
expiring = record {
  zone = example;
  refreshed = 100;
  version = Some (record {
    apex = example;
    records = record {
      owner = example;
      kind = TYPE_SOA;
      ttl = 0;
      rdata = 0 ∷ 0 ∷ 0 ∷ 0 ∷ 0 ∷ 1 ∷ 0 ∷ 0 ∷ 0 ∷ 9 ∷ 0 ∷ 0 ∷ 0 ∷ 9 ∷ 0 ∷ 0 ∷ 0 ∷ 3 ∷ 0 ∷ 0 ∷ 0 ∷ 9 ∷ [];
    } ∷ [];
  });
}

pub still_live : is_live expiring 102 ≡ true
unfolding number_of_four
still_live = refl

pub expired : is_live expiring 103 ≡ false
unfolding number_of_four
expired = refl
