-- Judge: where a zone was kept, when it is handed out, and what a store says, computed by the checker.
use Rattle.std.specs.Prelude.{◌≡◌, refl, true, false, List, [], ◌∷◌, Option, Some, None, codes}
use Rattle.dz_name.specs.Words.{Name, Octets}
use Rattle.dz_store.specs.Kept.{KeptZone}
use Rattle.dz_restore.specs.Restoring.{Home, is_home, moment_of, told}

-- the member zone example.
abbrev example : Name
example = codes "example" ∷ []

-- the catalog zone cat1.example.
abbrev catalog : Name
catalog = codes "cat1" ∷ codes "example" ∷ []

-- the zone, kept under a label of that catalog, at the moment 1000
abbrev kept_under : Option Octets → KeptZone
kept_under label = record {
  zone = example;
  catalog = catalog;
  label = label;
  refreshed = 1000;
  version = record { apex = example; records = [] };
}

-- the zone belongs to that catalog, under the label `m2`
abbrev home : Home
home = record { catalog = catalog; label = Some (codes "m2") }

kept_at_home : is_home (kept_under (Some (codes "m2"))) home ≡ true
kept_at_home = refl

kept_under_another_label : is_home (kept_under (Some (codes "m1"))) home ≡ false
kept_under_another_label = refl

kept_under_no_label : is_home (kept_under None) home ≡ false
kept_under_no_label = refl

handed_out_at_its_kept_moment : moment_of (Some (kept_under None)) ≡ 1000
handed_out_at_its_kept_moment = refl

handed_out_at_0 : moment_of None ≡ 0
handed_out_at_0 = refl

after_a_fault_nothing_is_told : (list : List Octets) → told (Some 2) list 2 example ≡ None
after_a_fault_nothing_is_told list = refl
