-- Records that tie are the same, and a record at its place.
use Rattle.std.proofs.Common.{◌≡◌, List, [], ◌∷◌, not, refl}
use Rattle.std.specs.Prelude.{filter}
use Rattle.std.specs.List.{list_any}
use Rattle.dz_record.specs.Order.{same_ties}
use Rattle.dz_record.specs.Record.{Record, record_order}
use Rattle.dz_record.specs.Records.{insertion}
use Rattle.dz_zone.specs.Revision.{is_there, without}
use Rattle.dz_zone.specs.inner.Overlay.{placed, has_tie, untied}

pub tie_there : (r : Record) (zone : List Record) → is_there r zone ≡ has_tie record_order r zone
tie_there r zone i = list_any (λ s. same_ties r s i) zone

pub tie_without : (r : Record) (zone : List Record) → without r zone ≡ untied record_order r zone
tie_without r zone i = filter (λ s. not (same_ties r s i)) zone

pub placed_insertion : (r : Record) (zone : List Record) → placed record_order r zone ≡ insertion r zone
unfolding placed insertion
placed_insertion r [] = refl
placed_insertion r (s ∷ zone) = rw (placed_insertion r zone) refl
