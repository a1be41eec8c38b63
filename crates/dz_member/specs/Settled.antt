-- Meaning: catalogs of which all has been processed (RFC 9432 section 5).
use Rattle.std.specs.Prelude.{◌≡◌, ℕ, Bool, false, List, None}
use Rattle.dz_name.specs.Words.{Name}
use Rattle.dz_name.specs.Name.{same_name}
use Rattle.dz_member.specs.declared.listing.Node.{Node}
use Rattle.dz_member.specs.declared.change.What.{What}
use Rattle.dz_member.specs.declared.change.What.TheVariants.{Moved, MovedReset}
use Rattle.dz_member.specs.Fold.{FoldOf}
use Rattle.dz_member.specs.Process.{judged_at}

-- the listing of a catalog, processed again, would tell nothing
abbrev pub IsSettled : FoldOf → Name → List Node → Type 0
IsSettled fold catalog nodes =
    (position : ℕ) (zone : Name) → (judged_at fold catalog nodes position zone).change ≡ None

-- a change by which a zone leaves this catalog for another one (RFC 9432 section 4.3.1)
abbrev pub moves_from : Name → What → Bool
moves_from catalog (Moved from to) = same_name from catalog
moves_from catalog (MovedReset from to) = same_name from catalog
moves_from catalog what = false
