-- Meaning: slots of zones, and which one answers for a name (RFC 1034 section 4.3.2). A list of slots may be in any
-- order, unless stated otherwise.
use Rattle.std.specs.Prelude.{ℕ, ◌+◌, ◌*◌, ◌/◌, ◌^◌, ◌≤◌, Bool, not, ◌==◌, if◌then◌else◌, List, [], ◌∷◌, ◌++◌, length}
use Rattle.std.specs.Prelude.{filter, Option, Some, None}
use Rattle.std.specs.Option.{option_or}
use Rattle.std.specs.List.{find, All, Contains}
use Rattle.std.specs.List.Sorted.{IsStrictlySortedBy}
use Rattle.std.specs.Ordering.{on, is_lt}
use Rattle.std.specs.declared.cmp.Ordering.{Ordering}
use Rattle.dz_name.specs.Words.{Name, Kind}
use Rattle.dz_name.specs.Name.{canonical_order, same_name, upward, IsWithin}
use Rattle.dz_name.specs.declared.dns.TheConstants.{TYPE_DS}
use Rattle.dz_table.specs.Slot.{SlotOf}

-- slots compared by the canonical order of their zones (RFC 4034 section 6.1)
abbrev pub slot_order : SlotOf → SlotOf → Ordering
slot_order = on (λ slot. slot.zone) canonical_order

-- a name comes before another in canonical order
abbrev pub comes_before : Name → Name → Bool
comes_before a b = is_lt (canonical_order a b)

-- slots in the canonical order of their zones, no two of one zone (RFC 4034 section 6.1)
abbrev pub IsTable : List SlotOf → Type 0
IsTable slots = IsStrictlySortedBy slot_order slots

-- a slot put into a table: before it the slots of zones that come before its zone, after it those of zones that come
-- after
unfoldable pub put : List SlotOf → SlotOf → List SlotOf
put slots slot =
    filter (λ s. comes_before s.zone slot.zone) slots
    ++ slot ∷ filter (λ s. comes_before slot.zone s.zone) slots

-- the slots of the other zones
unfoldable pub without : List SlotOf → Name → List SlotOf
without slots zone = filter (λ s. not (same_name s.zone zone)) slots

-- the slot of a zone
abbrev pub slot_of : Name → List SlotOf → Option SlotOf
slot_of zone slots = find (λ slot. same_name slot.zone zone) slots

-- the slot of the first of some names that has one
unfoldable pub first_held : List SlotOf → List Name → Option SlotOf
first_held slots [] = None
first_held slots (name ∷ names) = option_or (slot_of name slots) (first_held slots names)

-- the slot of the name itself, or else of the longest name above it that has one (RFC 1034 section 4.3.2, step 2)
unfoldable pub closest : List SlotOf → Name → Option SlotOf
closest slots name = first_held slots (upward name)

-- the slot of the closest zone strictly above a name
abbrev pub closest_above : List SlotOf → Name → Option SlotOf
closest_above slots [] = None
closest_above slots (label ∷ labels) = closest slots labels

-- the slot that answers for a name and a type: for a DS that of a zone above the name, if there is one (RFC 4035
-- section 3.1.4.1)
unfoldable pub closest_for : List SlotOf → Name → Kind → Option SlotOf
closest_for slots name kind =
    if kind == TYPE_DS then option_or (closest_above slots name) (closest slots name) else closest slots name

-- the closest slot in other words: its zone encloses the name, and no other such zone has more labels (RFC 1034
-- section
-- 4.3.2, step 2)
pub record IsNearest (slots : List SlotOf) (name : Name) (slot : SlotOf) : Type 0 where
  pub held : Contains slots slot
  pub encloses : IsWithin name slot.zone
  pub nearest : All (λ other. IsWithin name other.zone → length other.zone ≤ length slot.zone) slots

-- an answer is the closest slot; there is none where no zone encloses the name
abbrev pub IsClosest : List SlotOf → Name → Option SlotOf → Type 0
IsClosest slots name None = All (λ other. ¬ IsWithin name other.zone) slots
IsClosest slots name (Some slot) = IsNearest slots name slot

-- so many comparisons of zones so many searches of a table of so many slots take at most: each takes as many as the
-- number of chunks of slots and one has bits, and 22 more in one chunk
abbrev pub SearchesTake : ℕ → ℕ → ℕ → Type 0
SearchesTake slots searches taken = (bits : ℕ) → slots / 64 + 2 ≤ 2 ^ bits → taken ≤ searches * (bits + 22)
