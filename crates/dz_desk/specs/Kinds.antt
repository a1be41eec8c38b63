-- Judge: the eight kinds of atomic step of a desk, each of which keeps the rule of what is published, told and seen.
use Rattle.std.specs.Prelude.{⊤, ◌≡◌, ℕ, List, [], ◌∷◌, ◌++◌, set, Option, None, Some}
use mathlib.Core.Option.{some}
use lib.ListN.{get_elem?}
use Rattle.dz_table.specs.Slot.{SlotOf}
use Rattle.dz_history.specs.After.{after}
use Rattle.dz_history.specs.Legal.{IsLegal}
use Rattle.dz_desk.specs.Seen.{Page, Goes}
use Rattle.dz_desk.specs.Rule.{Keeps}

-- a desk at a moment: the published list and its table, and what each end saw last: the publisher, each reading, each
-- note
pub record DeskAt : Type 0 where
  pub published : Page
  pub table : List SlotOf
  pub seats : List (Option Page)

-- the published list is legal, the published table is its table, and all that was seen or noted begins it
pub record IsRuled (d : DeskAt) : Type 0 where
  pub legal : IsLegal d.published.list
  pub table : d.table ≡ (after d.published.list).table
  pub seen : Keeps d.published d.seats

-- the kinds of step
pub data Kind : Type 0 where
  making : Kind
  handing_out : Kind
  publishing : Kind
  entering : Kind
  leaving : Kind
  telling : Kind
  learning : Kind
  ending : Kind

-- a legal list that the published one begins is published with its table, and an end sees it
pub record IsPublished (d e : DeskAt) : Type 0 where
  pub goes : Goes d.published e.published
  pub legal : IsLegal e.published.list
  pub table : e.table ≡ (after e.published.list).table
  pub seat : ℕ
  pub seats : e.seats ≡ set d.seats seat (Some e.published)

-- an end comes to have seen what another end saw, or what a note tells
pub record HasLearned (d e : DeskAt) : Type 0 where
  pub seat : ℕ
  pub other : ℕ
  pub noted : Option Page
  pub there : get_elem? d.seats other ≡ some noted
  pub seats : e ≡ record d { seats = set d.seats seat noted }

-- a further end, a note, has what an end saw
pub record IsTold (d e : DeskAt) : Type 0 where
  pub seat : ℕ
  pub seen : Option Page
  pub there : get_elem? d.seats seat ≡ some seen
  pub seats : e ≡ record d { seats = d.seats ++ seen ∷ [] }

-- a step of a kind leads from one desk to another
abbrev pub IsStep : Kind → DeskAt → DeskAt → Type 0
IsStep making d e = (e.published.list ≡ []) × (e.table ≡ (after []).table) × (e.seats ≡ None ∷ [])
IsStep handing_out d e = e ≡ record d { seats = d.seats ++ None ∷ [] }
IsStep publishing d e = IsPublished d e
IsStep entering d e = (seat : ℕ) × (e ≡ record d { seats = set d.seats seat (Some d.published) })
IsStep leaving d e = e ≡ d
IsStep telling d e = IsTold d e
IsStep learning d e = HasLearned d e
IsStep ending d e = e ≡ d

-- what is asked of the desk before: nothing where it is made
abbrev pub IsBefore : Kind → DeskAt → Type 0
IsBefore making d = ⊤
IsBefore kind d = IsRuled d

-- each of the eight keeps the rule
abbrev pub EachKeeps : Type 0
EachKeeps = (kind : Kind) (d e : DeskAt) → IsBefore kind d → IsStep kind d e → IsRuled e
