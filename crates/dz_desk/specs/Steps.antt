-- Judge: each kind of atomic step keeps the rule.
use Rattle.std.specs.Prelude.{ℕ, [], ◌∷◌, Option, None}
use Rattle.crossbeam_utils.specs.Register.{Admits, TurnsAt, Turns, Forks, Merges}
use Rattle.dz_desk.specs.Seen.{Page, Goes}
use Rattle.dz_desk.specs.Rule.{Keeps, Sees}

-- There are eight kinds, each from any state that keeps the rule. Making the pair, whose publisher has seen nothing,
-- and handing out a reading, which has seen nothing, keep it. Publishing a page that continues the published one, and
-- entering, keep it, and show that page to the seat. A note of what a seat saw keeps it, and so does learning, by
-- which another seat has seen what was noted. Leaving, and ending the pair, change nothing of which it speaks.
pub record StepsKeep : Type 0 where
  pub making : (published : Page) → Keeps published (None ∷ [])
  pub handing_out : Admits Keeps None
  pub publishing : (seat : ℕ) (seen : Option Page) (published next : Page) → Goes published next
      → TurnsAt Keeps seat seen published next Sees
  pub entering : (seat : ℕ) (seen : Option Page) → Turns Keeps seat seen (λ published. published) Sees
  pub telling : (seat : ℕ) (seen : Option Page) → Forks Keeps seat seen seen seen
  pub learning : (seat : ℕ) (seen : Option Page) (other : ℕ) (noted : Option Page)
      → Merges Keeps seat seen other noted noted None
