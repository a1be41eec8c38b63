-- Each step keeps the rule.
use Rattle.std.proofs.Common.{◌≡◌, ℕ, ◌≢◌, List, [], ◌∷◌, ◌++◌, set, refl, sym, ◌∙◌, subst, ⊎_elim, Option, None, Some}
use mathlib.Core.Option.{some, some-ne-none}
use lib.ListN.{get_elem?}
use Rattle.crossbeam_utils.specs.Register.{Admits, TurnsAt, Turns, Forks, Merges}
use Rattle.atomic_table.proofs.Lists.{at_set, at_snoc}
use Rattle.dz_desk.specs.Seen.{Page, Goes}
use Rattle.dz_desk.specs.Rule.{WasSeen, Keeps, Sees}
use Rattle.dz_desk.proofs.PrefixLemmas.{prefix_self, prefix_trans}

pub goes_self : (x : Page) → Goes x x
goes_self x = (prefix_self x.list, refl)

pub goes_trans : (x y z : Page) → Goes x y → Goes y z → Goes x z
goes_trans x y z p q = (prefix_trans x.list y.list z.list p.0 q.0, q.1 ∙ p.1)

-- ---- what was seen, while what is published changes
seen_later : (seen : Option Page) (x y : Page) → WasSeen seen x → Goes x y → WasSeen seen y
seen_later None x y was goes = tt
seen_later (Some page) x y was goes = goes_trans page x y was goes

pub keeps_later : (x y : Page) (seats : List (Option Page)) → Keeps x seats → Goes x y → Keeps y seats
keeps_later x y seats keeps goes n seen at = seen_later seen x y (keeps n seen at) goes

-- ---- a seat that comes to see what fits, and a further seat
pub seat_sees : (x : Page) (seats : List (Option Page)) (n : ℕ) (seen : Option Page) → Keeps x seats → WasSeen seen x
    → Keeps x (set seats n seen)
seat_sees x seats n seen keeps fits j other at =
    ⊎_elim (λ (own : (j ≡ n) × (seen ≡ other)). subst (λ (o : Option Page). WasSeen o x) own.1 fits)
    (λ (else : (j ≢ n) × (get_elem? seats j ≡ some other)). keeps j other else.1) (at_set seats n j seen other at)

pub seat_more : (x : Page) (seats : List (Option Page)) (seen : Option Page) → Keeps x seats → WasSeen seen x
    → Keeps x (seats ++ seen ∷ [])
seat_more x seats seen keeps fits j other at = ⊎_elim (keeps j other)
    (λ (own : seen ≡ other). subst (λ (o : Option Page). WasSeen o x) own fits) (at_snoc seats seen other j at)

-- ---- the steps
no_seats : (x : Page) → Keeps x []
no_seats x n seen at = absurd (some-ne-none seen (sym at))

pub opens : (x : Page) → Keeps x (None ∷ [])
opens x = seat_more x [] None (no_seats x) tt

pub admits : Admits Keeps None
admits x seats keeps = seat_more x seats None keeps tt

pub shows : (n : ℕ) (before : Option Page) (x y : Page) → Goes x y → TurnsAt Keeps n before x y Sees
shows n before x y goes seats keeps at = (
  Some y,
  seat_sees y seats n (Some y) (keeps_later x y seats keeps goes) (goes_self y),
  (seen_later before x y (keeps n before at) goes, refl),
)

pub enters : (n : ℕ) (before : Option Page) → Turns Keeps n before (λ x. x) Sees
enters n before x = shows n before x x (goes_self x)

pub tells : (n : ℕ) (seen : Option Page) → Forks Keeps n seen seen seen
tells n seen x seats keeps at =
    seat_more x (set seats n seen) seen (seat_sees x seats n seen keeps (keeps n seen at)) (keeps n seen at)

pub learns : (n : ℕ) (before : Option Page) (other : ℕ) (noted : Option Page)
    → Merges Keeps n before other noted noted None
learns n before other noted x seats keeps at apart there =
    let fits : WasSeen noted x =
    ⊎_elim (λ (own : (other ≡ n) × (noted ≡ noted)). absurd (apart own.0))
    (λ (else : (other ≢ n) × (get_elem? seats other ≡ some noted)). keeps other noted else.1)
    (at_set seats n other noted noted there) in
    seat_sees x (set seats n noted) other None (seat_sees x seats n noted keeps fits) tt
