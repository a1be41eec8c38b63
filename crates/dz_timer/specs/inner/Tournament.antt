-- Inner: a tournament. Each node is the earlier of the two below it, and the last half are the moments by their
-- places.
use Rattle.std.specs.Prelude.{◌≡◌, ◌≢◌, ℕ, ◌+◌, ◌-◌, ◌<◌, ◌≤◌, ◌^◌, Bool, false, ◌&&◌, ◌||◌, ◌==◌, nat_lt, List}
use Rattle.std.specs.Prelude.{length, map, drop, slice_index, slice_index_or, if◌then◌else◌}
use Rattle.std.specs.List.{All}
use Rattle.dz_timer.specs.Values.{ValuesOf}
use Rattle.dz_timer.specs.declared.wait.Wait.{Wait}

-- the node with this number
abbrev pub node : List Wait → ℕ → Wait
node nodes i = slice_index_or nodes i (record { moment = 0; place = 0 })

-- whether b waits for an earlier moment than a, or for the same at a lower place
abbrev pub comes_before : Wait → Wait → Bool
comes_before b a = nat_lt b.moment a.moment || (b.moment == a.moment && nat_lt b.place a.place)

-- the one that comes before the other
unfoldable pub earlier : Wait → Wait → Wait
earlier a b = if comes_before b a then b else a

-- the node is the earlier of the two below it
abbrev pub IsDecided : List Wait → ℕ → Type 0
IsDecided nodes i = node nodes i ≡ earlier (node nodes (i + i)) (node nodes (i + i + 1))

-- each node before the last half is decided, except this one
abbrev pub AreDecidedBut : List Wait → ℕ → ℕ → Type 0
AreDecidedBut nodes count out = (i : ℕ) → 1 ≤ i → i < count → i ≢ out → IsDecided nodes i

-- each node of the last half has its own place
abbrev pub AreOwn : List Wait → ℕ → Type 0
AreOwn nodes count = (j : ℕ) → j < count → (node nodes (count + j)).place ≡ j

-- these nodes are a tournament of this many moments
pub record IsTournament (nodes : List Wait) (count : ℕ) : Type 0 where
  pub size : length nodes ≡ count + count
  pub own : AreOwn nodes count
  pub decided : AreDecidedBut nodes count 0

-- the moments by place
abbrev pub moments : List Wait → ℕ → List ℕ
moments nodes count = map (λ w. w.moment) (drop count nodes)

-- this is the place of the first of the least moments
pub record IsFirstOfLeast (xs : List ℕ) (place : ℕ) : Type 0 where
  pub within : place < length xs
  pub least : (k : ℕ) → k < length xs → slice_index xs place ≤ slice_index xs k
  pub first : (k : ℕ) → k < place → slice_index xs place < slice_index xs k

-- the moment that a zone waits for: none while its job is in flight
abbrev pub wait_of : ValuesOf → ℕ
wait_of values = if values.timing.busy then (2 ^ 64 - 1) else values.timing.next

-- no zone waits for the moment that represents none
abbrev pub IsSoon : ValuesOf → Type 0
IsSoon values = values.timing.busy ≡ false → values.timing.next < 2 ^ 41

-- these are the moments that the zones wait for
pub record AreKept (zones : List ValuesOf) (waits : List ℕ) : Type 0 where
  pub kept : waits ≡ map wait_of zones
  pub soon : All IsSoon zones
