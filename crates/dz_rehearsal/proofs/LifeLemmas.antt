-- The core between the script's jobs (`Life`), and a job that leads from one such core to the next (`Makes`).
use Rattle.std.proofs.Common.{◌≡◌, ℕ, ◌<◌, ◌≤◌, ◌==◌, Bool, true, false, List, [], ◌∷◌, ◌++◌, map, Option, Some, refl}
use Rattle.std.proofs.Common.{sym, ap, ◌∙◌, inl, inr, eq-eqb, ne_eqb}
use Rattle.std.specs.Prelude.{if◌then◌else◌}
use Rattle.std.proofs.lemmas.Bool.{cases_eq}
use Rattle.dz_name.specs.Words.{Octets}
use Rattle.dz_zone.specs.Version.{Zone}
use Rattle.dz_member.specs.declared.listing.Node.{Node}
use Rattle.dz_member.specs.Membership.{MemberOf}
use Rattle.dz_script.specs.declared.line.Line.{Line}
use Rattle.dz_timer.specs.Values.{ValuesOf}
use Rattle.dz_history.specs.State.{held_at}
use Rattle.dz_fleet.specs.Values.{value_at}
use Rattle.dz_fleet.specs.Core.{Core, state_of}
use Rattle.dz_fleet.proofs.EventLemmas.{IsWell}
use Rattle.dz_gen.specs.Records.{zone}
use Rattle.dz_gen.specs.Script.{numbers}
use Rattle.dz_gen.specs.Reading.{job_lines}
use Rattle.dz_rehearsal.specs.Life.{config, Makes}

-- what is known of a core of n zones in which no job is in flight. Of zone k, `member` gives the membership, `hold`
-- the version and `value` the timer; `own` is the catalog's version, `first` its timer, and `tickets` the last ticket
pub record Life (n : ℕ) (member : ℕ → MemberOf) (nodes : List Node) (own : Zone) (first : ValuesOf)
    (hold : ℕ → Option Zone) (value : ℕ → ValuesOf) (tickets : ℕ) (c : Core) : Type 0 where
  pub well : IsWell c
  pub idle : c.flight ≡ []
  pub drawn : c.tickets ≡ tickets
  pub fold : (state_of c).fold
      ≡ record { config = config; members = map member (numbers n); listings = Some nodes ∷ [] }
  pub version : (state_of c).versions ≡ Some own ∷ []
  pub held : (k : ℕ) → 0 < k → k ≤ n → held_at (state_of c) (zone k) ≡ hold k
  pub catalog : value_at c.values 0 ≡ first
  pub values : (k : ℕ) → 0 < k → k ≤ n → value_at c.values k ≡ value k

-- the same with other expressions for what zones hold, for their timers and for the last ticket
pub life_same : (n : ℕ) (member : ℕ → MemberOf) (nodes : List Node) (own : Zone) (first : ValuesOf)
    (hold other : ℕ → Option Zone) (value waits : ℕ → ValuesOf) (tickets number : ℕ) (c : Core)
    → Life n member nodes own first hold value tickets c → ((k : ℕ) → 0 < k → k ≤ n → hold k ≡ other k)
    → ((k : ℕ) → 0 < k → k ≤ n → value k ≡ waits k) → tickets ≡ number
    → Life n member nodes own first other waits number c
life_same n member nodes own first hold other value waits tickets number c life held waiting drawn = record {
  well = life.well;
  idle = life.idle;
  drawn = life.drawn ∙ drawn;
  fold = life.fold;
  version = life.version;
  held = λ k some few. life.held k some few ∙ held k some few;
  catalog = life.catalog;
  values = λ k some few. life.values k some few ∙ waiting k some few;
}

-- ---- a function with another value at one number
abbrev pub with : {X : Type 0} → (ℕ → X) → ℕ → X → ℕ → X
with f k x i = if i == k then x else f i

with_own : {X : Type 0} (f : ℕ → X) (k : ℕ) (x : X) → with f k x k ≡ x
with_own f k x = ap (λ b. if b then x else f k) (eq-eqb k k refl)

pub with_other : {X : Type 0} (f : ℕ → X) (k : ℕ) (x : X) (i : ℕ) → (i ≡ k → ⊥) → with f k x i ≡ f i
with_other f k x i other = ap (λ b. if b then x else f i) (ne_eqb i k other)

-- what has the value at k and agrees with f elsewhere is the function with that value
pub with_each : {X : Type 0} (f : ℕ → X) (k : ℕ) (x : X) (g : ℕ → X) (i : ℕ) → (i ≡ k → g i ≡ x)
    → ((i ≡ k → ⊥) → g i ≡ f i) → g i ≡ with f k x i
with_each f k x g i same other = elim (cases_eq i k) [
  | inl e ↦ same e ∙ sym (ap (with f k x) e ∙ with_own f k x)
  | inr ne ↦ other ne ∙ sym (with_other f k x i ne)
]

-- ---- what both of two have
pub either : {X : Type 0} (P : X → Type 0) (b : Bool) (x y : X) → P x → P y → P (if b then x else y)
either P true x y p q = p
either P false x y p q = q

-- a relation of cores, by the lines that lead from one to the other, that holds of a job and of more one after the
-- other
pub record HoldsOfJobs (Goes : Core → List Line → Core → Type 0) : Type 0 where
  pub none : (c : Core) → Goes c [] c
  pub both : (c d e : Core) (xs ys : List Line) → Goes c xs d → Goes d ys e → Goes c (xs ++ ys) e
  pub job : (c d : Core) (moment ticket : ℕ) (octets : Octets) → Makes c moment ticket octets d
      → Goes c (job_lines moment ticket octets) d
