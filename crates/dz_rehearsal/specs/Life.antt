-- Judge: what the generated catalog lists (RFC 9432), which members that makes, and that no line of the script is bad.
use Rattle.std.specs.Prelude.{◌≡◌, ◌≤◌, ◌<◌, ◌-◌, ℕ, ◌++◌, ◌==◌, List, [], ◌∷◌, length, map, filter, flat_map, codes}
use Rattle.std.specs.Prelude.{Some, None, Ok, if◌then◌else◌}
use Rattle.std.specs.List.{range_with_len}
use Rattle.dz_name.specs.Words.{Octets}
use Rattle.dz_settings.specs.declared.config.Policy.TheVariants.{Present, Require}
use Rattle.dz_settings.specs.declared.config.CatalogSettings.{CatalogSettings}
use Rattle.dz_member.specs.declared.listing.Node.{Node}
use Rattle.dz_member.specs.Membership.{MemberOf}
use Rattle.dz_member.specs.Fold.{FoldOf, started}
use Rattle.dz_member.specs.Process.{process}
use Rattle.dz_catalog.specs.Listing.{listing_of}
use Rattle.dz_script.specs.declared.line.Line.{Line}
use Rattle.dz_script.specs.declared.lines.TheConstants.{LIMIT}
use Rattle.dz_job.specs.Job.{JobOf}
use Rattle.dz_fleet.specs.declared.due.Due.TheVariants as due
use Rattle.dz_fleet.specs.Core.{Core, opened_core, due_of, after_due, settled}
use Rattle.dz_gen.specs.Texts.{digits}
use Rattle.dz_gen.specs.Records.{zone, is_strict}
use Rattle.dz_gen.specs.Script.{numbers, is_tenth, is_changed, script}
use Rattle.dz_gen.specs.Outcomes.{catalog_version, changed_version}
use Rattle.dz_gen.specs.Reading.{cat_test, host, job_lines, catalog_lines, first_lines, next_lines, reset_lines}
use Rattle.dz_gen.specs.Reading.{change_lines}

-- the configuration that the script's settings make
abbrev pub config : List CatalogSettings
config = record {
  name = cat_test;
  policy = Present;
  primaries = host (192 ∷ 0 ∷ 2 ∷ 1 ∷ []) ∷ [];
  groups = record { word = codes "strict"; policy = Require; primaries = host (192 ∷ 0 ∷ 2 ∷ 2 ∷ []) ∷ [] } ∷ [];
  key = None;
} ∷ []

-- ---- what the catalog lists
-- the member node of a zone, whose label begins with m; zones of odd numbers are of the group `strict`
abbrev pub node_of : ℕ → Node
node_of k = record {
  label = codes "m" ++ digits k;
  zone = zone k;
  coo = None;
  groups = if is_strict k then (6 ∷ codes "strict") ∷ [] else [];
}

-- the first zone's member node after the change: its label begins with r, and it has no group
abbrev pub renamed : Node
renamed = record { label = codes "r" ++ digits 1; zone = zone 1; coo = None; groups = [] }

-- the nodes before the change, in the order of their labels
abbrev pub first_nodes : ℕ → List Node
first_nodes n = map node_of (numbers n)

-- the nodes after the change, in the order of their labels: the first zone's is the last
abbrev pub changed_nodes : ℕ → List Node
changed_nodes n = map node_of (range_with_len 2 (n - 1)) ++ renamed ∷ []

-- the catalog's versions list these nodes, before and after the change
pub record Lists (n : ℕ) : Type 0 where
  pub first : 0 < n → n ≤ 1000 → listing_of cat_test (catalog_version n).records ≡ Ok (first_nodes n)
  pub changed : 0 < n → n ≤ 1000 → listing_of cat_test (changed_version n).records ≡ Ok (changed_nodes n)

-- ---- the members
-- zone k's membership after the first listing, which is entry 1 of the history
abbrev pub member_of : ℕ → MemberOf
member_of k = record {
  zone = zone k;
  catalog = cat_test;
  label = codes "m" ++ digits k;
  incarnation = 1;
  choice = if is_strict k then Some (codes "strict") else None;
}

-- the first zone's membership after the change, which is the entry at this position of the history
abbrev pub reset_member : ℕ → MemberOf
reset_member position =
    record { zone = zone 1; catalog = cat_test; label = codes "r" ++ digits 1; incarnation = position; choice = None }

-- zone k's membership after the change: only the first zone is reset
abbrev pub member_after : ℕ → ℕ → MemberOf
member_after position k = if k == 1 then reset_member position else member_of k

-- the configuration, the members and the listing after the first transfer of the catalog
abbrev pub first_fold : ℕ → FoldOf
first_fold n = record { config = config; members = map member_of (numbers n); listings = Some (first_nodes n) ∷ [] }

-- the same after the catalog's change
abbrev pub changed_fold : ℕ → ℕ → FoldOf
changed_fold n position =
    record {
      config = config;
      members = map (member_after position) (numbers n);
      listings = Some (changed_nodes n) ∷ [];
    }

-- the listings make these members, the first from none and the second from those of the first
pub record Members (n position : ℕ) : Type 0 where
  pub first : 0 < n → n ≤ 1000 → process (started config) cat_test (first_nodes n) 1 ≡ first_fold n
  pub changed : 0 < n → n ≤ 1000 → process (first_fold n) cat_test (changed_nodes n) position ≡ changed_fold n position

-- ---- the transfers
-- at this moment a job is due, which has this ticket; its transfer receives these octets, and leaves the core d
pub record Makes (c : Core) (moment ticket : ℕ) (octets : Octets) (d : Core) : Type 0 where
  pub job : JobOf
  pub is_due : due_of c moment ≡ due.Job job
  pub numbered : job.flight.ticket ≡ ticket
  pub idle : c.flight ≡ []
  pub settles : settled (after_due c (due.Job job)) job octets moment ≡ d

-- a job of the script: the moment at which it is asked for and ends, its ticket, and the octets that it gets
pub record Asked : Type 0 where
  pub moment : ℕ
  pub ticket : ℕ
  pub octets : Octets

-- these jobs are made one after the other, from a core to a core
unfoldable pub AreMade : Core → List Asked → Core → Type 0
AreMade c [] d = c ≡ d
AreMade c (job ∷ jobs) d = (next : Core) × Makes c job.moment job.ticket job.octets next × AreMade next jobs d

-- the lines of jobs
abbrev pub lines_of_jobs : List Asked → List Line
lines_of_jobs jobs = flat_map (λ job. job_lines job.moment job.ticket job.octets) jobs

-- all lines of the script between its settings and its requests
abbrev pub job_lines_of : ℕ → List Line
job_lines_of n =
    (((catalog_lines (numbers n) ++ flat_map first_lines (numbers n))
    ++ flat_map (next_lines n) (filter is_tenth (numbers n)))
    ++ reset_lines n)
    ++ flat_map (change_lines n) (filter is_changed (numbers n))

-- they are those of jobs that are made one after the other, from the core of the configuration on
abbrev pub TransfersHappen : ℕ → Type 0
TransfersHappen n = 0 < n → n ≤ 1000
    → (jobs : List Asked) × (end : Core) × (job_lines_of n ≡ lines_of_jobs jobs)
    × AreMade (opened_core config) jobs end

-- ---- the script
-- the script isn't longer than a script may be
abbrev pub Fits : ℕ → Type 0
Fits n = n ≤ 1000 → length (script n) ≤ LIMIT
