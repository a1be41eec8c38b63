-- A core that holds nothing yet.
use Rattle.std.proofs.Common.{◌≡◌, ℕ, List, length, replicate, refl, sym, ◌∙◌, ap, Option, Some, None}
use Rattle.std.specs.Prelude.{zero, suc, slice_index_or}
use Rattle.dz_name.specs.Words.{Name}
use Rattle.dz_settings.specs.declared.config.CatalogSettings.{CatalogSettings}
use Rattle.dz_history.specs.State.{opened, catalog_at, held_at, held_from}
use Rattle.dz_history.specs.After.{after}
use Rattle.dz_job.specs.Job.{JobOf}
use Rattle.dz_fleet.specs.Core.{opened_core}
use Rattle.dz_fleet.specs.Sound.{IsGiven}
use Rattle.dz_fleet.proofs.GivenLemmas.{given_now}
use Rattle.dz_fleet.proofs.StartLemmas.{opened_state}

same_at : {X : Type 0} (n k : ℕ) (x : X) → slice_index_or (replicate n x) k x ≡ x
same_at zero k x = refl
same_at (suc n) zero x = refl
same_at (suc n) (suc k) x = same_at n k x

none_from : (config : List CatalogSettings) (zone : Name) (o : Option ℕ) → held_from (opened config) zone o ≡ None
none_from config zone (Some number) = same_at (length config) number None
none_from config zone None = refl

pub nothing_held : (config : List CatalogSettings) (zone : Name)
    → held_at (after (opened_core config).list) zone ≡ None
unfolding held_at
nothing_held config zone = ap (λ s. held_at s zone) (opened_state config)
    ∙ none_from config zone (catalog_at (opened config) zone)

-- what the first list hands out
pub given_opened : (config : List CatalogSettings) (job : JobOf) → job.flight.entries ≡ 1 → job.held ≡ None
    → IsGiven (opened_core config).list job
given_opened config job entries none =
    given_now (opened_core config).list job entries (none ∙ sym (nothing_held config job.flight.zone))
