-- No member is a configured catalog.
use Rattle.std.proofs.Common.{◌≡◌, ℕ, Bool, true, false, List, [], refl, sym, ◌∙◌, Some, None}
use Rattle.std.specs.Prelude.{Option, position}
use Rattle.std.specs.List.{AllByRecursion, list_any}
use Rattle.std.proofs.lemmas.List.Folds.{list_any_at}
use Rattle.dz_name.specs.Words.{Name}
use Rattle.dz_name.specs.Name.{same_name}
use Rattle.dz_settings.specs.declared.config.CatalogSettings.{CatalogSettings}
use Rattle.dz_member.specs.declared.listing.Node.{Node}
use Rattle.dz_member.specs.Membership.{settings_at}
use Rattle.dz_member.specs.Fold.{FoldOf, number_of}
use Rattle.dz_member.specs.Process.{is_catalog, process}
use Rattle.dz_history.specs.declared.entry.Taken.{Taken}
use Rattle.dz_history.specs.declared.entry.Entry.TheVariants.{Transfer}
use Rattle.dz_history.specs.State.{State, opened}
use Rattle.dz_history.specs.After.{counted, relisted, step}
use Rattle.dz_history.specs.Places.{IsApart}
use Rattle.dz_history.proofs.FindLemmas.{place_within, place_passes}
use Rattle.dz_history.proofs.JudgedLemmas.{processed_all}
use Rattle.dz_history.proofs.StepLemmas.{step_by}

-- what passes nowhere has no place
no_place : {X : Type 0} (p : X → Bool) (xs : List X) (d : X) (o : Option ℕ) → o ≡ position p xs
    → list_any p xs ≡ false → o ≡ None
no_place p xs d None e f = refl
no_place p xs d (Some k) e f =
    absurd (let t : list_any p xs ≡ true = list_any_at p xs k d (place_within p xs k e) (place_passes p xs k d e) in
    let bad : true ≡ false = sym t ∙ f in cc)

number_none : (fold : FoldOf) (zone : Name) → is_catalog fold zone ≡ false → number_of fold.config zone ≡ None
number_none fold zone f =
    no_place (λ c. same_name c.name zone) fold.config (settings_at [] 0) (number_of fold.config zone) refl f

pub apart_processed : (fold : FoldOf) (catalog : Name) (nodes : List Node) (position : ℕ)
    → AllByRecursion (λ m. number_of fold.config m.zone ≡ None) fold.members
    → AllByRecursion (λ m. number_of fold.config m.zone ≡ None) (process fold catalog nodes position).members
apart_processed fold catalog nodes position h =
    processed_all fold catalog position (λ m. number_of fold.config m.zone ≡ None) (λ m choice k. k) (λ m choice k. k)
    (λ n f. number_none fold n.zone f) nodes h

pub apart_opened : (config : List CatalogSettings) → IsApart (opened config)
apart_opened config = tt

pub apart_step : (s : State) (t : Taken) → IsApart s → IsApart (step s (Transfer t))
unfolding counted relisted process
apart_step s t h = step_by s t IsApart h (λ _ _ _. h) (λ _ _ _ _. h)
    (λ _ _ nodes _ _ _. apart_processed s.fold t.zone nodes s.count h)
