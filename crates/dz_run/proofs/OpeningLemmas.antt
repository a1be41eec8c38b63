-- The lines of a configuration.
use Rattle.std.proofs.Common.{◌≡◌, ℕ, zero, suc, ◌<◌, Bool, List, [], ◌∷◌, length, get_or, set, refl, ◌∙◌, ap, subst}
use Rattle.std.proofs.Common.{arith, Option, Some}
use Rattle.std.specs.Prelude.{option_map}
use Rattle.std.specs.List.{position}
use Rattle.dz_name.specs.Name.{same_name}
use Rattle.dz_name.specs.Words.{Name}
use Rattle.dz_settings.specs.declared.config.CatalogSettings.{CatalogSettings}
use Rattle.dz_settings.specs.declared.config.GroupSettings.{GroupSettings}
use Rattle.dz_run.specs.Phase.{IsPut, IsGrouped}
use Rattle.dz_run.specs.Replaying.{at_place, with_group, grouped}

-- what is at a place is changed
pub placed : (change : CatalogSettings → CatalogSettings) (place : ℕ)
    (config : List CatalogSettings) (d : CatalogSettings) → place < length config
    → set config place (change (get_or config place d)) ≡ at_place change place config
unfolding at_place
placed change place [] d inside = absurd (omega arith)
placed change zero (settings ∷ config) d inside = refl
placed change (suc place) (settings ∷ config) d inside =
    ap (λ (rest : List CatalogSettings). settings ∷ rest) (placed change place config d (omega arith))

-- a group joins its catalog
pub grouped_put : (config items new : List CatalogSettings) (name : Name) (group : GroupSettings)
    (place : ℕ) (done : Bool) (left : List CatalogSettings) → items ≡ config
    → Some place ≡ position (λ c. same_name c.name name) items
    → new ≡ at_place (with_group group) place items → IsPut new done left
    → IsGrouped (grouped config name group) done left
grouped_put config items new name group place done left same at is put =
    let there : Some (at_place (with_group group) place items) ≡ grouped items name group =
    ap (option_map (λ place. at_place (with_group group) place items)) at in
    let whole : Some new ≡ grouped config name group = ap (λ (xs : List CatalogSettings). Some xs) is ∙ there
    ∙ ap (λ (xs : List CatalogSettings). grouped xs name group) same in
    subst (λ (o : Option (List CatalogSettings)). IsGrouped o done left) whole put
