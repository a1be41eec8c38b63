-- The list that has a configuration alone.
use Rattle.std.proofs.Common.{◌≡◌, List, [], ◌∷◌, ◌++◌, Option, Some, refl, false}
use Rattle.dz_name.specs.Words.{Octets}
use Rattle.dz_settings.specs.declared.config.CatalogSettings.{CatalogSettings}
use Rattle.dz_settings.specs.Config.{IsAllowed}
use Rattle.dz_history.specs.declared.entry.Entry.TheVariants.{Setup}
use Rattle.dz_history.specs.After.{after, step}
use Rattle.dz_history.specs.Legal.{IsLegal, IsLegalFrom}
use Rattle.dz_provision.specs.Journal.{journal, journal_from, entry_lines}
use Rattle.dz_provision.specs.Log.{IsLogged}
use Rattle.dz_provision.proofs.LogLemmas.{nothing_logged}

module _ (config : List CatalogSettings) where
  pub start_legal : IsAllowed config → IsLegal ([] ++ Setup config ∷ [])
  unfolding IsLegalFrom
  start_legal allowed = ((refl, allowed), tt)

  pub start_table : [] ≡ (after ([] ++ Setup config ∷ [])).table
  unfolding step
  start_table = refl

  start_journal : journal (Setup config ∷ []) ≡ []
  unfolding journal_from entry_lines
  start_journal = refl

  pub start_logged : (held : Option Octets) → ((text : Octets) → held ≡ Some text → text ≡ [])
      → IsLogged (Setup config ∷ []) 0 held false
  start_logged held empty = nothing_logged (Setup config ∷ []) held start_journal empty
